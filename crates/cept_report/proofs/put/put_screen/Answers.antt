use Rattle.std.proofs.Common.{◌≡◌, ◌∙◌, arith, refl}
use Rattle.cept_report.specs.Screen.{row_line}
use Rattle.cept_report.proofs.TextsInPieces.{Gains-no_piece}
use Rattle.cept_report.proofs.ScreenLines.{Gains-row, Gains-row_failed, Gains-screen}
use Rattle.cept_report.proofs.LinesPut.{PutsText-whole, PutsText-part}
use Rattle.std.proofs.lemmas.Result.{err_from_is_err_and}
use Rattle.cept_report.proofs.put.put_screen.Goals as goal

pub loop-i-init : goal.loop-i-init
loop-i-init g c = record {
  put = Gains-no_piece (g.T.Sink.state c.args.sink.now) (row_line (g.G.Glass.state c.args.glass.now).grid) 1;
  stays = refl;
}

pub loop-i-preserved : goal.loop-i-preserved
loop-i-preserved g c = record {
  put = Gains-row _ _ _ _ _ _ (c.as_slice.ensures.value ∙ c.row_line.ensures) c.loop-i.invariant.put
      c.in_ok-put_all.ensures.puts.whole;
  stays = c.in_ok-put_all.ensures.puts.cause.stays ∙ c.loop-i.invariant.stays;
}

pub returns-in_err-put_all : goal.returns-in_err-put_all
returns-in_err-put_all g c =
    rw (err_from_is_err_and c.from_residual.result c.from_residual.ensures.1).1
    (PutsText-part _ (g.T.Sink.state c.loop-i.sink) _ _ c.loop-i.invariant.stays (Gains-row_failed _ _ _ _ _ _ _ (omega arith)
    (c.as_slice.ensures.value ∙ c.row_line.ensures) c.loop-i.invariant.put c.in_err-put_all.ensures.puts.part)
    c.in_err-put_all.ensures.puts.cause)

pub returns : goal.returns
returns g c =
    PutsText-whole _ _ _ (Gains-screen _ _ _ _ _ (let e : c.loop-i.i ≡ c.args.rows = omega arith in e)
    c.loop-i.invariant.put) c.loop-i.invariant.stays
