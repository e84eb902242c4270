use Rattle.std.proofs.Common.{◌≡◌, ◌*◌, ◌∙◌, arith, refl}
use Rattle.cept_report.proofs.TextsInPieces.{Gains-no_piece, Gains-piece}
use Rattle.cept_report.proofs.ScreenLines.{line_at, line_at-is, Gains-cell_failed, Gains-cells}
use Rattle.cept_report.proofs.LinesPut.{PutsText-whole, PutsText-part}
use Rattle.std.proofs.lemmas.Option.{MatchOption-at_some}
use Rattle.std.proofs.lemmas.Result.{err_from_is_err_and}
use Rattle.cept_report.proofs.put.put_cells.Goals as goal

pub loop-n-init : goal.loop-n-init
loop-n-init g c = record {
  put = Gains-no_piece (g.T.Sink.state c.args.sink.now) (line_at (g.G.Glass.state c.args.glass.now).grid) 0;
  stays = refl;
}

pub loop-n-preserved : goal.loop-n-preserved
loop-n-preserved g c =
    let line = c.as_slice.ensures.value ∙ c.cell_text.ensures
    ∙ line_at-is _ _ _ _
    (MatchOption-at_some _ _ c.unwrap-at.result c.unwrap-at.ensures c.from_number.ensures.place)
    c.shown_look.ensures.look in
    record {
      put = Gains-piece _ _ _ _ _ _ _ line c.loop-n.invariant.put c.in_ok-put_all.ensures.puts.whole;
      stays = c.in_ok-put_all.ensures.puts.cause.stays ∙ c.loop-n.invariant.stays;
    }

pub returns-in_err-put_all : goal.returns-in_err-put_all
returns-in_err-put_all g c =
    let line = c.as_slice.ensures.value ∙ c.cell_text.ensures
    ∙ line_at-is _ _ _ _
    (MatchOption-at_some _ _ c.unwrap-at.result c.unwrap-at.ensures c.from_number.ensures.place)
    c.shown_look.ensures.look in
    rw (err_from_is_err_and c.from_residual.result c.from_residual.ensures.1).1
    (PutsText-part _ (g.T.Sink.state c.loop-n.sink) _ _ c.loop-n.invariant.stays (Gains-cell_failed _ _ _ _ _ c.args.rows _ (omega arith) line
    c.loop-n.invariant.put c.in_err-put_all.ensures.puts.part) c.in_err-put_all.ensures.puts.cause)

pub returns : goal.returns
returns g c =
    PutsText-whole _ _ _ (Gains-cells _ _ _ _ _ (let e : c.loop-n.n ≡ 40 * c.args.rows = omega arith in e)
    c.loop-n.invariant.put) c.loop-n.invariant.stays
