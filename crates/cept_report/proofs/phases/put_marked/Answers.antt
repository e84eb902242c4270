use Rattle.std.proofs.Common.{refl, ap, ◌∙◌, arith}
use Rattle.std.proofs.lemmas.Result.{err_from_is_err_and}
use Rattle.cept_flash.specs.Phases.{frame}
use Rattle.cept_report.specs.Text.{change_line}
use Rattle.cept_report.proofs.LinesPut.{Gains-none, Gains-next, Gains-failed, Gains-all, PutsText-whole, PutsText-part}
use Rattle.cept_report.proofs.phases.put_marked.Goals as goal

pub loop-at-init : goal.loop-at-init
loop-at-init g c = record {
  within = omega arith;
  put = Gains-none (g.T.Sink.state c.args.sink.now) c.args.marks.now
      (frame c.args.blink.now.looks c.args.blink.now.phase) c.args.label;
  stays = refl;
}

pub loop-at-preserved : goal.loop-at-preserved
loop-at-preserved g c = record {
  within = omega arith;
  put = rw c.number-from.ensures.number (Gains-next _ _ _ _ _ _ _ _ _ c.in-Some.ensures.first
      (ap (change_line c.args.label c.in-Some.at) c.now.ensures.look) c.loop-at.invariant.put c.in_ok-put_line.ensures.whole);
  stays = c.in_ok-put_line.ensures.cause.stays ∙ c.loop-at.invariant.stays;
}

pub returns-in_err-put_line : goal.returns-in_err-put_line
returns-in_err-put_line g c =
    rw (err_from_is_err_and c.from_residual.result c.from_residual.ensures.1).1
    (PutsText-part _ (g.T.Sink.state c.loop-at.sink) _ _ c.loop-at.invariant.stays (Gains-failed _ _ _ _ _ _ _ _ _ c.in-Some.ensures.first
    (ap (change_line c.args.label c.in-Some.at) c.now.ensures.look)
    c.loop-at.invariant.put c.in_err-put_line.ensures.part) c.in_err-put_line.ensures.cause)

pub returns : goal.returns
returns g c =
    PutsText-whole _ _ _ (Gains-all _ _ _ _ _ _ c.loop-at.invariant.within (c.in_default.ensures.none.0 refl)
    c.loop-at.invariant.put) c.loop-at.invariant.stays
