use Rattle.std.proofs.Common.{refl, ap, ◌∙◌, arith}
use Rattle.cept_profile.specs.Look.{looks_of}
use Rattle.cept_profile.specs.State.{core_of}
use Rattle.cept_report.specs.Text.{change_lines}
use Rattle.cept_report.proofs.LinesPut.{below-all, PutsText-part}
use Rattle.cept_report.proofs.TextsGathered.{change_line-is, GainsFront-first, GainsFront-line, GainsFront-line_failed}
use Rattle.cept_report.proofs.TextsGathered.{PutsText-front}
use Rattle.std.proofs.lemmas.Result.{err_from_is_err_and}
use Rattle.cept_report.proofs.put.put_changes_from.Goals as goal

pub loop-at-init : goal.loop-at-init
loop-at-init g c = record {
  within = omega (arith, c.number-from.ensures.below);
  gathered = GainsFront-first (g.T.Sink.state c.args.sink.now) c.args.marks.now (looks_of (core_of c.args.screen.now))
      c.args.label _ c.args.first _ c.requires c.number-from.ensures.number c.new-lines.ensures;
  stays = refl;
}

pub loop-at-preserved : goal.loop-at-preserved
loop-at-preserved g c =
    let line = change_line-is c.args.label _ c.in-Some.at _ (c.as_bytes-number.ensures.value ∙ c.format.ensures.text) in
    record {
      within = omega arith;
      gathered = rw c.number-from-in-Some.ensures.number (GainsFront-line _ _ _ _ _ _ _ _ _ _ _ c.in-Some.ensures.first line
          c.loop-at.invariant.gathered c.in_ok-gather_change.ensures.whole);
      stays = c.in_ok-gather_change.ensures.cause.stays ∙ c.loop-at.invariant.stays;
    }

pub returns-in_err-gather_change : goal.returns-in_err-gather_change
returns-in_err-gather_change g c =
    let line = change_line-is c.args.label _ c.in-Some.at _ (c.as_bytes-number.ensures.value ∙ c.format.ensures.text) in
    rw (err_from_is_err_and c.from_residual.result c.from_residual.ensures.1).1
    (PutsText-part _ (g.T.Sink.state c.loop-at.sink) _ _ c.loop-at.invariant.stays
    (GainsFront-line_failed _ _ _ _ _ _ _ _ _ _ c.in-Some.ensures.first line
    c.loop-at.invariant.gathered c.in_err-gather_change.ensures.part) c.in_err-gather_change.ensures.cause)

pub returns : goal.returns
returns g c =
    PutsText-front _ (g.T.Sink.state c.loop-at.sink) _ _ _ _ _ c.loop-at.invariant.stays c.loop-at.invariant.gathered
    (ap (change_lines c.args.label) (below-all _ _ _ c.loop-at.invariant.within (c.in_default.ensures.none.0 refl)))
    c.put_gathered.ensures
