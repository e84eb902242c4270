use Rattle.std.proofs.Common.{◌∙◌, refl}
use Rattle.std.proofs.lemmas.Result.{err_from_is_err_and}
use Rattle.cept_editor.proofs.AppliedInTurn.{gone_none, gone_more, gone_left, all_applied, all_marked, all_cost}
use Rattle.cept_editor.proofs.AppliedInTurn.{all_least, all_stopped, stopped_marked, stopped_cost, stopped_least}
use Rattle.cept_editor.proofs.EditsKept.{StaysBegun-more}
use Rattle.cept_editor.proofs.editor.apply_commands.Goals as goal

pub loop-command-init : goal.loop-command-init
loop-command-init g c = record {
  gone = gone_none c.args.listing.now.listed c.args.listing.now.line c.args.commands c.args.screen.now _ c.args.listing.now.marks.now c.args.steps.now;
  edit = record {
    past = refl;
    future = c.requires.none_undone;
    at_begin = refl;
    begun = c.requires.within.begun;
    fits = c.requires.within.fits;
  };
  quiet = λ _. refl;
  line = refl;
  listed = refl;
  sink = refl;
  marks = refl;
}

pub loop-command-preserved : goal.loop-command-preserved
loop-command-preserved g c = let so_far = c.loop-command.invariant in record {
  gone = gone_more c.args.listing.now.listed c.args.listing.now.line _ _ c.in-Some.command _ _ _ _ _ _ _ _ _ _ _
      (gone_left c.in-Some.ensures.next c.loop-command.invariant.gone) c.in-Some.ensures.valid
      (rw so_far.line at (rw so_far.listed at c.in_ok-apply_command.ensures.applies))
      c.in_ok-apply_command.ensures.puts.cause.stays;
  edit = StaysBegun-more c.loop-command.invariant.edit c.apply_command.ensures.edit;
  quiet = λ none. (c.apply_command.ensures.puts.quiet (so_far.listed ∙ none)).1 ∙ so_far.quiet none;
  line = c.apply_command.ensures.line ∙ so_far.line;
  listed = c.apply_command.ensures.listed ∙ so_far.listed;
  sink = c.apply_command.ensures.borrows.sink ∙ so_far.sink;
  marks = c.apply_command.ensures.borrows.marks ∙ so_far.marks;
}

pub returns-in_err-apply_command-clause-applies : goal.returns-in_err-apply_command-clause-applies
returns-in_err-apply_command-clause-applies g c =
    rw (err_from_is_err_and c.from_residual.result c.from_residual.ensures.1).1 (all_stopped c.args.listing.now.listed c.args.listing.now.line
    _ _ c.in-Some.command _ _ _ _ _ _ _ _ _ (gone_left c.in-Some.ensures.next c.loop-command.invariant.gone)
    (rw c.loop-command.invariant.line at (rw c.loop-command.invariant.listed at c.in_err-apply_command.ensures.applies)))

pub returns-in_err-apply_command-clause-marks : goal.returns-in_err-apply_command-clause-marks
returns-in_err-apply_command-clause-marks g c =
    rw (err_from_is_err_and c.from_residual.result c.from_residual.ensures.1).1 (λ _. stopped_marked c.args.listing.now.listed
    c.args.listing.now.line _ _ c.in-Some.command _ _ _ _ _ _ _ _ _ (gone_left c.in-Some.ensures.next c.loop-command.invariant.gone)
    c.apply_command.ensures.applies.applied c.in_err-apply_command.ensures.shown)

pub returns-in_err-apply_command-clause-cost : goal.returns-in_err-apply_command-clause-cost
returns-in_err-apply_command-clause-cost g c =
    (stopped_cost c.args.listing.now.listed c.args.listing.now.line _ _ c.in-Some.command _ _ _ _ _ _ _ _
    (gone_left c.in-Some.ensures.next c.loop-command.invariant.gone) c.apply_command.ensures.applies.applied).0

pub returns-in_err-apply_command-clause-at_most_24 : goal.returns-in_err-apply_command-clause-at_most_24
returns-in_err-apply_command-clause-at_most_24 g c =
    (stopped_cost c.args.listing.now.listed c.args.listing.now.line _ _ c.in-Some.command _ _ _ _ _ _ _ _
    (gone_left c.in-Some.ensures.next c.loop-command.invariant.gone) c.apply_command.ensures.applies.applied).1

pub returns-in_err-apply_command-clause-least : goal.returns-in_err-apply_command-clause-least
returns-in_err-apply_command-clause-least g c =
    rw (err_from_is_err_and c.from_residual.result c.from_residual.ensures.1).1 (stopped_least c.args.listing.now.listed
    c.args.listing.now.line _ _ c.in-Some.command _ _ _ _ _ _ _ _ _ (gone_left c.in-Some.ensures.next c.loop-command.invariant.gone)
    c.apply_command.ensures.applies.applied)

pub returns-clause-applies : goal.returns-clause-applies
returns-clause-applies g c = all_applied c.args.listing.now.listed c.args.listing.now.line _ _ _ _ _ _ _ _
    (gone_left c.in_default.ensures.next.0 c.loop-command.invariant.gone)

pub returns-clause-marks : goal.returns-clause-marks
returns-clause-marks g c = λ some. all_marked c.args.listing.now.listed c.args.listing.now.line _ _ _ _ _ _ _ _
    (gone_left c.in_default.ensures.next.0 c.loop-command.invariant.gone) some

pub returns-clause-cost : goal.returns-clause-cost
returns-clause-cost g c = (all_cost c.args.listing.now.listed c.args.listing.now.line _ _ _ _ _ _ _ _
    (gone_left c.in_default.ensures.next.0 c.loop-command.invariant.gone)).0

pub returns-clause-at_most_24 : goal.returns-clause-at_most_24
returns-clause-at_most_24 g c = (all_cost c.args.listing.now.listed c.args.listing.now.line _ _ _ _ _ _ _ _
    (gone_left c.in_default.ensures.next.0 c.loop-command.invariant.gone)).1

pub returns-clause-least : goal.returns-clause-least
returns-clause-least g c = all_least c.args.listing.now.listed c.args.listing.now.line _ _ _ _ _ _ _ _
    (gone_left c.in_default.ensures.next.0 c.loop-command.invariant.gone)
