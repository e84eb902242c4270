use Rattle.std.proofs.Common.{refl, ◌∙◌}
use Rattle.cept_profile.specs.Look.{looks_of}
use Rattle.cept_profile.specs.State.{core_of}
use Rattle.cept_live.proofs.LinesMade.{StaysBegun-next, marks-left, marks-none_left, state-left, state-none}
use Rattle.cept_live.proofs.edits.apply_commands.Goals as goal

pub loop-command-init : goal.loop-command-init
loop-command-init g c = record {
  edit = record {
    past = refl;
    at_begin = refl;
    future = c.requires.none_undone;
    begun = c.requires.within.begun;
    fits = c.requires.within.fits;
  };
  state = refl;
  marked = refl;
}

pub loop-command-preserved : goal.loop-command-preserved
loop-command-preserved g c =
    let so_far = c.loop-command.invariant in
    let applied = c.apply.ensures.applied in
    record {
      edit = StaysBegun-next so_far.edit c.apply.ensures.edit;
      state = state-left _ _ c.in-Some.command _ _ c.in-Some.ensures.next applied.after ∙ so_far.state;
      marked = marks-left _ _ c.in-Some.command _ _ _ _ _ c.in-Some.ensures.next applied.after applied.repainted.marks
          (c.add_marks.ensures 0 (looks_of (core_of c.apply.new.screen))) ∙ so_far.marked;
    }

pub returns-clause-state : goal.returns-clause-state
returns-clause-state g c = state-none _ _ c.in_default.ensures.next.0 ∙ c.loop-command.invariant.state

pub returns-clause-changed : goal.returns-clause-changed
returns-clause-changed g c = marks-none_left _ _ _ c.in_default.ensures.next.0 ∙ c.loop-command.invariant.marked
