use Rattle.std.proofs.Common.{List, drop, sym, ap, ◌∙◌}
use Rattle.std.proofs.lemmas.Bool.{true≢false}
use Rattle.cept_profile.specs.State.{State}
use Rattle.cept_undo.specs.Past.{handed_on, nearest}
use Rattle.cept_undo.proofs.InTurn.{empty_in_turn, none_in_turn}
use Rattle.cept_undo.proofs.PastAndFuture.{FitsTogether-sides, future-of, held_future, held_future_valid, held_past}
use Rattle.cept_undo.proofs.PastAndFuture.{held_past_valid, past-unbegun, still_none}
use Rattle.cept_undo.proofs.undo.Undo.undo.Goals as goal
use Rattle.cept_undo.proofs.undo.Undo.undo.Goals.{then-move_edit, else-move_edit}

pub move_edit-requires-clause-valid : goal.move_edit-requires-clause-valid
move_edit-requires-clause-valid g c =
    held_past_valid _ c.args.self.now c.args.screen.now c.self.view_is c.requires.between.none_begun c.requires.between.fits

pub move_edit-requires-clause-valid_back : goal.move_edit-requires-clause-valid_back
move_edit-requires-clause-valid_back g c =
    held_future_valid _ c.args.self.now c.args.screen.now c.self.view_is c.requires.between.fits

pub returns-clause-moves : goal.returns-clause-moves
returns-clause-moves g c = record {
  state = c.move_edit.ensures.moves.state
      ∙ ap (λ (l : List State). nearest l c.args.screen.now)
      (held_past _ c.args.self.now c.args.screen.now c.self.view_is c.requires.between.none_begun);
  rest = past-unbegun _ c.move_edit.new.screen
      (still_none _ c.args.self.now c.self.view_is c.requires.between.none_begun)
      ∙ c.move_edit.ensures.moves.rest
      ∙ ap (λ (l : List State). drop 1 l) (held_past _ c.args.self.now c.args.screen.now c.self.view_is c.requires.between.none_begun);
  others = future-of _ c.move_edit.new.screen
      ∙ c.move_edit.ensures.moves.others
      ∙ (λ i. handed_on (held_past _ c.args.self.now c.args.screen.now c.self.view_is c.requires.between.none_begun i)
      c.args.screen.now (held_future _ c.args.self.now c.args.screen.now c.self.view_is i));
}

pub returns-clause-between : goal.returns-clause-between
returns-clause-between g c =
    let none = still_none _ c.args.self.now c.self.view_is c.requires.between.none_begun in
    record { none_begun = none; fits = FitsTogether-sides _ c.move_edit.new.screen none c.move_edit.ensures.valid c.move_edit.ensures.valid_back }

pub returns-clause-nothing : goal.returns-clause-nothing
returns-clause-nothing g c =
    let states = held_past _ c.args.self.now c.args.screen.now c.self.view_is c.requires.between.none_begun in
    elim c.if-move_edit.branch [
      | then-move_edit w ↦ (
        λ same. absurd cc,
        λ empty. absurd (true≢false (sym w.if-move_edit.true
            ∙ c.move_edit.ensures.nothing.1 (none_in_turn c.args.screen.now c.self.inside.kept.items (states ∙ empty)))),
      )
      | else-move_edit w ↦ (
        λ _. sym states
            ∙ empty_in_turn c.args.screen.now c.self.inside.kept.items (c.move_edit.ensures.nothing.0 w.if-move_edit.false),
        λ _. w.result-is,
      )
    ]
