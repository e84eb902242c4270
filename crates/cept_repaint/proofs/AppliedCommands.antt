-- A command was applied: from the state before it alone to that after whatever commands.
use Rattle.std.proofs.Common.{◌≡◌, ℕ, Bool, List, [], ◌∷◌, ◌++◌, ap, sym, ◌∙◌, arith}
use Rattle.cept_codes.specs.Command.{IsValidCommand}
use Rattle.cept_codes.specs.declared.command.Command.{Command}
use Rattle.cept_profile.specs.Look.{looks_of}
use Rattle.cept_profile.specs.State.{State, core_of, state, state_after}
use Rattle.cept_profile.specs.Strokes.{strokes_of}
use Rattle.cept_profile.specs.Valid.{AllValid}
use Rattle.cept_profile.proofs.Laws.{state-one_more}
use Rattle.cept_redraw.specs.Marks.{no_marks}
use Rattle.cept_redraw.proofs.Laws.{differences_none, rows_renewed-none}
use Rattle.cept_repaint.specs.Applied.{IsApplied, IsWritten}
use Rattle.cept_repaint.specs.GlassState.{GlassState}
use Rattle.cept_repaint.proofs.Unchanged.{unchanged_grid, unchanged_told}

pub goes_on_after : (old new : State) (command : Command) → IsValidCommand command → new ≡ state_after old command
    → (history : List Command) → AllValid history → old ≡ state history → new ≡ state (history ++ command ∷ [])
goes_on_after old new command good after history valid leads =
    after ∙ ap (λ (s : State). state_after s command) leads ∙ sym (state-one_more history command valid good)

-- no look was changed: nothing was marked or resolved
pub IsWritten-unseen : (old : State) (command : Command) (new : State) (marked : List Bool) (ticks : ℕ)
    → new ≡ state_after old command → looks_of (core_of old) ≡ looks_of (core_of new) → marked ≡ no_marks
    → strokes_of old.control command ≡ [] → IsWritten old command new marked ticks ticks
IsWritten-unseen old command new marked ticks after same none strokes = record {
  after = after;
  marks = differences_none (looks_of (core_of old)) (looks_of (core_of new)) marked none same;
  cost = omega arith;
  least = omega (
    arith,
    rows_renewed-none (strokes_of old.control command) (looks_of (core_of old)) (looks_of (core_of (state_after old command)))
        strokes (same ∙ ap (λ (s : State). looks_of (core_of s)) after),
  );
  at_most_24 = omega arith;
}

-- nor painted
pub IsApplied-unseen : (old : State) (command : Command) (new : State) (marked : List Bool) (glass : GlassState)
    (ticks : ℕ) → IsValidCommand command → new ≡ state_after old command
    → looks_of (core_of old) ≡ looks_of (core_of new) → marked ≡ no_marks → strokes_of old.control command ≡ []
    → IsApplied old command new marked glass glass ticks ticks
IsApplied-unseen old command new marked glass ticks good after same none strokes =
    let written = IsWritten-unseen old command new marked ticks after same none strokes in
    record {
      goes_on = goes_on_after old new command good after;
      after = after;
      repainted = record {
        marks = written.marks;
        shown = unchanged_grid (looks_of (core_of old)) (looks_of (core_of new)) glass same;
        told = unchanged_told (looks_of (core_of old)) (looks_of (core_of new)) glass same;
      };
      cost = written.cost;
      least = written.least;
      at_most_24 = written.at_most_24;
    }
