-- The states that undoing edits leads to, and those that redoing them leads to (own). Clauses speak of a past and a future
-- by the edits that are kept and undone and the state of the screen.
use Rattle.std.specs.Prelude.{ℕ, ◌≡◌, ◌≤◌, ◌+◌, Option, Some, None, IsSome, IsNone, IfSome, List, [], ◌∷◌, length, unwrap_or}
use Rattle.std.specs.List.{AllByRecursion}
use Rattle.std.specs.Option.{option_map}
use Rattle.cept_profile.specs.OldValues.{OldValues, unwound}
use Rattle.cept_profile.specs.State.{State}
use Rattle.cept_profile.specs.Valid.{IsValidState}

-- how many edits can be undone at most, and how many undone and redone together
abbrev pub most_kept : ℕ
most_kept = 64

-- the old values of each edit that is kept, those of the latest first, those of each edit that was undone and not redone,
-- the last undone first, and those of the edit that is begun
pub record Edits : Type 0 where
  pub kept : List OldValues
  pub undone : List OldValues
  pub begun : Option OldValues

-- an edit is begun
abbrev pub IsBegun : Edits → Type 0
IsBegun edits = IsSome edits.begun

-- none is
abbrev pub IsNotBegun : Edits → Type 0
IsNotBegun edits = IsNone edits.begun

-- the states that come from this one by unwinding these old values one after the other
unfoldable pub unwound_in_turn : State → List OldValues → List State
unwound_in_turn now [] = []
unwound_in_turn now (old ∷ older) = unwound now old ∷ unwound_in_turn (unwound now old) older

-- the state at which an edit is begun, if one is, where the screen stands at this one
unfoldable pub at_begin : Edits → State → Option State
at_begin edits screen = option_map (unwound screen) edits.begun

-- the states that undoing leads to, the latest first, where the screen stands at this one; while an edit is begun,
-- those before it
unfoldable pub past : Edits → State → List State
past edits screen = unwound_in_turn (unwrap_or (at_begin edits screen) screen) edits.kept

-- the states that redoing leads to, the nearest first, where the screen stands at this one
unfoldable pub future : Edits → State → List State
future edits screen = unwound_in_turn screen edits.undone

-- edits and the state of their screen: every state of the past and of the future is valid, and so is that at which an edit
-- is begun
pub record FitsTogether (edits : Edits) (screen : State) : Type 0 where
  pub past : AllByRecursion IsValidState (past edits screen)
  pub at_begin : IfSome (at_begin edits screen) IsValidState
  pub future : AllByRecursion IsValidState (future edits screen)

-- edits and the state of their screen between two edits: none is begun, and they fit together
pub record IsBetweenEdits (edits : Edits) (screen : State) : Type 0 where
  pub none_begun : IsNotBegun edits
  pub fits : FitsTogether edits screen

-- the same within an edit: it is begun
pub record IsWithinEdit (edits : Edits) (screen : State) : Type 0 where
  pub begun : IsBegun edits
  pub fits : FitsTogether edits screen

-- while an edit is begun and the state of the screen changes, the past stays, and so does the state at its begin; there is
-- no future
pub record StaysBegun (old : Edits) (before : State) (new : Edits) (after : State) : Type 0 where
  pub past : past new after ≡ past old before
  pub at_begin : at_begin new after ≡ at_begin old before
  pub future : future new after ≡ []
  pub begun : IsBegun new
  pub fits : FitsTogether new after

-- while no edit is begun and the state of the screen changes, the past stays, and there is no future
pub record StaysUnbegun (old : Edits) (before : State) (new : Edits) (after : State) : Type 0 where
  pub past : past new after ≡ past old before
  pub future : future new after ≡ []
  pub none_begun : IsNotBegun new
  pub fits : FitsTogether new after

-- the first of these states; where there is none, this one
abbrev pub nearest : List State → State → State
nearest [] now = now
nearest (state ∷ _) now = state

-- the states on the other side after an undo or a redo to the first of these, if any: the state before it is the nearest
abbrev pub handed_on : List State → State → List State → List State
handed_on [] now other = other
handed_on (_ ∷ _) now other = now ∷ other

-- how many there are, 0 or 1
abbrev pub count_begun : Option OldValues → ℕ
count_begun None = 0
count_begun (Some _) = 1

-- places for all edits that may be kept or undone, and as many deltas as make one more with those that are kept, undone
-- and begun, for which there are places; while an edit is begun none is undone
pub record HasRoom (kept : List OldValues) (places : ℕ) (undone : List OldValues) (undone_places : ℕ)
    (begun : Option OldValues) (spare : List OldValues) (spare_places : ℕ) : Type 0 where
  pub edits : places ≡ most_kept
  pub undone_edits : undone_places ≡ most_kept
  pub deltas : spare_places ≡ most_kept + 1
  pub few : length kept + length undone ≤ most_kept
  pub all : length kept + length undone + count_begun begun + length spare ≡ most_kept + 1
  pub alone : IsSome begun → undone ≡ []
