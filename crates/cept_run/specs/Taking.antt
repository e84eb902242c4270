-- How the taking of selected bytes ends, where `Told` says of which bytes the shelf tells that they are all. This project's
-- own. Private clauses alone cite this file.
use Rattle.std.specs.Prelude.{◌≡◌, ℕ, ◌<◌, ◌≤◌, false, List, length, take, Some}
use Rattle.cept_outside.specs.Causes.{Rose}
use Rattle.cept_outside.specs.ShelfState.{ShelfState}
use Rattle.cept_run.specs.Outside.{AreAllTaken}

-- these bytes are left of what is selected, which the shelf tells
abbrev pub AreLeft : ShelfState → List ℕ → Type 0
AreLeft shelf bytes = shelf.left ≡ Some bytes

-- all bytes were taken, these, at most so many
pub record TakesWhole (Told : List ℕ → Type 0) (limit : ℕ) (bytes : List ℕ) (before after : ShelfState) : Type 0 where
  pub known : (all : List ℕ) → Told all → bytes ≡ all
  pub taken : AreAllTaken bytes after
  pub few : length bytes ≤ limit
  pub stays : after.faults ≡ before.faults

-- the shelf failed after so many bytes at most
pub record TakesUnread (limit : ℕ) (before after : ShelfState) : Type 0 where
  pub cause : Rose before.faults after.faults
  pub few : after.taken ≤ limit
  pub unended : after.ended ≡ false

-- there are more than so many bytes
pub record TakesTooMany (Told : List ℕ → Type 0) (limit : ℕ) (before after : ShelfState) : Type 0 where
  pub cause : limit < after.taken
  pub longer : (all : List ℕ) → Told all → limit < length all
  pub stays : after.faults ≡ before.faults

-- these bytes were taken so far
pub record TakesFront (bytes : List ℕ) (before after : ShelfState) : Type 0 where
  pub taken : after.taken ≡ length bytes
  pub known : (all : List ℕ) → AreLeft before all → (after.taken ≤ length all) × (bytes ≡ take after.taken all)
  pub unended : after.ended ≡ false
  pub stays : after.faults ≡ before.faults
