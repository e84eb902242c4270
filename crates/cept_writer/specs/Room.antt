-- Room for commands and for their bytes while they are made, and what a call adds (this project's own). Private clauses
-- alone cite this file.
use Rattle.std.specs.Prelude.{ℕ, ◌≡◌, ◌≤◌, ◌+◌, List, ◌++◌, length}
use Rattle.arrayvec.specs.ArrayVec.{ArrayVec, array_vec_len}
use Rattle.cept_codes.specs.declared.command.Command.{Command}
use Rattle.cept_profile.specs.Valid.{AllValid}

-- room for so many commands more
abbrev pub HasRoomFor : ℕ → List Command → Type 0
HasRoomFor n list = length list + n ≤ 72

-- these commands were added, so many at most
pub record Adds (old : List Command) (n : ℕ) (more new : List Command) : Type 0 where
  pub commands : new ≡ old ++ more
  pub len : length new ≤ length old + n

-- room for so many bytes more
abbrev pub HasRoomForBytes : ℕ → ArrayVec ℕ → Type 0
HasRoomForBytes n text = array_vec_len text + n ≤ 7272

-- these bytes were added, so many at most
pub record AddsBytes (old : ArrayVec ℕ) (n : ℕ) (more : List ℕ) (new : ArrayVec ℕ) : Type 0 where
  pub text : new.items ≡ old.items ++ more
  pub len : array_vec_len new ≤ array_vec_len old + n

-- valid commands of a part of a page
pub record AreWritable (commands : List Command) : Type 0 where
  pub few : length commands ≤ 72
  pub valid : AllValid commands
