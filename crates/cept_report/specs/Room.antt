-- Room in a line, or in several that are gathered, and what a call adds (this project's own).
use Rattle.std.specs.Prelude.{ℕ, ◌≡◌, ◌≤◌, ◌+◌, List, ◌++◌, Result, OnOk}
use Rattle.arrayvec.specs.ArrayVec.{ArrayVec, array_vec_len}
use Rattle.cept_codes.specs.declared.look.Shape.{Shape}
use Rattle.cept_outside.specs.SinkState.{SinkState}
use Rattle.cept_report.specs.Gathered.{Gathers}
use Rattle.cept_report.specs.Text.{shape_text}

-- room for so many bytes more
abbrev pub HasRoomFor : ℕ → ArrayVec ℕ → Type 0
HasRoomFor n line = array_vec_len line + n ≤ 248

-- this text was added, so many bytes at most
pub record Adds (old : ArrayVec ℕ) (n : ℕ) (more : List ℕ) (new : ArrayVec ℕ) : Type 0 where
  pub text : new.items ≡ old.items ++ more
  pub len : array_vec_len new ≤ array_vec_len old + n

-- a shape was gathered, with room left for what stands after it in a line
pub record GathersShape {X E : Type 0} (old : SinkState) (before : ArrayVec ℕ) (shape : Shape) (result : Result X E)
    (new : SinkState) (rest : ArrayVec ℕ) : Type 0 where
  pub gathers : Gathers old before.items (shape_text shape) result new rest.items
  pub room : OnOk result (HasRoomFor 20 rest)
