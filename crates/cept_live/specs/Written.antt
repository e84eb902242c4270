-- A text put at the front of a slice, whole or not at all (this project's own).
use Rattle.std.specs.Prelude.{◌≡◌, ℕ, ◌<◌, ◌≤◌, List, ◌++◌, length, drop, Option, IsNone, IfSome, Result, IfOk, OnErr}

-- the slice has the text at its front, and its length is answered
pub record IsPut (text old : List ℕ) (put : ℕ) (new : List ℕ) : Type 0 where
  pub count : put ≡ length text
  pub fits : length text ≤ length old
  pub front : new ≡ text ++ drop (length text) old

-- there is no room for the text, and the slice stays
pub record IsTooLong (text old new : List ℕ) : Type 0 where
  pub longer : length old < length text
  pub stays : new ≡ old

-- the text is put where there is room for all of it; else none is; after a failure none is either
pub record Writes {E : Type 0} (text old : List ℕ) (result : Result (Option ℕ) E) (new : List ℕ) : Type 0 where
  pub whole : IfOk result (λ put. IfSome put (λ n. IsPut text old n new))
  pub none : IfOk result (λ put. IsNone put → IsTooLong text old new)
  pub stays : OnErr result (new ≡ old)
