-- The first part of bytes, and what stands after it (this project's own). Clauses alone cite this file.
use Rattle.std.specs.Prelude.{ℕ, ◌≡◌, ◌≤◌, ◌<◌, ◌+◌, List, ◌∷◌, length, take, drop, Option, Some, None}
use Rattle.std.specs.Borrow.{Bor}
use Rattle.cept_words.specs.Lines.{lines}

-- bytes are this part alone; or this part stands at their front, and the rest after one byte more
abbrev pub IsCut : List ℕ → List ℕ → Option (Bor (List ℕ)) → Type 0
IsCut bytes part None = bytes ≡ part
IsCut bytes part (Some rest) =
    (part ≡ take (length part) bytes) × (rest.now ≡ drop (length part + 1) bytes) × (length part < length bytes)

-- the first line of bytes, which stands at their start, and the rest, which stands after it and its end
pub record IsFirstLine (bytes part rest : List ℕ) : Type 0 where
  pub lines : lines bytes ≡ part ∷ lines rest
  pub start : part ≡ take (length part) bytes
  pub within : length part ≤ length bytes
  pub after : rest ≡ drop (length part + 1) bytes
  pub shorter : length rest < length bytes
