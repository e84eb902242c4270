-- Tapes (this project's own): the first paints of a glass, as many as there is room for.
use Rattle.std.specs.Prelude.{ℕ, Bool, true, Option, Some, None, List, [], ◌∷◌, ◌++◌, length, nat_lt, if◌then◌else◌}
use Rattle.cept_codes.specs.declared.look.Look.{Look}
use Rattle.cept_codes.specs.Place.{Place}

-- the paints kept, how many there is room for, and whether more than these were made
pub record Tape : Type 0 where
  pub kept : List (Place × Look)
  pub room : ℕ
  pub over : Bool

-- the tape after one more paint
abbrev pub tape_after : Tape → Place → Look → Tape
tape_after t p l = if nat_lt (length t.kept) t.room then record t { kept = t.kept ++ (p, l) ∷ [] }
    else record t { over = true }

-- and after several, one after the other
unfoldable pub tape_after_all : Tape → List (Place × Look) → Tape
tape_after_all t [] = t
tape_after_all t (x ∷ xs) = tape_after_all (tape_after t x.0 x.1) xs

-- all paints, as long as there was room for them
abbrev pub tape_paints : Tape → Option (List (Place × Look))
tape_paints t = if t.over then None else Some t.kept
