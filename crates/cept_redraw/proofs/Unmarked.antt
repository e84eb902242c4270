-- Marks before any is set, and marks that are the differences of two grids.
use Rattle.std.proofs.Common.{◌≡◌, ℕ, false, replicate, get_or, length, inl, inr, arith}
use Rattle.std.proofs.lemmas.Bool.{cases_lt}
use Rattle.std.proofs.lemmas.List.{length-replicate, get_or-replicate, get_or_past}
use Rattle.cept_redraw.specs.Marks.{is_marked, no_marks}

unmarked_length : (n : ℕ) → length (replicate n false) ≡ n
unmarked_length n = length-replicate n false

unmarked_at : (n m : ℕ) → get_or (replicate n false) m false ≡ false
unmarked_at n m =
    elim (cases_lt m n) [
      | inl below ↦ get_or-replicate n m false false below
      | inr past ↦ get_or_past
          (replicate n false) m false (omega (arith, unmarked_length n))
    ]

pub length-no_marks : length no_marks ≡ 960
unfolding no_marks
length-no_marks = unmarked_length 960

pub is_marked-no_marks : (m : ℕ) → is_marked no_marks m ≡ false
unfolding no_marks
is_marked-no_marks m = unmarked_at 960 m
