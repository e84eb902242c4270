-- Worked cases of what a glass is told, by computing: lists of paints, the flagged places of a row, and tapes.
use Rattle.std.proofs.Common.{◌≡◌, ◌==◌, ◌&&◌, ◌||◌, true, false, List, [], ◌∷◌, ◌++◌}
use Rattle.std.proofs.Common.{Option, Some, None, unwrap_or, refl, ap, sym, ◌∙◌}
use Rattle.std.specs.Prelude.{if◌then◌else◌}
use Rattle.cept_codes.specs.declared.look.Look.{Look}
use Rattle.cept_codes.specs.Look.{blank_look}
use Rattle.cept_codes.specs.Place.{Place}
use Rattle.cept_codes.specs.Table.{list_by_index, row_of, table}
use Rattle.cept_repaint.specs.GlassState.{Lists, flagged_looks}
use Rattle.cept_repaint.specs.Tape.{Tape, tape_after_all, tape_paints}

-- ---- lists

-- a paint is told after the former ones, which stay
told_after : (a b : Place × Look) (now : List (Place × Look)) → Lists (Some (a ∷ [])) (b ∷ []) (Some now)
    → now ≡ a ∷ b ∷ []
told_after a b now lists =
    let found = lists.told now refl in
    found.2 ∙ ap (λ (former : Option (List (Place × Look))). unwrap_or former [] ++ b ∷ []) (sym found.1)

-- ---- the flagged places of a row

abbrev lined : Look
lined = record blank_look { lined = true }

-- the last column alone is lined in row 3
abbrev lined_grid : List (List Look)
lined_grid = table (λ r c. if r == 3 && c == 40 then lined else blank_look)

from_the_left : flagged_looks (list_by_index 1 40 (λ c. c == 1 || c == 40)) 3 lined_grid
    ≡ (record { row = 3; column = 1 }, blank_look) ∷ (record { row = 3; column = 40 }, lined) ∷ []
unfolding flagged_looks table row_of list_by_index
from_the_left = refl

-- ---- tapes

module _ (p q : Place) (a b : Look) where
  -- with room for one of two paints: the first is kept, and that there was one more
  abbrev two_on_one : Tape
  two_on_one = tape_after_all (record { kept = []; room = 1; over = false }) ((p, a) ∷ (q, b) ∷ [])

  first_is_kept : two_on_one ≡ record { kept = (p, a) ∷ []; room = 1; over = true }
  unfolding tape_after_all
  first_is_kept = refl

  none_is_told : tape_paints two_on_one ≡ None
  unfolding tape_after_all
  none_is_told = refl

  -- with room for both, both in their order
  both_are_told : tape_paints (tape_after_all (record { kept = []; room = 2; over = false }) ((p, a) ∷ (q, b) ∷ []))
      ≡ Some ((p, a) ∷ (q, b) ∷ [])
  unfolding tape_after_all
  both_are_told = refl
