-- Valid grids: the blank one, and a grid with a valid look painted.
use Rattle.std.proofs.Common.{◌≡◌, ℕ, ◌-◌, ◌≤◌, ◌==◌, Bool, true, false, cond, List, length, set, sym, subst, arith}
use Rattle.cept_codes.specs.declared.look.Look.{Look}
use Rattle.cept_codes.specs.Look.{blank_look, IsValidLook}
use Rattle.cept_codes.specs.Place.{Place, OnScreen}
use Rattle.cept_codes.specs.Table.{entry, table, value_at}
use Rattle.cept_codes.proofs.Laws.{value_at-table, IsTable-table, set_row_is}
use Rattle.cept_profile.specs.Cells.{is_at}
use Rattle.cept_profile.specs.Changes.{grid_with_paint}
use Rattle.cept_profile.specs.Valid.{IsValidGrid}

-- a table of valid looks is a valid grid
IsValidGrid-table : (f : ℕ → ℕ → Look) → ((r c : ℕ) → OnScreen r c → IsValidLook (f r c)) → IsValidGrid (table f)
IsValidGrid-table f valid = record {
  table = IsTable-table f;
  looks = λ r c on. subst (λ (l : Look). IsValidLook l) (sym (value_at-table f blank_look r c on)) (valid r c on);
}

IsValidLook-blank : IsValidLook blank_look
IsValidLook-blank = record {
  shape = tt;
  part = record {
    down = omega arith;
    right = omega arith;
    wide = (omega arith, omega arith);
    high = (omega arith, omega arith);
  };
  fore = record { r = omega arith; g = omega arith; b = omega arith };
  back = record { r = omega arith; g = omega arith; b = omega arith };
}

pub IsValidGrid-blank : IsValidGrid (table (λ _ _. blank_look))
IsValidGrid-blank = IsValidGrid-table (λ _ _. blank_look) (λ _ _ _. IsValidLook-blank)

valid_choice : (here : Bool) (l old : Look) → IsValidLook l → IsValidLook old → IsValidLook (cond here l old)
valid_choice true l old new was = new
valid_choice false l old new was = was

pub IsValidGrid-grid_with_paint : {g : List (List Look)} → IsValidGrid g → (p : Place) (l : Look) → IsValidLook l
    → IsValidGrid (grid_with_paint g p l)
IsValidGrid-grid_with_paint {g} is p l valid =
    IsValidGrid-table (λ r c. cond (is_at p r c) l (value_at blank_look g r c))
    (λ r c on. valid_choice (is_at p r c) l (value_at blank_look g r c) valid (is.looks r c on))

pub IsValidGrid-with_row : {g : List (List Look)} → IsValidGrid g → (r : ℕ) (row : List Look) → 1 ≤ r → r ≤ 24
    → length row ≡ 40 → ((c : ℕ) → 1 ≤ c → c ≤ 40 → IsValidLook (entry blank_look 1 row c))
    → IsValidGrid (set g (r - 1) row)
IsValidGrid-with_row {g} is r row low high long valid =
    subst (λ (t : List (List Look)). IsValidGrid t)
    (sym (set_row_is g blank_look (r - 1) r row is.table (omega arith) (omega arith) long))
    (IsValidGrid-table (λ q c. cond (r == q) (entry blank_look 1 row c) (value_at blank_look g q c))
    (λ q c on. valid_choice (r == q) (entry blank_look 1 row c) (value_at blank_look g q c)
    (valid c on.from_left on.to_right) (is.looks q c on)))
