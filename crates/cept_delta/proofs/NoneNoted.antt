-- Where nothing may be noted, none is; and where none is noted, no place has an old value.
use Rattle.std.proofs.Common.{◌≡◌, ℕ, ◌+◌, ◌-◌, ◌≤◌, false, inl, inr, Option, Some, None, List, [], length, get_or}
use Rattle.std.proofs.Common.{is_some, refl, sym, ap, ◌∙◌, arith}
use Rattle.std.specs.List.{list_any}
use Rattle.std.proofs.Math.ListN.{get_or-eq_default}
use Rattle.std.proofs.lemmas.Bool.{cases_lt, or_parts, true≢false}
use Rattle.std.proofs.lemmas.List.Elements.{All-from_get_or}
use Rattle.std.proofs.lemmas.List.Folds.{list_any_at, list_any_none}
use Rattle.cept_codes.specs.declared.attribute.Pen.{Pen}
use Rattle.cept_codes.specs.declared.cell.Cell.{Cell}
use Rattle.cept_codes.specs.Place.{OnScreen}
use Rattle.cept_codes.specs.Table.{IsTable, entry, list_by_index, value_at}
use Rattle.cept_codes.proofs.Laws.{entry_from}
use Rattle.cept_profile.specs.OldValues.{OldValues, no_old_values, old_row_pen}
use Rattle.cept_delta.specs.Noted.{IsRowUnnoted, notes_cells, notes_row}

-- no cell of a row
pub none_in_row : (cells : List (List (Option Cell))) (r : ℕ) → IsTable cells → 1 ≤ r → r ≤ 24
    → ((c : ℕ) → OnScreen r c → value_at None cells r c ≡ None) → list_any is_some (get_or cells (r - 1) []) ≡ false
none_in_row cells r is low high none =
    let row : List (Option Cell) = get_or cells (r - 1) [] in
    let long : length row ≡ 40 = is.columns (r - 1) [] (omega arith) in
    list_any_none is_some row (All-from_get_or (λ (o : Option Cell). is_some o ≡ false) row None (λ i below.
    let back : i + 1 - 1 ≡ i = omega arith in
    let there : OnScreen r (i + 1) = record {
      from_top = low;
      to_bottom = high;
      from_left = omega arith;
      to_right = omega (arith, below, long);
    } in
    ap is_some (ap (λ j. get_or row j None) (sym back) ∙ none (i + 1) there)))

-- no colour entry, no entry of the DCLUT, no pattern
pub none_of_paints : (old : OldValues) → old.paints ≡ no_old_values.paints → list_any is_some old.paints ≡ false
unfolding list_by_index
none_of_paints old e = ap (list_any is_some) e

pub none_of_dclut : (old : OldValues) → old.dclut ≡ no_old_values.dclut → list_any is_some old.dclut ≡ false
unfolding list_by_index
none_of_dclut old e = ap (list_any is_some) e

pub none_of_patterns : (old : OldValues) → old.patterns ≡ no_old_values.patterns → list_any is_some old.patterns ≡ false
unfolding list_by_index
none_of_patterns old e = ap (list_any is_some) e

-- ---- where none is

none_noted : {X : Type 0} (olds : List (Option X)) (i : ℕ) → list_any is_some olds ≡ false → get_or olds i None ≡ None
none_noted {X} olds i none = by_value (get_or olds i None) refl
  where
    by_value : (o : Option X) → get_or olds i None ≡ o → get_or olds i None ≡ None
    by_value None e = e
    by_value (Some x) e =
        elim (cases_lt i (length olds)) [
          | inl below ↦ absurd (true≢false (sym (list_any_at is_some olds i None below (ap is_some e)) ∙ none))
          | inr past ↦ get_or-eq_default olds None past
        ]

-- an entry of a list
pub entry_none : {X : Type 0} (from : ℕ) (olds : List (Option X)) (k : ℕ) → from ≤ k → list_any is_some olds ≡ false
    → entry None from olds k ≡ None
entry_none from olds k low none = entry_from None from olds k low ∙ none_noted olds (k - from) none

-- nothing of a row
pub unnoted : (old : OldValues) (r : ℕ) → 1 ≤ r → notes_row old r ≡ false → IsRowUnnoted old r
unfolding notes_row
unnoted old r low none =
    let parts = or_parts (notes_cells old r) (is_some (old_row_pen old r)) none in
    record {
      cells = λ c on. none_noted (get_or old.cells (r - 1) []) (c - 1) parts.0;
      pen = no_pen (old_row_pen old r) parts.1;
    }
  where
    no_pen : (o : Option Pen) → is_some o ≡ false → o ≡ None
    no_pen None none = refl
    no_pen (Some x) none = absurd (true≢false none)
