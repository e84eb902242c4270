-- What a delta keeps true of its fields: places for all old values, and flags where any may be.
use Rattle.std.proofs.Common.{◌≡◌, ◌≢◌, ℕ, ◌+◌, ◌-◌, ◌≤◌, ◌&&◌, ◌==◌, Bool, true, false, cond, nat_le, Option, None}
use Rattle.std.proofs.Common.{List, [], ◌++◌, append-nil, drop, take, get_or, set, length, inl, inr, refl, sym, ap, subst, ◌∙◌, arith}
use Rattle.std.proofs.lemmas.Bool.{cases_eq, true≢false}
use Rattle.std.proofs.lemmas.Bool.Decides.{nat_tests}
use Rattle.std.proofs.lemmas.List.{drop_all, get_or-set_other, get_or-set_same, get_or_default, length-set, take_all}
use Rattle.cept_codes.specs.declared.attribute.Pen.{Pen}
use Rattle.cept_codes.specs.declared.cell.Cell.{Cell}
use Rattle.cept_codes.specs.declared.look.Paint.{Paint}
use Rattle.cept_codes.specs.declared.look.Pattern.{Pattern}
use Rattle.cept_codes.specs.Cell.{blank_cell}
use Rattle.cept_codes.specs.Table.{IsTable, entry, list_by_index, row_of, table, value_at}
use Rattle.cept_codes.proofs.Laws.{IsTable-table, entry-list_by_index, entry_from, length-list_by_index, same_table}
use Rattle.cept_codes.proofs.Laws.{set_row_is, value_at-table}
use Rattle.cept_profile.specs.OldValues.{OldValues, no_old_values, noted_where, old_cell, with_cells}
use Rattle.cept_profile.specs.Control.{ControlState}
use Rattle.cept_delta.specs.declared.delta.TheConstants.{NO_CELLS, NO_DCLUT, NO_PAINTS, NO_PENS, NO_ROWS}
use Rattle.cept_delta.specs.Delta.{HasPlaces, IsKeptDelta}

-- ---- the constants

pub no_cells : NO_CELLS ≡ row_of (λ _. None)
unfolding row_of
no_cells = refl

pub no_pens : NO_PENS ≡ no_old_values.row_pens
unfolding list_by_index
no_pens = refl

pub no_paints : NO_PAINTS ≡ no_old_values.paints
unfolding list_by_index
no_paints = refl

pub no_dclut : NO_DCLUT ≡ no_old_values.dclut
unfolding list_by_index
no_dclut = refl

pub length-no_rows : length NO_ROWS ≡ 24
length-no_rows = refl

-- ---- nothing noted

pub HasPlaces-none : HasPlaces no_old_values
HasPlaces-none = record {
  cells = IsTable-table (λ _ _. None);
  row_pens = length-list_by_index 1 24 (λ _. None);
  paints = length-list_by_index 0 32 (λ _. None);
  dclut = length-list_by_index 0 4 (λ _. None);
  patterns = length-list_by_index 0x21 94 (λ _. None);
}

-- where nothing is noted but control
pub IsKeptDelta-none : (v : OldValues) (rows : List Bool) → v.cells ≡ no_old_values.cells
    → v.row_pens ≡ no_old_values.row_pens → v.paints ≡ no_old_values.paints → v.dclut ≡ no_old_values.dclut
    → v.patterns ≡ no_old_values.patterns → length rows ≡ 24 → IsKeptDelta v rows false false false
IsKeptDelta-none v rows cells row_pens paints dclut patterns flags = record {
  places = record {
    cells = subst (λ (t : List (List (Option Cell))). IsTable t) (sym cells) HasPlaces-none.cells;
    row_pens = ap length row_pens ∙ HasPlaces-none.row_pens;
    paints = ap length paints ∙ HasPlaces-none.paints;
    dclut = ap length dclut ∙ HasPlaces-none.dclut;
    patterns = ap length patterns ∙ HasPlaces-none.patterns;
  };
  flagged = record {
    flags = flags;
    cells = λ r c on unset.
        ap (λ (t : List (List (Option Cell))). value_at None t r c) cells ∙ value_at-table (λ _ _. None) None r c on;
    row_pens = λ unset. row_pens;
    paints = λ unset. paints;
    dclut = λ unset. dclut;
    patterns = λ unset. patterns;
  };
}

-- the values are these where each part is
pub values_are : (v : OldValues) (control : Option ControlState) → v.cells ≡ no_old_values.cells
    → v.row_pens ≡ no_old_values.row_pens → v.screen_pen ≡ None → v.paints ≡ no_old_values.paints
    → v.dclut ≡ no_old_values.dclut → v.patterns ≡ no_old_values.patterns → v.control ≡ control
    → v ≡ record no_old_values { control = control }
values_are v control cells row_pens screen_pen paints dclut patterns is =
    let w : OldValues = record no_old_values { control = control } in
    ap (λ (x : List (List (Option Cell))). record v { cells = x }) cells
    ∙ ap (λ (x : List (Option Pen)). record v { cells = w.cells; row_pens = x }) row_pens
    ∙ ap (λ (x : Option Pen). record v { cells = w.cells; row_pens = w.row_pens; screen_pen = x }) screen_pen
    ∙ ap (λ (x : List (Option Paint)). record w {
      paints = x;
      dclut = v.dclut;
      patterns = v.patterns;
      control = v.control;
    }) paints
    ∙ ap (λ (x : List (Option ℕ)). record w { dclut = x; patterns = v.patterns; control = v.control }) dclut
    ∙ ap (λ (x : List (Option (Option Pattern))). record w { patterns = x; control = v.control }) patterns
    ∙ ap (λ (x : Option ControlState). record w { control = x }) is

-- all of a vector replaced
pub replaced : {X : Type 0} (items new : List X) (n : ℕ) → length new ≡ length items → n ≡ length items
    → take n (new ++ drop (length new) items) ≡ new
replaced items new n long all =
    let rest : drop (length new) items ≡ [] = drop_all (length new) items (omega arith) in
    ap (λ l. take n (new ++ l)) rest ∙ ap (take n) (append-nil new) ∙ take_all n new (omega arith)

-- ---- a row of cells noted

-- the flag of another row stays
unset_other : (rows : List Bool) (i k r : ℕ) → length rows ≡ 24 → i + 1 ≡ k → k ≤ 24 → 1 ≤ r
    → entry false 1 (set rows i true) r ≡ false → (k ≢ r) × (entry false 1 rows r ≡ false)
unset_other rows i k r long e high low unset =
    let read : get_or (set rows i true) (r - 1) false ≡ false = sym (entry_from false 1 (set rows i true) r low) ∙ unset in
    elim (cases_eq k r) [
      | inl same ↦
          let at : r - 1 ≡ i = omega arith in
          absurd (true≢false (sym (get_or-set_same rows i true false (omega (arith, long, high)))
          ∙ ap (λ n. get_or (set rows i true) n false) (sym at) ∙ read))
      | inr other ↦
          let away : r - 1 ≢ i = λ h. other (omega (arith, low)) in
          (other, entry_from false 1 rows r low ∙ sym (get_or-set_other rows i (r - 1) true false away) ∙ read)
    ]

pub IsKeptDelta-row : {v : OldValues} {rows : List Bool} {penned coloured patterned : Bool}
    → IsKeptDelta v rows penned coloured patterned → (i k : ℕ) (new : List (Option Cell)) → i + 1 ≡ k → k ≤ 24
    → length new ≡ 40
    → IsKeptDelta (record v { cells = set v.cells i new }) (set rows i true) penned coloured patterned
IsKeptDelta-row {v} {rows} kept i k new e high long =
    let f : ℕ → ℕ → Option Cell = λ q c. cond (k == q) (entry None 1 new c) (value_at None v.cells q c) in
    let made : set v.cells i new ≡ table f = set_row_is v.cells None i k new kept.places.cells (omega arith) e long in
    record {
      places = record {
        cells = subst (λ (t : List (List (Option Cell))). IsTable t) (sym made) (IsTable-table f);
        row_pens = kept.places.row_pens;
        paints = kept.places.paints;
        dclut = kept.places.dclut;
        patterns = kept.places.patterns;
      };
      flagged = record {
        flags = length-set rows i true ∙ kept.flagged.flags;
        cells = λ r c on unset.
            let parts = unset_other rows i k r kept.flagged.flags e high on.from_top unset in
            let away : k ≢ r = parts.0 in
            let no_match : (k == r) ≡ false = grind (arith, nat_tests) in
            ap (λ (t : List (List (Option Cell))). value_at None t r c) made ∙ value_at-table f None r c on
            ∙ ap (λ b. cond b (entry None 1 new c) (value_at None v.cells r c)) no_match
            ∙ kept.flagged.cells r c on parts.1;
        row_pens = kept.flagged.row_pens;
        paints = kept.flagged.paints;
        dclut = kept.flagged.dclut;
        patterns = kept.flagged.patterns;
      };
    }

-- a row as it is noted, and another as it was
row_choice : (k r from c : ℕ) (x y : Option Cell) (cell : Cell) → (k ≡ r → x ≡ noted_where (nat_le from c) cell y)
    → cond (k == r) x y ≡ noted_where (k == r && nat_le from c) cell y
row_choice k r from c x y cell same =
    elim (cases_eq k r) [
      | inl e ↦
          let here : (k == r) ≡ true = grind (arith, nat_tests) in
          ap (λ b. cond b x y) here ∙ same e ∙ sym (ap (λ b. noted_where (b && nat_le from c) cell y) here)
      | inr ne ↦
          let there : (k == r) ≡ false = grind (arith, nat_tests) in
          ap (λ b. cond b x y) there ∙ sym (ap (λ b. noted_where (b && nat_le from c) cell y) there)
    ]

pub row_of_values : {v now : OldValues} → HasPlaces v → v ≡ now → (i k from : ℕ) (cells : List Cell)
    (row new e : List (Option Cell)) → i + 1 ≡ k → k ≤ 24 → row ≡ get_or v.cells i e
    → new ≡ list_by_index 1 40 (λ c. noted_where (nat_le from c) (entry blank_cell 1 cells c) (entry None 1 row c))
    → record v { cells = set v.cells i new }
    ≡ with_cells (λ r c. k == r && nat_le from c) (λ _ c. entry blank_cell 1 cells c) now
row_of_values {v} {now} has view i k from cells row new e at high read made =
    let long : length new ≡ 40 = ap length made ∙ length-list_by_index 1 40 _ in
    let index : i ≡ k - 1 = omega arith in
    let there : row ≡ get_or v.cells (k - 1) [] =
    read ∙ get_or_default v.cells i e [] (omega (arith, has.cells.rows)) ∙ ap (λ n. get_or v.cells n []) index in
    ap (λ (t : List (List (Option Cell))). record v { cells = t })
    (set_row_is v.cells None i k new has.cells (omega arith) at long
    ∙ same_table (λ r c. cond (k == r) (entry None 1 new c) (value_at None v.cells r c))
    (λ r c. noted_where (k == r && nat_le from c) (entry blank_cell 1 cells c) (old_cell v r c))
    (λ r c on. row_choice k r from c (entry None 1 new c) (value_at None v.cells r c) (entry blank_cell 1 cells c)
    (λ same.
    ap (λ (l : List (Option Cell)). entry None 1 l c) made
    ∙ entry-list_by_index None 1 40
    (λ j. noted_where (nat_le from j) (entry blank_cell 1 cells j) (entry None 1 row j)) c on.from_left
    (omega (arith, on))
    ∙ ap (λ (o : Option Cell). noted_where (nat_le from c) (entry blank_cell 1 cells c) o)
    (entry_from None 1 row c on.from_left
    ∙ ap (λ (l : List (Option Cell)). get_or l (c - 1) None) (there ∙ ap (λ n. get_or v.cells (n - 1) []) same)))))
    ∙ ap (with_cells (λ r c. k == r && nat_le from c) (λ _ c. entry blank_cell 1 cells c)) view
