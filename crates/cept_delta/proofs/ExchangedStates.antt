-- Old values exchanged with those of a state lead back to it, and exchanged again they are as they were.
use Rattle.std.proofs.Common.{◌≡◌, ℕ, ◌+◌, ◌≤◌, ◌<◌, Bool, Option, Some, None, List, length, unwrap_or, is_some}
use Rattle.std.proofs.Common.{refl, sym, ap, subst, ◌∙◌, arith}
use Rattle.cept_codes.specs.declared.cell.Cell.{Cell}
use Rattle.cept_codes.specs.Attribute.{unset_pen}
use Rattle.cept_codes.specs.Cell.{blank_cell}
use Rattle.cept_codes.specs.Look.{black_paint}
use Rattle.cept_codes.specs.Table.{IsTable, entry, list_by_index, table, value_at}
use Rattle.cept_codes.proofs.Laws.{IsTable-table, entry-list_by_index, length-list_by_index, list_by_index-entry}
use Rattle.cept_codes.proofs.Laws.{same_indexed, same_table, table-value_at, value_at-table}
use Rattle.cept_profile.specs.OldValues.{OldValues, old_cell}
use Rattle.cept_profile.specs.OldValues.{page_unwound, unwound}
use Rattle.cept_profile.specs.PageParts.{dclut_in, paint_in, pattern_in, row_pen_in}
use Rattle.cept_profile.specs.State.{Page, State}
use Rattle.cept_profile.specs.Valid.{IsValidPage, IsValidState}
use Rattle.cept_delta.specs.Delta.{HasPlaces, IsKeptDelta}
use Rattle.cept_delta.specs.Exchanged.{HasSameLocations, exchanged, noted_instead, page_exchanged}
use Rattle.cept_delta.proofs.ExchangedValues.{noted-none}
use Rattle.cept_delta.proofs.UnwoundPages.{same_parts}

-- ---- one location

-- the value that was there comes back
instead_back : {X : Type 0} (old : Option X) (x : X) → unwrap_or (noted_instead old x) (unwrap_or old x) ≡ x
instead_back None x = refl
instead_back (Some y) x = refl

-- and the old one after it
instead_twice : {X : Type 0} (old : Option X) (x : X) → noted_instead (noted_instead old x) (unwrap_or old x) ≡ old
instead_twice None x = refl
instead_twice (Some y) x = refl

instead_some : {X : Type 0} (old : Option X) (x : X) → is_some (noted_instead old x) ≡ is_some old
instead_some None x = refl
instead_some (Some y) x = refl

-- ---- a list

module _ {X : Type 0} (d : X) (from count : ℕ) (olds : List (Option X)) (xs : List X) where
  abbrev noted_at : ℕ → Option X
  noted_at k = noted_instead (entry None from olds k) (entry d from xs k)

  abbrev value_in : ℕ → X
  value_in k = unwrap_or (entry None from olds k) (entry d from xs k)

  list_back : length xs ≡ count
      → list_by_index from count (λ k. unwrap_or (entry None from (list_by_index from count noted_at) k)
      (entry d from (list_by_index from count value_in) k)) ≡ xs
  list_back long =
      same_indexed from count (λ k. unwrap_or (entry None from (list_by_index from count noted_at) k)
      (entry d from (list_by_index from count value_in) k)) (entry d from xs)
      (λ k low high.
      (λ i. unwrap_or (entry-list_by_index None from count noted_at k low high i)
      (entry-list_by_index d from count value_in k low high i))
      ∙ instead_back (entry None from olds k) (entry d from xs k))
      ∙ list_by_index-entry d from count xs long

  list_twice : length olds ≡ count
      → list_by_index from count (λ k. noted_instead (entry None from (list_by_index from count noted_at) k)
      (entry d from (list_by_index from count value_in) k)) ≡ olds
  list_twice long =
      same_indexed from count (λ k. noted_instead (entry None from (list_by_index from count noted_at) k)
      (entry d from (list_by_index from count value_in) k)) (entry None from olds)
      (λ k low high.
      (λ i. noted_instead (entry-list_by_index None from count noted_at k low high i)
      (entry-list_by_index d from count value_in k low high i))
      ∙ instead_twice (entry None from olds k) (entry d from xs k))
      ∙ list_by_index-entry None from count olds long

  list_some : (k : ℕ) → from ≤ k → k < from + count
      → is_some (entry None from (list_by_index from count noted_at) k) ≡ is_some (entry None from olds k)
  list_some k low high =
      ap (λ (o : Option X). is_some o) (entry-list_by_index None from count noted_at k low high)
      ∙ instead_some (entry None from olds k) (entry d from xs k)

-- ---- cells

module _ (olds : List (List (Option Cell))) (cells : List (List Cell)) where
  abbrev cell_noted_at : ℕ → ℕ → Option Cell
  cell_noted_at r c = noted_instead (value_at None olds r c) (value_at blank_cell cells r c)

  abbrev cell_in : ℕ → ℕ → Cell
  cell_in r c = unwrap_or (value_at None olds r c) (value_at blank_cell cells r c)

  cells_return : IsTable cells
      → table (λ r c. unwrap_or (value_at None (table cell_noted_at) r c) (value_at blank_cell (table cell_in) r c))
      ≡ cells
  cells_return is =
      same_table (λ r c. unwrap_or (value_at None (table cell_noted_at) r c) (value_at blank_cell (table cell_in) r c))
      (value_at blank_cell cells)
      (λ r c on.
      (λ i. unwrap_or (value_at-table cell_noted_at None r c on i) (value_at-table cell_in blank_cell r c on i))
      ∙ instead_back (value_at None olds r c) (value_at blank_cell cells r c))
      ∙ table-value_at cells blank_cell is

  cells_twice : IsTable olds
      → table (λ r c. noted_instead (value_at None (table cell_noted_at) r c) (value_at blank_cell (table cell_in) r c))
      ≡ olds
  cells_twice is =
      same_table (λ r c. noted_instead (value_at None (table cell_noted_at) r c) (value_at blank_cell (table cell_in) r c))
      (value_at None olds)
      (λ r c on.
      (λ i. noted_instead (value_at-table cell_noted_at None r c on i) (value_at-table cell_in blank_cell r c on i))
      ∙ instead_twice (value_at None olds r c) (value_at blank_cell cells r c))
      ∙ table-value_at olds None is

-- ---- states

page_return : (p : Page) (old : OldValues) → IsValidPage p → page_unwound (page_unwound p old) (page_exchanged p old) ≡ p
page_return p old valid =
    same_parts (page_unwound (page_unwound p old) (page_exchanged p old)) p
    (cells_return old.cells p.cells valid.table)
    (list_back unset_pen 1 24 old.row_pens p.row_pens valid.rows)
    (instead_back old.screen_pen p.screen_pen)
    (list_back black_paint 0 32 old.paints p.paints valid.colours)
    (list_back 0 0 4 old.dclut p.dclut valid.names)
    (list_back None 0x21 94 old.patterns p.patterns valid.codes)

pub unwound-exchanged : (s : State) (old : OldValues) → IsValidState s → unwound (unwound s old) (exchanged s old) ≡ s
unwound-exchanged s old valid =
    λ i. record { page = page_return s.page old valid.page i; control = instead_back old.control s.control i }

-- old values with the same parts
pub same_values : (v w : OldValues) → v.cells ≡ w.cells → v.row_pens ≡ w.row_pens → v.screen_pen ≡ w.screen_pen
    → v.paints ≡ w.paints → v.dclut ≡ w.dclut → v.patterns ≡ w.patterns → v.control ≡ w.control → v ≡ w
same_values v w cells row_pens screen_pen paints dclut patterns control = λ i. record {
  cells = cells i;
  row_pens = row_pens i;
  screen_pen = screen_pen i;
  paints = paints i;
  dclut = dclut i;
  patterns = patterns i;
  control = control i;
}

pub exchanged-twice : (s : State) (old : OldValues) → HasPlaces old → exchanged (unwound s old) (exchanged s old) ≡ old
exchanged-twice s old has =
    same_values (exchanged (unwound s old) (exchanged s old)) old
    (cells_twice old.cells s.page.cells has.cells)
    (list_twice unset_pen 1 24 old.row_pens s.page.row_pens has.row_pens)
    (instead_twice old.screen_pen s.page.screen_pen)
    (list_twice black_paint 0 32 old.paints s.page.paints has.paints)
    (list_twice 0 0 4 old.dclut s.page.dclut has.dclut)
    (list_twice None 0x21 94 old.patterns s.page.patterns has.patterns)
    (instead_twice old.control s.control)

-- ---- the locations

pub HasSameLocations-page : (p : Page) (old : OldValues) → HasSameLocations old (page_exchanged p old)
HasSameLocations-page p old = record {
  cells = λ r c on.
      ap (λ (o : Option Cell). is_some o) (value_at-table (cell_noted_at old.cells p.cells) None r c on)
      ∙ instead_some (old_cell old r c) (value_at blank_cell p.cells r c);
  row_pens = λ r low high. list_some unset_pen 1 24 old.row_pens p.row_pens r low (omega (arith, high));
  screen_pen = instead_some old.screen_pen p.screen_pen;
  paints = λ i below. list_some black_paint 0 32 old.paints p.paints i (omega arith) (omega (arith, below));
  dclut = λ i below. list_some 0 0 4 old.dclut p.dclut i (omega arith) (omega (arith, below));
  patterns = λ d low high. list_some None 0x21 94 old.patterns p.patterns d low (omega (arith, high));
  control = refl;
}

pub HasSameLocations-exchanged : (s : State) (old : OldValues) → HasSameLocations old (exchanged s old)
HasSameLocations-exchanged s old =
    let page = HasSameLocations-page s.page old in
    record {
      cells = page.cells;
      row_pens = page.row_pens;
      screen_pen = page.screen_pen;
      paints = page.paints;
      dclut = page.dclut;
      patterns = page.patterns;
      control = instead_some old.control s.control;
    }

-- ---- what a delta keeps true of its fields

pub length-table : {X : Type 0} (f : ℕ → ℕ → X) (t : List (List X)) → t ≡ table f → length t ≡ 24
length-table f t is = ap length is ∙ (IsTable-table f).rows

pub IsKeptDelta-exchanged : (p : Page) (old new : OldValues) {rows : List Bool} {penned coloured patterned : Bool}
    → IsKeptDelta old rows penned coloured patterned → new ≡ page_exchanged p old
    → IsKeptDelta new rows penned coloured patterned
IsKeptDelta-exchanged p old new {rows} {penned} {coloured} {patterned} kept is =
    subst (λ (v : OldValues). IsKeptDelta v rows penned coloured patterned) (sym is) (record {
      places = record {
        cells = IsTable-table (cell_noted_at old.cells p.cells);
        row_pens = length-list_by_index 1 24 _;
        paints = length-list_by_index 0 32 _;
        dclut = length-list_by_index 0 4 _;
        patterns = length-list_by_index 0x21 94 _;
      };
      flagged = record {
        flags = kept.flagged.flags;
        cells = λ r c on unset.
            value_at-table (cell_noted_at old.cells p.cells) None r c on
            ∙ ap (λ (o : Option Cell). noted_instead o (value_at blank_cell p.cells r c))
            (kept.flagged.cells r c on unset);
        row_pens = λ unset.
            sym (noted-none 1 24 (row_pen_in p.row_pens) old.row_pens kept.places.row_pens (kept.flagged.row_pens unset))
            ∙ kept.flagged.row_pens unset;
        paints = λ unset.
            sym (noted-none 0 32 (paint_in p.paints) old.paints kept.places.paints (kept.flagged.paints unset))
            ∙ kept.flagged.paints unset;
        dclut = λ unset.
            sym (noted-none 0 4 (dclut_in p.dclut) old.dclut kept.places.dclut (kept.flagged.dclut unset))
            ∙ kept.flagged.dclut unset;
        patterns = λ unset.
            sym (noted-none 0x21 94 (pattern_in p.patterns) old.patterns kept.places.patterns
            (kept.flagged.patterns unset))
            ∙ kept.flagged.patterns unset;
      };
    })
