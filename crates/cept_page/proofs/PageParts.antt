-- The parts of a page beside its cells: left as they are, or with one entry written, and all parts stroke by stroke.
use Rattle.std.specs.List.{AllByRecursion}
use Rattle.std.proofs.Common.{◌≡◌, ℕ, ◌+◌, ◌≤◌, ◌<◌, ◌==◌, Bool, true, false, cond, List, [], ◌∷◌, drop, get_or, set}
use Rattle.std.proofs.Common.{Option, None, replicate, length, refl, sym, ap, subst, ◌∙◌, inl, inr, arith}
use Rattle.std.proofs.lemmas.Bool.{cases_eq, cond-true, cond-false, true≢false}
use Rattle.std.proofs.lemmas.Bool.Decides.{nat_tests}
use Rattle.std.proofs.lemmas.List.{at_drop_more, at_drop_all}
use Rattle.std.proofs.lemmas.List.Elements.{All-from_recursion}
use Rattle.cept_codes.specs.declared.attribute.Attr.{Attr}
use Rattle.cept_codes.specs.declared.attribute.Pen.{Pen}
use Rattle.cept_codes.specs.declared.look.Paint.{Paint}
use Rattle.cept_codes.specs.declared.look.Pattern.{Pattern}
use Rattle.cept_codes.specs.declared.cell.Cell.{Cell}
use Rattle.cept_codes.specs.declared.stroke.Stroke.{Stroke}
use Rattle.cept_codes.specs.declared.stroke.Stroke.TheVariants as strokes
use Rattle.cept_codes.specs.Attribute.{unset_pen}
use Rattle.cept_codes.specs.Look.{black_paint}
use Rattle.cept_codes.specs.Place.{Place}
use Rattle.cept_codes.specs.Stroke.{IsValidStroke}
use Rattle.cept_codes.specs.Cell.{blank_cell}
use Rattle.cept_codes.specs.Table.{list_by_index, table}
use Rattle.cept_codes.proofs.Laws.{list_by_index-entry, same_indexed, set-entry}
use Rattle.cept_colours.specs.Colours.{ColourTables, default_colours}
use Rattle.cept_codes.specs.declared.command.Up.{Up}
use Rattle.cept_profile.specs.Cells.{cells_after, cells_after_all, shifted}
use Rattle.cept_profile.specs.PageParts.{dclut_in, dclut_list_after, list_of_colours, list_of_dclut, list_of_rows}
use Rattle.cept_profile.specs.PageParts.{paint_in, paints_after, part_after_all, row_pen_in, row_pens_after}
use Rattle.cept_profile.specs.PageParts.{list_of_codes, pattern_in, patterns_after, row_pen_after, screen_pen_after}
use Rattle.cept_profile.specs.Pens.{pen_with}
use Rattle.cept_profile.specs.State.{Page, page_after, state}
use Rattle.cept_profile.specs.Valid.{IsValidPage}
use Rattle.cept_profile.proofs.Laws.{row_pen_after-carried}
use Rattle.cept_page.specs.Drawn.{IsDrawn}

-- ---- lists that a stroke leaves

-- it sets attributes of a row
abbrev pub sets_rows : Stroke → Bool
sets_rows (strokes.RowAttr row attr) = true
sets_rows strokes.Wipe = true
sets_rows (strokes.Carry first last way) = true
sets_rows _ = false

-- a colour entry
abbrev pub sets_paints : Stroke → Bool
sets_paints (strokes.Colour i paint) = true
sets_paints strokes.ColourDefaults = true
sets_paints _ = false

-- an entry of the DCLUT
abbrev pub sets_dclut : Stroke → Bool
sets_dclut (strokes.Dclut i v) = true
sets_dclut strokes.ColourDefaults = true
sets_dclut _ = false

-- a pattern
abbrev pub sets_patterns : Stroke → Bool
sets_patterns (strokes.Drcs code pattern) = true
sets_patterns strokes.DrcsClear = true
sets_patterns _ = false

row_pens_again : (pens : List Pen) → length pens ≡ 24 → list_of_rows (row_pen_in pens) ≡ pens
row_pens_again pens long = list_by_index-entry unset_pen 1 24 pens long

paints_again : (paints : List Paint) → length paints ≡ 32 → list_of_colours (paint_in paints) ≡ paints
paints_again paints long = list_by_index-entry black_paint 0 32 paints long

dclut_again : (dclut : List ℕ) → length dclut ≡ 4 → list_of_dclut (dclut_in dclut) ≡ dclut
dclut_again dclut long = list_by_index-entry 0 0 4 dclut long

patterns_again : (patterns : List (Option Pattern)) → length patterns ≡ 94
    → list_of_codes (pattern_in patterns) ≡ patterns
patterns_again patterns long = list_by_index-entry None 0x21 94 patterns long

pub row_pens_left : (pens : List Pen) (stroke : Stroke) → length pens ≡ 24 → sets_rows stroke ≡ false
    → row_pens_after pens stroke ≡ pens
row_pens_left pens (strokes.Put p cell) long none = row_pens_again pens long
row_pens_left pens (strokes.Erase row from) long none = row_pens_again pens long
row_pens_left pens strokes.Wipe long none = absurd (true≢false none)
row_pens_left pens (strokes.Shift a b way) long none = row_pens_again pens long
row_pens_left pens (strokes.Carry a b way) long none = absurd (true≢false none)
row_pens_left pens (strokes.RowAttr row attr) long none = absurd (true≢false none)
row_pens_left pens (strokes.ScreenAttr attr) long none = row_pens_again pens long
row_pens_left pens strokes.ScreenClear long none = row_pens_again pens long
row_pens_left pens (strokes.Colour i paint) long none = row_pens_again pens long
row_pens_left pens (strokes.Dclut i v) long none = row_pens_again pens long
row_pens_left pens strokes.ColourDefaults long none = row_pens_again pens long
row_pens_left pens strokes.DrcsClear long none = row_pens_again pens long
row_pens_left pens (strokes.Drcs code pattern) long none = row_pens_again pens long
row_pens_left pens (strokes.Format rows) long none = row_pens_again pens long

pub paints_left : (paints : List Paint) (stroke : Stroke) → length paints ≡ 32 → sets_paints stroke ≡ false
    → paints_after paints stroke ≡ paints
paints_left paints (strokes.Put p cell) long none = paints_again paints long
paints_left paints (strokes.Erase row from) long none = paints_again paints long
paints_left paints strokes.Wipe long none = paints_again paints long
paints_left paints (strokes.Shift a b way) long none = paints_again paints long
paints_left paints (strokes.Carry a b way) long none = paints_again paints long
paints_left paints (strokes.RowAttr row attr) long none = paints_again paints long
paints_left paints (strokes.ScreenAttr attr) long none = paints_again paints long
paints_left paints strokes.ScreenClear long none = paints_again paints long
paints_left paints (strokes.Colour i paint) long none = absurd (true≢false none)
paints_left paints (strokes.Dclut i v) long none = paints_again paints long
paints_left paints strokes.ColourDefaults long none = absurd (true≢false none)
paints_left paints strokes.DrcsClear long none = paints_again paints long
paints_left paints (strokes.Drcs code pattern) long none = paints_again paints long
paints_left paints (strokes.Format rows) long none = paints_again paints long

pub dclut_left : (dclut : List ℕ) (stroke : Stroke) → length dclut ≡ 4 → sets_dclut stroke ≡ false
    → dclut_list_after dclut stroke ≡ dclut
dclut_left dclut (strokes.Put p cell) long none = dclut_again dclut long
dclut_left dclut (strokes.Erase row from) long none = dclut_again dclut long
dclut_left dclut strokes.Wipe long none = dclut_again dclut long
dclut_left dclut (strokes.Shift a b way) long none = dclut_again dclut long
dclut_left dclut (strokes.Carry a b way) long none = dclut_again dclut long
dclut_left dclut (strokes.RowAttr row attr) long none = dclut_again dclut long
dclut_left dclut (strokes.ScreenAttr attr) long none = dclut_again dclut long
dclut_left dclut strokes.ScreenClear long none = dclut_again dclut long
dclut_left dclut (strokes.Colour i paint) long none = dclut_again dclut long
dclut_left dclut (strokes.Dclut i v) long none = absurd (true≢false none)
dclut_left dclut strokes.ColourDefaults long none = absurd (true≢false none)
dclut_left dclut strokes.DrcsClear long none = dclut_again dclut long
dclut_left dclut (strokes.Drcs code pattern) long none = dclut_again dclut long
dclut_left dclut (strokes.Format rows) long none = dclut_again dclut long

pub patterns_left : (patterns : List (Option Pattern)) (stroke : Stroke) → length patterns ≡ 94
    → sets_patterns stroke ≡ false → patterns_after patterns stroke ≡ patterns
patterns_left patterns (strokes.Put p cell) long none = patterns_again patterns long
patterns_left patterns (strokes.Erase row from) long none = patterns_again patterns long
patterns_left patterns strokes.Wipe long none = patterns_again patterns long
patterns_left patterns (strokes.Shift a b way) long none = patterns_again patterns long
patterns_left patterns (strokes.Carry a b way) long none = patterns_again patterns long
patterns_left patterns (strokes.RowAttr row attr) long none = patterns_again patterns long
patterns_left patterns (strokes.ScreenAttr attr) long none = patterns_again patterns long
patterns_left patterns strokes.ScreenClear long none = patterns_again patterns long
patterns_left patterns (strokes.Colour i paint) long none = patterns_again patterns long
patterns_left patterns (strokes.Dclut i v) long none = patterns_again patterns long
patterns_left patterns strokes.ColourDefaults long none = patterns_again patterns long
patterns_left patterns strokes.DrcsClear long none = absurd (true≢false none)
patterns_left patterns (strokes.Drcs code pattern) long none = absurd (true≢false none)
patterns_left patterns (strokes.Format rows) long none = patterns_again patterns long

pub ruleset colours_left = (paints_left, dclut_left)

-- ---- an attribute of a row set

one_written : (row k : ℕ) (attr : Attr) (was : ℕ → Pen) (pen : Pen) → pen ≡ pen_with attr (was row)
    → cond (row == k) pen (was k) ≡ cond (row == k) (pen_with attr (was k)) (was k)
one_written row k attr was pen e =
    elim (cases_eq row k) [
      | inl same ↦
          let yes : (row == k) ≡ true = grind (arith, nat_tests) in
          cond-true (row == k) pen (was k) yes ∙ e ∙ ap (λ n. pen_with attr (was n)) same
          ∙ sym (cond-true (row == k) (pen_with attr (was k)) (was k) yes)
      | inr apart ↦
          let no : (row == k) ≡ false = grind (arith, nat_tests) in
          cond-false (row == k) pen (was k) no ∙ sym (cond-false (row == k) (pen_with attr (was k)) (was k) no)
    ]

pub row_pen_written : (pens : List Pen) (row j : ℕ) (attr : Attr) (pen : Pen) → length pens ≡ 24 → 1 ≤ row → row ≤ 24
    → j + 1 ≡ row → pen ≡ pen_with attr (row_pen_in pens row)
    → set pens j pen ≡ row_pens_after pens (strokes.RowAttr row attr)
row_pen_written pens row j attr pen long top bottom e written =
    set-entry unset_pen pen 1 24 j row pens long (omega arith) (omega arith)
    ∙ same_indexed 1 24 (λ k. cond (row == k) pen (row_pen_in pens k))
    (λ k. cond (row == k) (pen_with attr (row_pen_in pens k)) (row_pen_in pens k))
    (λ k low high. one_written row k attr (row_pen_in pens) pen written)

-- attributes that are carried with their rows
pub row_pens_carried : (pens : List Pen) (first last : ℕ) (way : Up)
    → list_of_rows (shifted way first last unset_pen (row_pen_in pens))
    ≡ row_pens_after pens (strokes.Carry first last way)
row_pens_carried pens first last way =
    same_indexed 1 24 (shifted way first last unset_pen (row_pen_in pens))
    (row_pen_after (strokes.Carry first last way) (row_pen_in pens))
    (λ r low high. sym (row_pen_after-carried first last r way (row_pen_in pens)))

-- no attribute of a row set
pub row_pens_unset : replicate 24 unset_pen ≡ list_of_rows (λ _. unset_pen)
unfolding list_by_index
row_pens_unset = refl

-- the page at the start, by its parts
pub page_start : (cells : List (List Cell)) (t : ColourTables) (patterns : List (Option Pattern))
    → cells ≡ table (λ _ _. blank_cell) → t ≡ default_colours → patterns ≡ list_of_codes (λ _. None)
    → (let p : Page = record {
      cells = cells;
      row_pens = replicate 24 unset_pen;
      screen_pen = unset_pen;
      paints = t.paints;
      dclut = t.dclut;
      patterns = patterns;
    } in p) ≡ (state []).page
page_start cells t patterns e et ep i = record {
  cells = e i;
  row_pens = row_pens_unset i;
  screen_pen = unset_pen;
  paints = (et i).paints;
  dclut = (et i).dclut;
  patterns = ep i;
}

-- ---- all parts, stroke by stroke

-- each of some valid strokes is valid
pub valid_item : (xs : List Stroke) → AllByRecursion IsValidStroke xs → (i : ℕ) (x : Stroke) → i < length xs
    → x ≡ get_or xs i x → IsValidStroke x
valid_item xs all i x below item =
    subst (λ (s : Stroke). IsValidStroke s) (sym item) (All-from_recursion IsValidStroke xs all i x below)

page_after-more : (p q : Page) (x : Stroke) (xs : List Stroke) → IsDrawn p x q → page_after q xs ≡ page_after p (x ∷ xs)
unfolding cells_after_all part_after_all
page_after-more p q x xs m i = record {
  cells = cells_after_all (m.cells i) xs;
  row_pens = part_after_all row_pens_after (m.row_pens i) xs;
  screen_pen = part_after_all screen_pen_after (m.screen_pen i) xs;
  paints = part_after_all paints_after (m.paints i) xs;
  dclut = part_after_all dclut_list_after (m.dclut i) xs;
  patterns = part_after_all patterns_after (m.patterns i) xs;
}

pub page_after-drop : (p q : Page) (xs : List Stroke) (i : ℕ) (x : Stroke) → i < length xs → x ≡ get_or xs i x
    → IsDrawn p x q → page_after q (drop (i + 1) xs) ≡ page_after p (drop i xs)
page_after-drop p q xs i x below item m =
    page_after-more p q (get_or xs i x) (drop (i + 1) xs) (subst (λ (y : Stroke). IsDrawn p y q) item m)
    ∙ sym (at_drop_more (page_after p) xs i x below)

page_after-nil : (p : Page) → page_after p [] ≡ p
unfolding cells_after_all part_after_all
page_after-nil p = refl

pub page_after-drop_all : (p : Page) (xs : List Stroke) (i : ℕ) → length xs ≤ i → page_after p (drop i xs) ≡ p
page_after-drop_all p xs i past = at_drop_all (page_after p) xs i past ∙ page_after-nil p

-- no stroke changes nothing
pub page_after-none : (p : Page) (xs : List Stroke) → length xs ≡ 0 → page_after p xs ≡ p
page_after-none p [] none = page_after-nil p
page_after-none p (x ∷ xs) none = absurd (omega arith)

-- one stroke
pub page_after-one : (p q : Page) (x : Stroke) → IsDrawn p x q → q ≡ page_after p (x ∷ [])
page_after-one p q x m = sym (page_after-nil q) ∙ page_after-more p q x [] m

-- a cell that is put leaves all other parts
pub IsDrawn-put : (p : Page) (place : Place) (cell : Cell) (cells : List (List Cell)) → length p.row_pens ≡ 24
    → length p.paints ≡ 32 → length p.dclut ≡ 4 → length p.patterns ≡ 94
    → cells ≡ cells_after p.cells (strokes.Put place cell)
    → IsDrawn p (strokes.Put place cell) (record p { cells = cells })
IsDrawn-put p place cell cells rows colours names codes e = record {
  cells = e;
  row_pens = sym (row_pens_again p.row_pens rows);
  screen_pen = refl;
  paints = sym (paints_again p.paints colours);
  dclut = sym (dclut_again p.dclut names);
  patterns = sym (patterns_again p.patterns codes);
}

pub page_after-put : (p : Page) → IsValidPage p → (place : Place) (cell : Cell)
    → page_after p (strokes.Put place cell ∷ []) ≡ record p { cells = cells_after p.cells (strokes.Put place cell) }
page_after-put p valid place cell =
    let next : Page = record p { cells = cells_after p.cells (strokes.Put place cell) } in
    sym (page_after-more p next (strokes.Put place cell) []
    (IsDrawn-put p place cell next.cells valid.rows valid.colours valid.names valid.codes refl))
    ∙ page_after-nil next
