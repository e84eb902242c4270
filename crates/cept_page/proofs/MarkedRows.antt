-- Rows in which no marker stands and no double size is set: their flags at the start and after a stroke.
use Rattle.std.proofs.Common.{◌≡◌, ℕ, ◌≤◌, ◌-◌, ◌&&◌, ◌==◌, not, Bool, true, false, cond, List, replicate, length, leb}
use Rattle.std.proofs.Common.{None, ◌+◌, eqb, sym, ap, refl, ◌∙◌, arith}
use Rattle.std.proofs.lemmas.Bool.{and_parts, eqb-false, leb-true, or_parts}
use Rattle.std.proofs.lemmas.List.{length-replicate}
use Rattle.cept_codes.specs.declared.attribute.Attr.{Attr}
use Rattle.cept_codes.specs.declared.attribute.Attr.TheVariants as attrs
use Rattle.cept_codes.specs.declared.attribute.Pen.{Pen}
use Rattle.cept_codes.specs.declared.cell.Cell.{Cell}
use Rattle.cept_codes.specs.declared.cell.What.{What}
use Rattle.cept_codes.specs.declared.cell.What.TheVariants as whats
use Rattle.cept_codes.specs.declared.stroke.Stroke.{Stroke}
use Rattle.cept_codes.specs.declared.stroke.Stroke.TheVariants as strokes
use Rattle.cept_codes.specs.declared.command.Up.{Up}
use Rattle.cept_codes.specs.declared.command.Up.TheVariants as ways
use Rattle.cept_codes.specs.Command.{IsArea}
use Rattle.cept_codes.specs.Stroke.{IsValidStroke}
use Rattle.cept_codes.specs.Attribute.{unset_pen}
use Rattle.cept_codes.specs.Cell.{blank_cell}
use Rattle.cept_codes.specs.Place.{IsRow, OnScreen, Place}
use Rattle.cept_codes.specs.Table.{value_at, entry, table}
use Rattle.cept_codes.proofs.Laws.{entry-list_by_index, length-list_by_index, value_at-table}
use Rattle.cept_profile.specs.Cells.{cell_after, cells_after, shifted}
use Rattle.cept_profile.specs.Look.{is_double_set, sets_double_size}
use Rattle.cept_profile.specs.Colours.{default_paint}
use Rattle.cept_profile.specs.PageParts.{dclut_after, dclut_in, list_of_colours, list_of_dclut}
use Rattle.cept_profile.specs.PageParts.{list_of_codes, list_of_rows, paint_after, paint_in, pattern_after, pattern_in}
use Rattle.cept_profile.specs.PageParts.{row_pen_after, row_pen_in}
use Rattle.cept_profile.specs.Pens.{pen_with}
use Rattle.cept_profile.specs.Serial.{is_marker}
use Rattle.cept_profile.specs.State.{Page}
use Rattle.cept_profile.proofs.Laws.{row_pen_after-carried}
use Rattle.cept_page.specs.Drawn.{IsDrawn}
use Rattle.cept_page.specs.MarkedRows.{HasNone, IsKeptPage}
use Rattle.cept_page.specs.inside.MarkedRows.{AreFlagsAfter, flag_after, gives_size}
use Rattle.cept_page.specs.MarkedRows.{StandsAlone}
use Rattle.cept_page.specs.inside.MarkedRows.{IsUnflagged, size_flag_after}

-- ---- at the start

HasNone-start : (is_such : What → Bool) → is_such whats.Blank ≡ false → (cells : List (List Cell))
    → cells ≡ table (λ _ _. blank_cell) → (r : ℕ) → HasNone is_such cells r
HasNone-start is_such blank cells e r c on =
    ap (λ (t : List (List Cell)). is_such (value_at blank_cell t r c).what) e
    ∙ ap (λ (x : Cell). is_such x.what) (value_at-table (λ _ _. blank_cell) blank_cell r c on) ∙ blank

pub IsKeptPage-start : (p : Page) → p.cells ≡ table (λ _ _. blank_cell) → p.row_pens ≡ list_of_rows (λ _. unset_pen)
    → p.paints ≡ list_of_colours default_paint → p.dclut ≡ list_of_dclut (λ i. i)
    → p.patterns ≡ list_of_codes (λ d. None) → IsKeptPage p (replicate 24 false) (replicate 24 false)
IsKeptPage-start p cells pens paints dclut patterns = record {
  rows = ap length pens ∙ length-list_by_index 1 24 (λ _. unset_pen);
  colours = ap length paints ∙ length-list_by_index 0 32 default_paint;
  names = ap length dclut ∙ length-list_by_index 0 4 (λ i. i);
  codes = ap length patterns ∙ length-list_by_index 0x21 94 (λ d. None);
  markers = record {
    rows = length-replicate 24 false;
    none = λ r top bottom unset. HasNone-start is_marker refl p.cells cells r;
  };
  sizes = record {
    rows = length-replicate 24 false;
    none = λ r top bottom unset. record {
      cells = HasNone-start sets_double_size refl p.cells cells r;
      pen = ap (λ (l : List Pen). is_double_set (row_pen_in l r).size) pens
          ∙ ap (λ (x : Pen). is_double_set x.size)
          (entry-list_by_index unset_pen 1 24 (λ _. unset_pen) r top (omega arith));
    };
  };
}

-- ---- after a stroke: the cells of a row

-- the rows that a stroke moves are those of an area
abbrev pub IsAreaOf : Stroke → Type 0
IsAreaOf (strokes.Shift a b way) = IsArea a b
IsAreaOf (strokes.Carry a b way) = IsArea a b
IsAreaOf stroke = Unit {0}

pub IsAreaOf-valid : (stroke : Stroke) → IsValidStroke stroke → IsAreaOf stroke
IsAreaOf-valid (strokes.Shift a b way) valid = valid
IsAreaOf-valid (strokes.Carry a b way) valid = valid
IsAreaOf-valid stroke valid = tt

-- by the cases of two tests, the second where the first holds
by_both : (inside edge : Bool) (P : Bool → Bool → Type 0) → (inside ≡ true → edge ≡ true → P true true)
    → (inside ≡ true → edge ≡ false → P true false) → (inside ≡ false → P false edge) → P inside edge
by_both true true P at_edge within outside = at_edge refl refl
by_both true false P at_edge within outside = within refl refl
by_both false edge P at_edge within outside = outside refl

-- what is put is nothing such in its own row, and nothing such stood there
none_put : (is_such : What → Bool) (here there free : Bool) (cell was : Cell) → is_such was.what ≡ false
    → (here && is_such cell.what) ≡ false → is_such (cond ((here && there) && free) cell was).what ≡ false
none_put is_such false there free cell was old new = old
none_put is_such true true true cell was old new = new
none_put is_such true true false cell was old new = old
none_put is_such true false free cell was old new = old

none_erased : (is_such : What → Bool) → is_such whats.Blank ≡ false → (gone : Bool) (was : Cell)
    → is_such was.what ≡ false → is_such (cond gone blank_cell was).what ≡ false
none_erased is_such blank true was old = blank
none_erased is_such blank false was old = old

-- what a shift moves into a row whose moved flag is unset
none_shifted : (is_such : What → Bool) → is_such whats.Blank ≡ false → (a b : ℕ) (way : Up) → IsArea a b
    → (was : ℕ → ℕ → Cell) (flags : ℕ → Bool) (r c : ℕ) → 1 ≤ r → r ≤ 24
    → ((q : ℕ) → 1 ≤ q → q ≤ 24 → flags q ≡ false → is_such (was q c).what ≡ false)
    → shifted way a b false flags r ≡ false
    → is_such (shifted way a b blank_cell (λ q. was q c) r).what ≡ false
none_shifted is_such blank a b ways.Up area was flags r c top bottom old unset =
    by_both (leb a r && leb r b) (eqb r b) (λ (inside last : Bool). cond inside (cond last false (flags (r + 1))) (flags r)
    ≡ false → is_such (cond inside (cond last blank_cell (was (r + 1) c)) (was r c)).what ≡ false)
    (λ i l u. blank)
    (λ i l u. let high = leb-true r b (and_parts (leb a r) (leb r b) i).1 in
    let apart = eqb-false r b l in old (r + 1) (omega arith) (omega (arith, area, high, apart)) u)
    (λ i u. old r top bottom u) unset
none_shifted is_such blank a b ways.Down area was flags r c top bottom old unset =
    by_both (leb a r && leb r b) (eqb r a) (λ (inside first : Bool). cond inside (cond first false (flags (r - 1))) (flags r)
    ≡ false → is_such (cond inside (cond first blank_cell (was (r - 1) c)) (was r c)).what ≡ false)
    (λ i l u. blank)
    (λ i l u. let low = leb-true a r (and_parts (leb a r) (leb r b) i).0 in
    let apart = eqb-false r a l in old (r - 1) (omega (arith, area, low, apart)) (omega (arith, bottom)) u)
    (λ i u. old r top bottom u) unset

-- in a row whose flag is unset after a stroke nothing such stands then
none_seen : (is_such : What → Bool) → is_such whats.Blank ≡ false → (stroke : Stroke) → IsAreaOf stroke
    → (was : ℕ → ℕ → Cell) (flags : ℕ → Bool) (r c : ℕ) → 1 ≤ r → r ≤ 24
    → ((q : ℕ) → 1 ≤ q → q ≤ 24 → flags q ≡ false → is_such (was q c).what ≡ false)
    → flag_after is_such stroke flags r ≡ false → is_such (cell_after stroke was r c).what ≡ false
none_seen is_such blank (strokes.Put p cell) area was flags r c top bottom old unset =
    let parts = or_parts (flags r) (p.row == r && is_such cell.what) unset in
    none_put is_such (p.row == r) (p.column == c) (not (was r c).protected) cell (was r c) (old r top bottom parts.0)
    parts.1
none_seen is_such blank (strokes.Erase row from) area was flags r c top bottom old unset =
    none_erased is_such blank ((r == row && leb from c) && not (was r c).protected) (was r c) (old r top bottom unset)
none_seen is_such blank strokes.Wipe area was flags r c top bottom old unset = blank
none_seen is_such blank (strokes.Shift a b way) area was flags r c top bottom old unset =
    none_shifted is_such blank a b way area was flags r c top bottom old unset
none_seen is_such blank (strokes.Carry a b way) area was flags r c top bottom old unset =
    none_shifted is_such blank a b way area was flags r c top bottom old unset
none_seen is_such blank (strokes.RowAttr row attr) area was flags r c top bottom old unset = old r top bottom unset
none_seen is_such blank (strokes.ScreenAttr attr) area was flags r c top bottom old unset = old r top bottom unset
none_seen is_such blank strokes.ScreenClear area was flags r c top bottom old unset = old r top bottom unset
none_seen is_such blank (strokes.Colour i paint) area was flags r c top bottom old unset = old r top bottom unset
none_seen is_such blank (strokes.Dclut i v) area was flags r c top bottom old unset = old r top bottom unset
none_seen is_such blank strokes.ColourDefaults area was flags r c top bottom old unset = old r top bottom unset
none_seen is_such blank strokes.DrcsClear area was flags r c top bottom old unset = old r top bottom unset
none_seen is_such blank (strokes.Drcs code pattern) area was flags r c top bottom old unset = old r top bottom unset
none_seen is_such blank (strokes.Format rows) area was flags r c top bottom old unset = old r top bottom unset

HasNone-after : (is_such : What → Bool) → is_such whats.Blank ≡ false → (stroke : Stroke) → IsAreaOf stroke
    → (cells next : List (List Cell)) (flags : ℕ → Bool) (r : ℕ) → 1 ≤ r → r ≤ 24 → next ≡ cells_after cells stroke
    → ((q : ℕ) → 1 ≤ q → q ≤ 24 → flags q ≡ false → HasNone is_such cells q)
    → flag_after is_such stroke flags r ≡ false → HasNone is_such next r
HasNone-after is_such blank stroke area cells next flags r top bottom e old unset c on =
    ap (λ (t : List (List Cell)). is_such (value_at blank_cell t r c).what) e
    ∙ ap (λ (x : Cell). is_such x.what)
    (value_at-table (cell_after stroke (value_at blank_cell cells)) blank_cell r c on)
    ∙ none_seen is_such blank stroke area (value_at blank_cell cells) flags r c top bottom (λ q low high was.
    let there : OnScreen q c =
    record { from_top = low; to_bottom = high; from_left = on.from_left; to_right = on.to_right } in
    old q low high was c there) unset

-- ---- its attributes

-- an attribute of no double size sets none
single_with : (attr : Attr) (pen : Pen) → is_double_set pen.size ≡ false → gives_size attr ≡ false
    → is_double_set (pen_with attr pen).size ≡ false
single_with (attrs.Fore e) pen old new = old
single_with (attrs.Back e) pen old new = old
single_with attrs.NoBack pen old new = old
single_with (attrs.Flash f) pen old new = old
single_with (attrs.Conceal b) pen old new = old
single_with (attrs.Lined b) pen old new = old
single_with (attrs.Boxed b) pen old new = old
single_with (attrs.Size s) pen old new = new
single_with (attrs.Invert b) pen old new = old

single_if : (here : Bool) (attr : Attr) (pen : Pen) → is_double_set pen.size ≡ false → (here && gives_size attr) ≡ false
    → is_double_set (cond here (pen_with attr pen) pen).size ≡ false
single_if true attr pen old new = single_with attr pen old new
single_if false attr pen old new = old

-- of attributes that came with their row, where the flag that came with it is unset
single_carried : (a b : ℕ) (way : Up) → IsArea a b → (was : ℕ → Pen) (flags : ℕ → Bool) (r : ℕ) → 1 ≤ r → r ≤ 24
    → ((q : ℕ) → 1 ≤ q → q ≤ 24 → flags q ≡ false → is_double_set (was q).size ≡ false)
    → shifted way a b false flags r ≡ false → is_double_set (shifted way a b unset_pen was r).size ≡ false
single_carried a b ways.Up area was flags r top bottom old unset =
    by_both (leb a r && leb r b) (eqb r b) (λ (inside last : Bool). cond inside (cond last false (flags (r + 1))) (flags r)
    ≡ false → is_double_set (cond inside (cond last unset_pen (was (r + 1))) (was r)).size ≡ false)
    (λ i l u. refl)
    (λ i l u. let high = leb-true r b (and_parts (leb a r) (leb r b) i).1 in
    let apart = eqb-false r b l in old (r + 1) (omega arith) (omega (arith, area, high, apart)) u)
    (λ i u. old r top bottom u) unset
single_carried a b ways.Down area was flags r top bottom old unset =
    by_both (leb a r && leb r b) (eqb r a) (λ (inside first : Bool). cond inside (cond first false (flags (r - 1))) (flags r)
    ≡ false → is_double_set (cond inside (cond first unset_pen (was (r - 1))) (was r)).size ≡ false)
    (λ i l u. refl)
    (λ i l u. let low = leb-true a r (and_parts (leb a r) (leb r b) i).0 in
    let apart = eqb-false r a l in old (r - 1) (omega (arith, area, low, apart)) (omega (arith, bottom)) u)
    (λ i u. old r top bottom u) unset

-- in a row whose flag of sizes is unset after a stroke no attribute of the row is a double size then
single_after : (stroke : Stroke) → IsAreaOf stroke → (was : ℕ → Pen) (flags : ℕ → Bool)
    → ((q : ℕ) → 1 ≤ q → q ≤ 24 → flags q ≡ false → is_double_set (was q).size ≡ false) → (r : ℕ) → 1 ≤ r → r ≤ 24
    → size_flag_after stroke flags r ≡ false → is_double_set (row_pen_after stroke was r).size ≡ false
single_after (strokes.Put p cell) area was flags old r top bottom unset =
    old r top bottom (or_parts (flags r) (p.row == r && sets_double_size cell.what) unset).0
single_after (strokes.RowAttr row attr) area was flags old r top bottom unset =
    let parts = or_parts (flags r) (row == r && gives_size attr) unset in
    single_if (row == r) attr (was r) (old r top bottom parts.0) parts.1
single_after strokes.Wipe area was flags old r top bottom unset = refl
single_after (strokes.Shift a b way) area was flags old r top bottom unset =
    old r top bottom (or_parts (flags r) (shifted way a b false flags r) unset).0
single_after (strokes.Carry a b way) area was flags old r top bottom unset =
    ap (λ (p : Pen). is_double_set p.size) (row_pen_after-carried a b r way was)
    ∙ single_carried a b way area was flags r top bottom old (or_parts (flags r) (shifted way a b false flags r) unset).1
single_after (strokes.Erase row from) area was flags old r top bottom unset = old r top bottom unset
single_after (strokes.ScreenAttr attr) area was flags old r top bottom unset = old r top bottom unset
single_after strokes.ScreenClear area was flags old r top bottom unset = old r top bottom unset
single_after (strokes.Colour i paint) area was flags old r top bottom unset = old r top bottom unset
single_after (strokes.Dclut i v) area was flags old r top bottom unset = old r top bottom unset
single_after strokes.ColourDefaults area was flags old r top bottom unset = old r top bottom unset
single_after strokes.DrcsClear area was flags old r top bottom unset = old r top bottom unset
single_after (strokes.Drcs code pattern) area was flags old r top bottom unset = old r top bottom unset
single_after (strokes.Format rows) area was flags old r top bottom unset = old r top bottom unset

-- the flag of sizes is set where what is put sets one
flag_of_cells : (stroke : Stroke) (r : ℕ) (flags : ℕ → Bool) → size_flag_after stroke flags r ≡ false
    → flag_after sets_double_size stroke flags r ≡ false
flag_of_cells (strokes.Put p cell) r flags unset = unset
flag_of_cells (strokes.RowAttr row attr) r flags unset = (or_parts (flags r) (row == r && gives_size attr) unset).0
flag_of_cells strokes.Wipe r flags unset = unset
flag_of_cells (strokes.Erase row from) r flags unset = unset
flag_of_cells (strokes.Shift a b way) r flags unset =
    (or_parts (flags r) (shifted way a b false flags r) unset).1
flag_of_cells (strokes.Carry a b way) r flags unset =
    (or_parts (flags r) (shifted way a b false flags r) unset).1
flag_of_cells (strokes.ScreenAttr attr) r flags unset = unset
flag_of_cells strokes.ScreenClear r flags unset = unset
flag_of_cells (strokes.Colour i paint) r flags unset = unset
flag_of_cells (strokes.Dclut i v) r flags unset = unset
flag_of_cells strokes.ColourDefaults r flags unset = unset
flag_of_cells strokes.DrcsClear r flags unset = unset
flag_of_cells (strokes.Drcs code pattern) r flags unset = unset
flag_of_cells (strokes.Format rows) r flags unset = unset

-- ---- the flags

pub IsKeptPage-after : {p q : Page} {marked sized marked_after sized_after : List Bool} {stroke : Stroke}
    → IsAreaOf stroke → IsKeptPage p marked sized → IsDrawn p stroke q → AreFlagsAfter stroke marked sized marked_after sized_after
    → IsKeptPage q marked_after sized_after
IsKeptPage-after {p} {q} {marked} {sized} {marked_after} {sized_after} {stroke} area m drawn flags = record {
  rows = ap length drawn.row_pens ∙ length-list_by_index 1 24 (row_pen_after stroke (row_pen_in p.row_pens));
  colours = ap length drawn.paints ∙ length-list_by_index 0 32 (paint_after stroke (paint_in p.paints));
  names = ap length drawn.dclut ∙ length-list_by_index 0 4 (dclut_after stroke (dclut_in p.dclut));
  codes = ap length drawn.patterns ∙ length-list_by_index 0x21 94 (pattern_after stroke (pattern_in p.patterns));
  markers = record {
    rows = flags.marked_rows;
    none = λ r top bottom unset.
        HasNone-after is_marker refl stroke area p.cells q.cells (entry false 1 marked) r top bottom drawn.cells
        m.markers.none (sym (flags.marked r top bottom) ∙ unset);
  };
  sizes = record {
    rows = flags.sized_rows;
    none = λ r top bottom unset.
        let said : size_flag_after stroke (entry false 1 sized) r ≡ false = sym (flags.sized r top bottom) ∙ unset in
        record {
          cells = HasNone-after sets_double_size refl stroke area p.cells q.cells (entry false 1 sized) r top bottom
              drawn.cells (λ k low high was. (m.sizes.none k low high was).cells)
              (flag_of_cells stroke r (entry false 1 sized) said);
          pen = ap (λ (l : List Pen). is_double_set (row_pen_in l r).size) drawn.row_pens
              ∙ ap (λ (x : Pen). is_double_set x.size)
              (entry-list_by_index unset_pen 1 24 (row_pen_after stroke (row_pen_in p.row_pens)) r top (omega arith))
              ∙ single_after stroke area (row_pen_in p.row_pens) (entry false 1 sized)
              (λ k low high was. (m.sizes.none k low high was).pen) r top bottom said;
        };
  };
}

-- ---- rows without flags

-- a row whose flags are unset stands alone, if the row above sets no size
pub StandsAlone-unflagged : {p : Page} {marked sized : List Bool} → IsKeptPage p marked sized → (r : ℕ) → 1 ≤ r → r ≤ 24
    → IsUnflagged marked sized r → StandsAlone p r
StandsAlone-unflagged {p} {marked} {sized} m r top bottom is = record {
  unmarked = m.markers.none r top bottom is.unmarked;
  single = m.sizes.none r top bottom is.single;
  single_above = λ more. m.sizes.none (r - 1) (omega arith) (omega arith) (is.single_above more);
}

-- flags that are unset after a cell is put were unset before
pub IsUnflagged-before : {marked sized marked_after sized_after : List Bool} (place : Place) (cell : Cell)
    → IsRow place.row
    → AreFlagsAfter (strokes.Put place cell) marked sized marked_after sized_after
    → IsUnflagged marked_after sized_after place.row → IsUnflagged marked sized place.row
IsUnflagged-before {marked} {sized} place cell on flags is = record {
  unmarked = (or_parts (entry false 1 marked place.row) (place.row == place.row && is_marker cell.what)
      (sym (flags.marked place.row on.0 on.1) ∙ is.unmarked)).0;
  single = (or_parts (entry false 1 sized place.row) (place.row == place.row && sets_double_size cell.what)
      (sym (flags.sized place.row on.0 on.1) ∙ is.single)).0;
  single_above = λ more. (or_parts (entry false 1 sized (place.row - 1))
      (place.row == place.row - 1 && sets_double_size cell.what)
      (sym (flags.sized (place.row - 1) (omega arith) (omega (arith, on))) ∙ is.single_above more)).0;
}
