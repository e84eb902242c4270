-- Valid pages: the strokes of a valid command in a valid state keep them valid.
use Rattle.std.proofs.Common.{option_to_list, map}
use Rattle.std.proofs.Common.{rules, rules}
use Rattle.std.proofs.Common.{◌≡◌, ℕ, ◌+◌, ◌-◌, ◌<◌, ◌≤◌, zero, suc, true, false, not, ◌&&◌, cond, eqb, leb, Option}
use Rattle.std.proofs.Common.{Some, None, List, [], ◌∷◌, ◌++◌, length, refl, sym, ◌∙◌, subst, arith, ◌⊎◌, inl, inr}
use Rattle.std.specs.List.{AllByRecursion}
use Rattle.std.specs.Prelude.{IfSome}
use Rattle.std.proofs.lemmas.Bool.{cond_both, and_parts, eqb-true, eqb-false, leb-true}
use Rattle.cept_codes.specs.declared.attribute.Attr.{Attr}
use Rattle.cept_codes.specs.declared.attribute.Pen.{Pen}
use Rattle.cept_codes.specs.declared.cell.Cell.{Cell}
use Rattle.cept_codes.specs.declared.cell.Marker.{Marker}
use Rattle.cept_codes.specs.declared.cell.What.TheVariants as whats
use Rattle.cept_codes.specs.declared.command.Command.{Command}
use Rattle.cept_codes.specs.declared.command.Command.TheVariants as commands
use Rattle.cept_codes.specs.declared.glyph.Glyph.{Glyph}
use Rattle.cept_codes.specs.declared.stroke.Stroke.{Stroke}
use Rattle.cept_codes.specs.declared.stroke.Stroke.TheVariants as strokes
use Rattle.cept_codes.specs.declared.command.C1Set.{C1Set}
use Rattle.cept_codes.specs.declared.command.C1Set.TheVariants as c1sets
use Rattle.cept_codes.specs.declared.command.Up.{Up}
use Rattle.cept_codes.specs.declared.command.Up.TheVariants as ways
use Rattle.cept_codes.specs.declared.glyph.Read.{Read}
use Rattle.cept_codes.specs.declared.glyph.Read.TheVariants as reads
use Rattle.cept_codes.specs.Attribute.{IsRowAttr, IsScreenAttr, IsValidPen}
use Rattle.cept_codes.specs.Cell.{IsValidCell, IsValidMarker, IsValidWhat, blank_cell}
use Rattle.cept_codes.specs.Command.{IsArea, IsValidCommand}
use Rattle.cept_codes.specs.Glyph.{IsValidGlyph}
use Rattle.cept_codes.specs.Place.{Place, OnScreen}
use Rattle.cept_codes.specs.Stroke.{IsRow, IsValidStroke}
use Rattle.cept_codes.specs.Table.{table, value_at, IsTable}
use Rattle.cept_codes.proofs.Laws.{value_at-table, IsTable-table}
use Rattle.cept_profile.specs.Cells.{is_at, cell_after, cells_after, cells_after_all}
use Rattle.cept_profile.specs.Control.{ControlState, state_for_effect}
use Rattle.cept_profile.specs.Control.{Working, control_after}
use Rattle.cept_profile.specs.Motions.{area_in_force, area_within, scrolling_area}
use Rattle.cept_profile.specs.Motions.{strokes_of_scroll}
use Rattle.cept_profile.specs.Pens.{c1_function, flash_of}
use Rattle.cept_profile.specs.Sets.{IsValidRead}
use Rattle.cept_profile.specs.Strokes.{strokes_of}
use Rattle.cept_profile.specs.Valid.{IsValidControl}
use Rattle.cept_profile.specs.Writing.{control_after_shift, content, effect_of_copies, sign_with_accent}
use Rattle.cept_profile.specs.Writing.{graphic_read}
use Rattle.cept_profile.proofs.Halves.{control_after_service}
use Rattle.cept_profile.proofs.Halves.{back_strokes, columns_of_sign, control_after_copies, control_effect, on_strokes}
use Rattle.cept_profile.proofs.Halves.{flashing, revealing, strokes_of_copies, strokes_of_function, strokes_of_marker, strokes_of_read}
use Rattle.cept_profile.proofs.Halves.{strokes_of_repeat, strokes_of_sign, strokes_when}
use Rattle.cept_profile.proofs.CopiesOfSigns.{length-strokes_of_copies}
use Rattle.cept_profile.proofs.MotionStrokes.{by_above_strokes, by_back_strokes, by_below_strokes, by_on_strokes, length-above_strokes}
use Rattle.cept_profile.proofs.MotionStrokes.{length-back_strokes, length-below_strokes, length-on_strokes}
use Rattle.cept_profile.proofs.MotionStrokes.{length-strokes_of_scroll}
use Rattle.cept_profile.proofs.ValidAttributes.{HasRowAttr-c1_function, HasScreenAttr-c1_function, HasValidMarker-c1_function}
use Rattle.cept_profile.proofs.ValidControl.{IsValidControl-control_after_copies, IsValidControl-control_after_shift, IsValidControl-state_for_effect}
use Rattle.cept_profile.proofs.ValidControl.{IsValidGlyph-sign_with_accent, IsValidRead-graphic_read}

-- ---- cells, place by place

-- a blank cell is unprotected
abbrev pub IsFree : Cell → Type 0
IsFree cell = cell.what ≡ whats.Blank → cell.protected ≡ false

-- valid cells of a format of so many rows: after its last row they are blank
pub record AreValidCells (rows : ℕ) (cells : ℕ → ℕ → Cell) : Type 0 where
  pub valid : (r c : ℕ) → OnScreen r c → IsValidCell (cells r c)
  pub free : (r c : ℕ) → OnScreen r c → IsFree (cells r c)
  pub past : (r c : ℕ) → OnScreen r c → rows < r → cells r c ≡ blank_cell

-- a stroke that keeps them valid
abbrev pub IsSafe : ℕ → Stroke → Type 0
IsSafe rows (strokes.Put p cell) = OnScreen p.row p.column × (p.row ≤ rows) × IsValidCell cell × IsFree cell
IsSafe rows (strokes.RowAttr r attr) = (r ≤ rows) × IsRow r × IsRowAttr attr
IsSafe rows (strokes.Shift a b way) = IsArea a b × (b ≤ rows)
IsSafe rows (strokes.Carry a b way) = IsArea a b × (b ≤ rows)
IsSafe rows (strokes.Format count) = ⊥
IsSafe rows stroke = IsValidStroke stroke

pub IsValidStroke-safe : (rows : ℕ) (stroke : Stroke) → IsSafe rows stroke → IsValidStroke stroke
IsValidStroke-safe rows (strokes.Put p cell) safe = (safe.0, safe.2)
IsValidStroke-safe rows (strokes.Erase r from) safe = safe
IsValidStroke-safe rows strokes.Wipe safe = tt
IsValidStroke-safe rows (strokes.Shift a b way) safe = safe.0
IsValidStroke-safe rows (strokes.Carry a b way) safe = safe.0
IsValidStroke-safe rows (strokes.RowAttr r attr) safe = (safe.1, safe.2)
IsValidStroke-safe rows (strokes.ScreenAttr attr) safe = safe
IsValidStroke-safe rows strokes.ScreenClear safe = tt
IsValidStroke-safe rows (strokes.Colour i paint) safe = safe
IsValidStroke-safe rows (strokes.Dclut i v) safe = safe
IsValidStroke-safe rows strokes.ColourDefaults safe = tt
IsValidStroke-safe rows strokes.DrcsClear safe = tt
IsValidStroke-safe rows (strokes.Drcs code pattern) safe = safe
IsValidStroke-safe rows (strokes.Format count) safe = absurd safe

pub AreValidCells-blank_cell : (rows : ℕ) → AreValidCells rows (λ r c. blank_cell)
AreValidCells-blank_cell rows = record { valid = λ r c on. tt; free = λ r c on is. refl; past = λ r c on after. refl }

AreValidCells-put : (rows : ℕ) (p : Place) (cell : Cell) (was : ℕ → ℕ → Cell) → AreValidCells rows was
    → OnScreen p.row p.column → p.row ≤ rows → IsValidCell cell → IsFree cell
    → AreValidCells rows (cell_after (strokes.Put p cell) was)
AreValidCells-put rows p cell was is place within valid_cell free_cell = record {
  valid = λ r c on. cond_both (is_at p r c && not (was r c).protected) cell (was r c) IsValidCell (λ e. valid_cell)
      (λ e. is.valid r c on);
  free = λ r c on. cond_both (is_at p r c && not (was r c).protected) cell (was r c) IsFree
      (λ e. free_cell) (λ e. is.free r c on);
  past = λ r c on after. cond_both (is_at p r c && not (was r c).protected) cell (was r c) (λ x. x ≡ blank_cell)
      (λ e. let row = eqb-true p.row r
      (and_parts (eqb p.row r) (eqb p.column c) (and_parts (is_at p r c) (not (was r c).protected) e).0).0
      in absurd (omega arith))
      (λ e. is.past r c on after);
}

AreValidCells-erase : (rows row from : ℕ) (was : ℕ → ℕ → Cell) → AreValidCells rows was
    → AreValidCells rows (cell_after (strokes.Erase row from) was)
AreValidCells-erase rows row from was is = record {
  valid = λ r c on.
      cond_both (eqb r row && leb from c && not (was r c).protected) blank_cell (was r c) IsValidCell (λ e. tt)
      (λ e. is.valid r c on);
  free = λ r c on.
      cond_both (eqb r row && leb from c && not (was r c).protected) blank_cell (was r c) IsFree (λ e. λ _. refl)
      (λ e. is.free r c on);
  past = λ r c on below.
      cond_both (eqb r row && leb from c && not (was r c).protected) blank_cell (was r c) (λ x. x
      ≡ blank_cell) (λ e. refl)
      (λ e. is.past r c on below);
}

-- a shift within the format
AreValidCells-shift : (rows a b : ℕ) (way : Up) (was : ℕ → ℕ → Cell) → AreValidCells rows was → IsArea a b → b ≤ rows
    → AreValidCells rows (cell_after (strokes.Shift a b way) was)
AreValidCells-shift rows a b ways.Up was is area within = record {
  valid = λ r c on.
      cond_both (leb a r && leb r b) (cond (eqb r b) blank_cell (was (r + 1) c)) (was r c) IsValidCell
      (λ e. let high = leb-true r b (and_parts (leb a r) (leb r b) e).1 in
      cond_both (eqb r b) blank_cell (was (r + 1) c) IsValidCell (λ l. tt)
      (λ l. let apart = eqb-false r b l in is.valid (r + 1) c (search rules))) (λ e. is.valid r c on);
  free = λ r c on.
      cond_both (leb a r && leb r b) (cond (eqb r b) blank_cell (was (r + 1) c)) (was r c) IsFree
      (λ e. let high = leb-true r b (and_parts (leb a r) (leb r b) e).1 in
      cond_both (eqb r b) blank_cell (was (r + 1) c) IsFree (λ l. λ _. refl)
      (λ l. let apart = eqb-false r b l in is.free (r + 1) c (search rules))) (λ e. is.free r c on);
  past = λ r c on after.
      cond_both (leb a r && leb r b) (cond (eqb r b) blank_cell (was (r + 1) c)) (was r c) (λ x. x ≡ blank_cell)
      (λ e. let high = leb-true r b (and_parts (leb a r) (leb r b) e).1 in absurd (omega arith))
      (λ e. is.past r c on after);
}
AreValidCells-shift rows a b ways.Down was is area within = record {
  valid = λ r c on.
      cond_both (leb a r && leb r b) (cond (eqb r a) blank_cell (was (r - 1) c)) (was r c) IsValidCell
      (λ e. let low = leb-true a r (and_parts (leb a r) (leb r b) e).0 in
      cond_both (eqb r a) blank_cell (was (r - 1) c) IsValidCell (λ l. tt)
      (λ l. let apart = eqb-false r a l in is.valid (r - 1) c (search rules))) (λ e. is.valid r c on);
  free = λ r c on.
      cond_both (leb a r && leb r b) (cond (eqb r a) blank_cell (was (r - 1) c)) (was r c) IsFree
      (λ e. let low = leb-true a r (and_parts (leb a r) (leb r b) e).0 in
      cond_both (eqb r a) blank_cell (was (r - 1) c) IsFree (λ l. λ _. refl)
      (λ l. let apart = eqb-false r a l in is.free (r - 1) c (search rules))) (λ e. is.free r c on);
  past = λ r c on after.
      cond_both (leb a r && leb r b) (cond (eqb r a) blank_cell (was (r - 1) c)) (was r c) (λ x. x ≡ blank_cell)
      (λ e. let high = leb-true r b (and_parts (leb a r) (leb r b) e).1 in absurd (omega arith))
      (λ e. is.past r c on after);
}

pub AreValidCells-cell_after : (rows : ℕ) (stroke : Stroke) (was : ℕ → ℕ → Cell) → AreValidCells rows was
    → IsSafe rows stroke → AreValidCells rows (cell_after stroke was)
AreValidCells-cell_after rows (strokes.Put p cell) was is safe =
    AreValidCells-put rows p cell was is safe.0 safe.1 safe.2 safe.3
AreValidCells-cell_after rows strokes.Wipe was is safe = AreValidCells-blank_cell rows
AreValidCells-cell_after rows (strokes.Erase r from) was is safe = AreValidCells-erase rows r from was is
AreValidCells-cell_after rows (strokes.Shift a b way) was is safe = AreValidCells-shift rows a b way was is safe.0 safe.1
AreValidCells-cell_after rows (strokes.Carry a b way) was is safe = AreValidCells-shift rows a b way was is safe.0 safe.1
AreValidCells-cell_after rows (strokes.RowAttr r attr) was is safe = is
AreValidCells-cell_after rows (strokes.ScreenAttr attr) was is safe = is
AreValidCells-cell_after rows strokes.ScreenClear was is safe = is
AreValidCells-cell_after rows (strokes.Colour i paint) was is safe = is
AreValidCells-cell_after rows (strokes.Dclut i v) was is safe = is
AreValidCells-cell_after rows strokes.ColourDefaults was is safe = is
AreValidCells-cell_after rows strokes.DrcsClear was is safe = is
AreValidCells-cell_after rows (strokes.Drcs code pattern) was is safe = is
AreValidCells-cell_after rows (strokes.Format count) was is safe = is

-- ---- tables of cells

AreValidCells-table : (rows : ℕ) (cells : ℕ → ℕ → Cell) → AreValidCells rows cells
    → AreValidCells rows (value_at blank_cell (table cells))
AreValidCells-table rows cells is = record {
  valid = λ r c on. subst IsValidCell (sym (value_at-table cells blank_cell r c on)) (is.valid r c on);
  free = λ r c on. subst IsFree (sym (value_at-table cells blank_cell r c on)) (is.free r c on);
  past = λ r c on after. value_at-table cells blank_cell r c on ∙ is.past r c on after;
}

pub record AreValidTables (rows : ℕ) (cells : List (List Cell)) : Type 0 where
  pub shape : IsTable cells
  pub all : AreValidCells rows (value_at blank_cell cells)

pub AreValidTables-table : (rows : ℕ) (cells : ℕ → ℕ → Cell) → AreValidCells rows cells
    → AreValidTables rows (table cells)
AreValidTables-table rows cells is = record { shape = IsTable-table cells; all = AreValidCells-table rows cells is }

pub AreValidTables-cells_after_all : (rows : ℕ) (cells : List (List Cell)) (xs : List Stroke)
    → AreValidTables rows cells
    → AllByRecursion (IsSafe rows) xs → AreValidTables rows (cells_after_all cells xs)
unfolding cells_after_all
AreValidTables-cells_after_all rows cells [] is safe = is
AreValidTables-cells_after_all rows cells (x ∷ xs) is safe =
    AreValidTables-cells_after_all rows (cells_after cells x) xs
    (AreValidTables-table rows (cell_after x (value_at blank_cell cells))
    (AreValidCells-cell_after rows x (value_at blank_cell cells) is.all safe.0)) safe.1

-- ---- the strokes of a command

parallel_is_not_blank : (g : Glyph) (pen : Pen) → whats.Parallel g pen ≡ whats.Blank → ⊥
parallel_is_not_blank g pen e = cc

serial_is_not_blank : (g : Glyph) → whats.Serial g ≡ whats.Blank → ⊥
serial_is_not_blank g e = cc

-- what a sign makes is valid, and no blank cell
IsValidWhat-content : (c1 : C1Set) (g : Glyph) (pen : Pen) → IsValidGlyph g → IsValidPen pen
    → IsValidWhat (content c1 g pen)
IsValidWhat-content c1sets.Parallel g pen sign valid = (sign, valid)
IsValidWhat-content c1sets.Serial g pen sign valid = sign

content_is_not_blank : (c1 : C1Set) (g : Glyph) (pen : Pen) → content c1 g pen ≡ whats.Blank → ⊥
content_is_not_blank c1sets.Parallel g pen e = parallel_is_not_blank g pen e
content_is_not_blank c1sets.Serial g pen e = serial_is_not_blank g e

-- under either revision the rows of an area within the format go up or down
IsSafe-rows_of_area : (rows : ℕ) (s : ControlState) (way : Up) (area : ℕ × ℕ) → IsArea area.0 area.1 → area.1 ≤ rows
    → AllByRecursion (IsSafe rows) (strokes_of_scroll s way (Some area))
IsSafe-rows_of_area rows s way area is within = (
  cond_both (eqb s.revision 2) (strokes.Carry area.0 area.1 way) (strokes.Shift area.0 area.1 way) (IsSafe rows)
      (λ e. (is, within)) (λ e. (is, within)),
  tt,
)

-- the strokes of motions
IsSafe-area_within : (s : ControlState) (way : Up) (rows : ℕ) (area : Option (ℕ × ℕ)) → IfSome area (λ a. IsArea a.0 a.1)
    → AllByRecursion (IsSafe rows) (strokes_of_scroll s way (area_within rows area))
IsSafe-area_within s way rows None is = tt
IsSafe-area_within s way rows (Some area) is =
    cond_both (leb area.1 rows) (Some area) None
    (λ (there : Option (ℕ × ℕ)). AllByRecursion (IsSafe rows) (strokes_of_scroll s way there))
    (λ e. IsSafe-rows_of_area rows s way area is (leb-true area.1 rows e)) (λ e. tt)

IsSafe-shift : (way : Up) (s : ControlState) → IsValidControl s
    → AllByRecursion (IsSafe s.rows) (strokes_of_scroll s way (area_in_force s))
IsSafe-shift way s is = IsSafe-area_within s way s.rows s.area is.area

IsSafe-scroll : (way : Up) (s : ControlState) → IsValidControl s
    → AllByRecursion (IsSafe s.rows) (strokes_of_scroll s way (scrolling_area s))
IsSafe-scroll way s is =
    cond_both s.implicit (area_in_force s) None
    (λ (there : Option (ℕ × ℕ)). AllByRecursion (IsSafe s.rows) (strokes_of_scroll s way there))
    (λ e. IsSafe-shift way s is) (λ e. tt)

IsSafe-on_strokes : (s : ControlState) (n : ℕ) → IsValidControl s → AllByRecursion (IsSafe s.rows) (on_strokes s n)
IsSafe-on_strokes s n is = by_on_strokes (AllByRecursion (IsSafe s.rows)) s n tt (IsSafe-scroll ways.Up s is)

IsSafe-back_strokes : (s : ControlState) → IsValidControl s → AllByRecursion (IsSafe s.rows) (back_strokes s)
IsSafe-back_strokes s is = by_back_strokes (AllByRecursion (IsSafe s.rows)) s tt (IsSafe-scroll ways.Down s is)

pub IsSafe-strokes_of_sign : (s : ControlState) (g : Glyph) → IsValidControl s → IsValidGlyph g
    → AllByRecursion (IsSafe s.rows) (strokes_of_sign s g)
IsSafe-strokes_of_sign s g is valid = (
  (
    is.working.place,
    is.within,
    IsValidWhat-content s.working.c1 g s.working.pen valid is.working.pen,
    λ blank_is.
        absurd (content_is_not_blank s.working.c1 g s.working.pen blank_is),
  ),
  IsSafe-on_strokes s (columns_of_sign s) is,
)

IsSafe-strokes_of_read : (s : ControlState) (read : Read) → IsValidControl s → IsValidRead read
    → AllByRecursion (IsSafe s.rows) (strokes_of_read s read)
IsSafe-strokes_of_read s (reads.Accent code) is valid = tt
IsSafe-strokes_of_read s (reads.Glyph g) is valid =
    IsSafe-strokes_of_sign s (sign_with_accent g.set g.code s.working.accent) is
    (IsValidGlyph-sign_with_accent g.set g.code s.working.accent valid.code is.working.accent)

pub AllByRecursion-append : {X : Type 0} (P : X → Type 0) (xs ys : List X) → AllByRecursion P xs → AllByRecursion P ys
    → AllByRecursion P (xs ++ ys)
AllByRecursion-append P [] ys all more = more
AllByRecursion-append P (x ∷ xs) ys all more = (all.0, AllByRecursion-append P xs ys all.1 more)

IsSafe-strokes_of_copies : (n : ℕ) (s : ControlState) (g : Glyph) → IsValidControl s → IsValidGlyph g
    → AllByRecursion (IsSafe s.rows) (strokes_of_copies n s g)
unfolding effect_of_copies
IsSafe-strokes_of_copies zero s g is valid = tt
IsSafe-strokes_of_copies (suc n) s g is valid =
    AllByRecursion-append (IsSafe s.rows) (strokes_of_copies n s g) (strokes_of_sign (control_after_copies n s g) g)
    (IsSafe-strokes_of_copies n s g is valid)
    (IsSafe-strokes_of_sign (control_after_copies n s g) g (IsValidControl-control_after_copies n s g is valid) valid)

IsSafe-strokes_of_repeat : (n : ℕ) (s : ControlState) (last : Option Glyph) → IsValidControl s
    → IfSome last IsValidGlyph
    → AllByRecursion (IsSafe s.rows) (strokes_of_repeat n s last)
IsSafe-strokes_of_repeat n s None is valid = tt
IsSafe-strokes_of_repeat n s (Some g) is valid = IsSafe-strokes_of_copies n s g is valid

marker_is_not_blank : (m : Marker) → whats.Marker m ≡ whats.Blank → ⊥
marker_is_not_blank m e = cc

-- a valid marker makes a valid cell
IsSafe-marker : (s : ControlState) (m : Marker) → IsValidControl s → IsValidMarker m
    → AllByRecursion (IsSafe s.rows) (strokes_of_marker s m)
IsSafe-marker s m is valid =
    ((is.working.place, is.within, valid, λ blank_is. absurd (marker_is_not_blank m blank_is)), IsSafe-on_strokes s 1 is)

IsSafe-function : (s : ControlState) (c1 : C1Set) (function : Option (Attr × Marker)) (fast : ℕ)
    → IsValidControl s → IfSome function (λ f. IsValidMarker f.1)
    → AllByRecursion (IsSafe s.rows) (strokes_of_function c1 function fast s)
IsSafe-function s c1sets.Parallel None fast is valid = tt
IsSafe-function s c1sets.Parallel (Some function) fast is valid = tt
IsSafe-function s c1sets.Serial None fast is valid = tt
IsSafe-function s c1sets.Serial (Some function) fast is valid = IsSafe-marker s function.1 is valid

-- an attribute of the active row, and one of the screen
IsSafe-row_attribute : (s : ControlState) (function : Option (Attr × Marker)) → IsValidControl s
    → IfSome function (λ f. IsRowAttr f.0)
    → AllByRecursion (IsSafe s.rows) (map (λ f. strokes.RowAttr s.working.row f.0) (option_to_list function))
IsSafe-row_attribute s None is valid = tt
IsSafe-row_attribute s (Some function) is valid =
    ((is.within, (is.working.place.from_top, is.working.place.to_bottom), valid), tt)

IsSafe-attribute : (s : ControlState) (function : Option (Attr × Marker)) → IfSome function (λ f. IsScreenAttr f.0)
    → AllByRecursion (IsSafe s.rows) (map (λ f. strokes.ScreenAttr f.0) (option_to_list function))
IsSafe-attribute s None valid = tt
IsSafe-attribute s (Some function) valid = (valid, tt)

rows-control_after_service : (s : ControlState) (kept : Option Working) → (control_after_service s kept).rows ≡ s.rows
rows-control_after_service s None = refl
rows-control_after_service s (Some w) = refl

-- a format of so many rows, a wipe, and safe strokes in it
pub record BeginsAnew (rows : ℕ) (xs : List Stroke) : Type 0 where
  pub rest : List Stroke
  pub is : xs ≡ strokes.Format rows ∷ strokes.Wipe ∷ rest
  pub format : (rows ≡ 24) ⊎ (rows ≡ 20)
  pub safe : AllByRecursion (IsSafe rows) rest

-- strokes that are safe in a format of so many rows before and after
abbrev pub LeadsTo : ℕ → ℕ → List Stroke → Type 0
LeadsTo before after xs = (AllByRecursion (IsSafe before) xs × (after ≡ before)) ⊎ BeginsAnew after xs

IsSafe-strokes_when : (s : ControlState) (command : Command) → IsValidControl s → IsValidCommand command
    → LeadsTo s.rows (control_effect s command).rows (strokes_when s command)
IsSafe-strokes_when s commands.Back is valid = inl ((IsSafe-back_strokes s is), refl)
IsSafe-strokes_when s commands.Forward is valid = inl ((IsSafe-on_strokes s 1 is), refl)
IsSafe-strokes_when s commands.Down is valid = inl ((by_below_strokes (AllByRecursion (IsSafe s.rows)) s s.working.column tt (IsSafe-scroll ways.Up s is)), refl)
IsSafe-strokes_when s commands.Up is valid = inl ((by_above_strokes (AllByRecursion (IsSafe s.rows)) s s.working.column tt (IsSafe-scroll ways.Down s is)), refl)
IsSafe-strokes_when s commands.ScrollUp is valid = inl ((IsSafe-shift ways.Up s is), refl)
IsSafe-strokes_when s commands.ScrollDown is valid = inl ((IsSafe-shift ways.Down s is), refl)
IsSafe-strokes_when s commands.Clear is valid = inl (((tt, tt)), refl)
IsSafe-strokes_when s (commands.Graphic byte) is valid =
    inl (
      IsSafe-strokes_of_read (control_after_shift s) (graphic_read s byte) (IsValidControl-control_after_shift s is)
          (IsValidRead-graphic_read s byte valid),
      refl,
    )
IsSafe-strokes_when s (commands.Repeat n) is valid = inl ((IsSafe-strokes_of_repeat n s s.working.last is is.working.last), refl)
IsSafe-strokes_when s commands.Cancel is valid = inl (((is.working.place, tt)), refl)
IsSafe-strokes_when s (commands.C1 n) is valid = inl (
  (IsSafe-function s s.working.c1 (c1_function s.working.table n) _ is
      (HasValidMarker-c1_function s.working.table n is.working.table)),
  refl,
)
IsSafe-strokes_when s (commands.FlashMode k) is valid = inl (
  (IsSafe-function s s.working.c1 (flashing (flash_of k s.working.fast)) _ is tt),
  refl,
)
IsSafe-strokes_when s commands.StopConceal is valid = inl (
  (IsSafe-function s s.working.c1 revealing _ is tt),
  refl,
)
IsSafe-strokes_when s (commands.FullScreen n) is valid = inl (
  (IsSafe-attribute s (c1_function s.working.table n)
      (HasScreenAttr-c1_function s.working.table n is.working.table valid)),
  refl,
)
IsSafe-strokes_when s (commands.FullRow n) is valid = inl (
  (IsSafe-row_attribute s (c1_function s.working.table n) is
      (HasRowAttr-c1_function s.working.table n is.working.table)),
  refl,
)
IsSafe-strokes_when s commands.ColourDefaults is valid = inl (((tt, tt)), refl)
IsSafe-strokes_when s (commands.Entry i colour) is valid = inl ((((omega (arith, valid.0), valid.1), tt)), refl)
IsSafe-strokes_when s (commands.Dclut i entry) is valid = inl ((((valid.0, omega (arith, valid.1)), tt)), refl)
IsSafe-strokes_when s (commands.DrcsHeader true form) is valid = inl (((tt, tt)), refl)
IsSafe-strokes_when s (commands.DrcsHeader false form) is valid = inl ((tt), refl)
IsSafe-strokes_when s (commands.DrcsPattern code pattern) is valid = inl (((valid, tt)), refl)
IsSafe-strokes_when s (commands.Format rows wrap) is valid =
    inr (record { rest = []; is = refl; format = valid; safe = tt })
IsSafe-strokes_when s (commands.FullDefaults set) is valid = inr (record {
  rest = strokes.ScreenClear ∷ strokes.ColourDefaults ∷ strokes.DrcsClear ∷ [];
  is = refl;
  format = inl refl;
  safe = (tt, (tt, (tt, tt)));
})
IsSafe-strokes_when s commands.ServiceEnd is valid = inl (tt, rows-control_after_service s s.kept)
IsSafe-strokes_when s _ is valid = inl (tt, refl)

pub IsSafe-strokes_of : (s : ControlState) (command : Command) → IsValidControl s → IsValidCommand command
    → LeadsTo s.rows (control_after s command).rows (strokes_of s command)
IsSafe-strokes_of s command is valid =
    IsSafe-strokes_when (state_for_effect s command) command (IsValidControl-state_for_effect s command is) valid

-- ---- such strokes are valid

AllByRecursion-weaker : {X : Type 0} (P Q : X → Type 0) → ((x : X) → P x → Q x) → (xs : List X)
    → AllByRecursion P xs → AllByRecursion Q xs
AllByRecursion-weaker P Q gives [] all = tt
AllByRecursion-weaker P Q gives (x ∷ xs) all = (gives x all.0, AllByRecursion-weaker P Q gives xs all.1)

pub IsValidStroke-leads_to : (before after : ℕ) (xs : List Stroke) → LeadsTo before after xs
    → AllByRecursion IsValidStroke xs
IsValidStroke-leads_to before after xs (inl (safe, same)) =
    AllByRecursion-weaker (IsSafe before) IsValidStroke (IsValidStroke-safe before) xs safe
IsValidStroke-leads_to before after xs (inr anew) =
    subst (AllByRecursion IsValidStroke) (sym anew.is)
    (anew.format, (tt, AllByRecursion-weaker (IsSafe after) IsValidStroke (IsValidStroke-safe after) anew.rest anew.safe))

-- ---- how many there are

length-strokes_of_read : (s : ControlState) (read : Read) → length (strokes_of_read s read) ≤ 128
length-strokes_of_read s (reads.Accent code) = omega arith
length-strokes_of_read s (reads.Glyph g) = omega (arith, length-on_strokes s (columns_of_sign s))

length-strokes_of_repeat : (n : ℕ) (s : ControlState) (last : Option Glyph) → n ≤ 63
    → length (strokes_of_repeat n s last) ≤ 128
length-strokes_of_repeat n s None low = omega arith
length-strokes_of_repeat n s (Some g) low = omega (arith, length-strokes_of_copies n s g)

length-marker : (s : ControlState) (m : Marker) → length (strokes_of_marker s m) ≤ 128
length-marker s m = omega (arith, length-on_strokes s 1)

length-function : (s : ControlState) (c1 : C1Set) (function : Option (Attr × Marker)) (fast : ℕ)
    → length (strokes_of_function c1 function fast s) ≤ 128
length-function s c1sets.Parallel None fast = omega arith
length-function s c1sets.Parallel (Some function) fast = omega arith
length-function s c1sets.Serial None fast = omega arith
length-function s c1sets.Serial (Some function) fast = length-marker s function.1

length-row_attribute : (r : ℕ) (function : Option (Attr × Marker))
    → length (map (λ f. strokes.RowAttr r f.0) (option_to_list function)) ≤ 128
length-row_attribute r None = omega arith
length-row_attribute r (Some function) = omega arith

length-attribute : (function : Option (Attr × Marker))
    → length (map (λ f. strokes.ScreenAttr f.0) (option_to_list function)) ≤ 128
length-attribute None = omega arith
length-attribute (Some function) = omega arith

length-strokes_when : (s : ControlState) (command : Command) → IsValidCommand command
    → length (strokes_when s command) ≤ 128
length-strokes_when s commands.Back valid = omega (arith, length-back_strokes s)
length-strokes_when s commands.Forward valid = omega (arith, length-on_strokes s 1)
length-strokes_when s commands.Down valid = omega (arith, length-below_strokes s s.working.column)
length-strokes_when s commands.Up valid = omega (arith, length-above_strokes s s.working.column)
length-strokes_when s commands.ScrollUp valid = omega (arith, length-strokes_of_scroll s ways.Up (area_in_force s))
length-strokes_when s commands.ScrollDown valid = omega (arith, length-strokes_of_scroll s ways.Down (area_in_force s))
length-strokes_when s commands.Clear valid = omega arith
length-strokes_when s (commands.Graphic byte) valid = length-strokes_of_read (control_after_shift s) (graphic_read s byte)
length-strokes_when s (commands.Repeat n) valid = length-strokes_of_repeat n s s.working.last valid
length-strokes_when s (commands.C1 n) valid = length-function s s.working.c1 (c1_function s.working.table n) _
length-strokes_when s (commands.FlashMode k) valid =
    length-function s s.working.c1 (flashing (flash_of k s.working.fast)) _
length-strokes_when s commands.StopConceal valid = length-function s s.working.c1 revealing _
length-strokes_when s (commands.FullScreen n) valid = length-attribute (c1_function s.working.table n)
length-strokes_when s (commands.FullRow n) valid =
    length-row_attribute s.working.row (c1_function s.working.table n)
length-strokes_when s (commands.DrcsHeader true form) valid = omega arith
length-strokes_when s (commands.DrcsHeader false form) valid = omega arith
length-strokes_when s _ valid = omega arith

pub length-strokes_of : (s : ControlState) (command : Command) → IsValidCommand command
    → length (strokes_of s command) ≤ 128
length-strokes_of s command valid = length-strokes_when (state_for_effect s command) command valid
