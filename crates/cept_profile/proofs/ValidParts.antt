-- Valid parts of the page beside its cells: strokes that are safe keep them valid.
use Rattle.std.proofs.Common.{◌≡◌, ℕ, ◌+◌, ◌≤◌, ◌<◌, ◌%◌, zero, suc, eqb, inl, inr, Option, Some, None, List}
use Rattle.std.proofs.Common.{[], ◌∷◌}
use Rattle.std.proofs.Common.{leb, length, refl, sym, ◌∙◌, ap, subst, arith, rules}
use Rattle.std.specs.List.{AllByRecursion}
use Rattle.std.specs.Prelude.{IfSome, slice_index_or}
use Rattle.std.proofs.lemmas.Bool.{and_right, cases_eq, cond_both, eqb-true, lt-leb}
use Rattle.cept_codes.specs.declared.attribute.Attr.{Attr}
use Rattle.cept_codes.specs.declared.attribute.Attr.TheVariants as attrs
use Rattle.cept_codes.specs.declared.attribute.Pen.{Pen}
use Rattle.cept_codes.specs.declared.look.Paint.{Paint}
use Rattle.cept_codes.specs.declared.look.Paint.TheVariants as paints
use Rattle.cept_codes.specs.declared.look.Pattern.{Pattern}
use Rattle.cept_codes.specs.declared.stroke.Stroke.{Stroke}
use Rattle.cept_codes.specs.declared.stroke.Stroke.TheVariants as strokes
use Rattle.cept_codes.specs.Attribute.{IsEntry, IsPlainFlash, IsRowAttr, IsRowPen, IsScreenAttr, IsScreenPen, unset_pen}
use Rattle.cept_codes.specs.Look.{IsValidPattern, IsValidRgb, black_paint}
use Rattle.cept_codes.specs.Stroke.{IsPaintOf, IsRow}
use Rattle.cept_codes.proofs.Laws.{entry-list_by_index, length-list_by_index}
use Rattle.cept_profile.specs.Colours.{default_paint, default_paints}
use Rattle.cept_profile.specs.PageParts.{row_pen_after, screen_pen_after, paint_after, dclut_after, list_of_rows}
use Rattle.cept_profile.specs.PageParts.{list_of_colours, list_of_dclut, row_pen_in, paint_in, dclut_in, row_pens_after}
use Rattle.cept_profile.specs.PageParts.{paints_after, dclut_list_after, list_of_codes, part_after_all, pattern_after}
use Rattle.cept_profile.specs.MovedRows.{moved_rows}
use Rattle.cept_profile.specs.PageParts.{pattern_in, patterns_after}
use Rattle.cept_profile.specs.MovedRows.{row_before_move}
use Rattle.cept_profile.proofs.CarriedRows.{pen_of_row, row_pen_after-from}
use Rattle.cept_profile.specs.Pens.{pen_with}
use Rattle.cept_profile.proofs.RowsMoved.{moves_none, row_before_one-on}
use Rattle.cept_profile.proofs.ValidAttributes.{IsValidAttr-row}
use Rattle.cept_profile.proofs.ValidControl.{IsValidPen-pen_with, IsValidPen-unset_pen}
use Rattle.cept_profile.proofs.ValidPage.{IsSafe}

-- ---- what is kept by each stroke is kept by all

pub kept_after_all : {X : Type 0} (P : X → Type 0) (Q : Stroke → Type 0) (after : X → Stroke → X)
    → ((x : X) (stroke : Stroke) → P x → Q stroke → P (after x stroke)) → (x : X) (all : List Stroke) → P x
    → AllByRecursion Q all → P (part_after_all after x all)
unfolding part_after_all
kept_after_all P Q after keeps x [] is safe = is
kept_after_all P Q after keeps x (stroke ∷ more) is safe =
    kept_after_all P Q after keeps (after x stroke) more (keeps x stroke is safe.0) safe.1

-- ---- attributes of a row and of the screen

pub IsRowPen-unset_pen : IsRowPen unset_pen
IsRowPen-unset_pen = record { valid = IsValidPen-unset_pen; flash = tt }

flash-pen_with : (attr : Attr) (p : Pen) → IsRowAttr attr → IfSome p.flash IsPlainFlash
    → IfSome (pen_with attr p).flash IsPlainFlash
flash-pen_with (attrs.Flash f) p valid is = valid
flash-pen_with _ p valid is = is

IsRowPen-pen_with : (attr : Attr) (p : Pen) → IsRowAttr attr → IsRowPen p → IsRowPen (pen_with attr p)
IsRowPen-pen_with attr p valid is = assumption (IsValidPen-pen_with attr p (IsValidAttr-row attr valid) is.valid, flash-pen_with attr p valid is.flash)

-- what the screen can have, a row can have
IsRowAttr-screen : (attr : Attr) → IsScreenAttr attr → IsRowAttr attr
IsRowAttr-screen (attrs.Size size) is = tt
IsRowAttr-screen _ is = is

size-pen_with : (attr : Attr) (p : Pen) → IsScreenAttr attr → p.size ≡ None → (pen_with attr p).size ≡ None
size-pen_with (attrs.Size size) p valid is = absurd valid
size-pen_with _ p valid is = is

IsScreenPen-pen_with : (attr : Attr) (p : Pen) → IsScreenAttr attr → IsScreenPen p → IsScreenPen (pen_with attr p)
IsScreenPen-pen_with attr p valid is = assumption (IsRowPen-pen_with attr p (IsRowAttr-screen attr valid) is.row, size-pen_with attr p valid is.size)

pub IsScreenPen-unset_pen : IsScreenPen unset_pen
IsScreenPen-unset_pen = record { row = IsRowPen-unset_pen; size = refl }

pub IsScreenPen-after : (rows : ℕ) (p : Pen) (stroke : Stroke) → IsScreenPen p → IsSafe rows stroke
    → IsScreenPen (screen_pen_after p stroke)
IsScreenPen-after rows p (strokes.ScreenAttr attr) is safe = IsScreenPen-pen_with attr p safe is
IsScreenPen-after rows p strokes.ScreenClear is safe = IsScreenPen-unset_pen
IsScreenPen-after rows p _ is safe = is

-- ---- the rows

-- valid attributes of a format of so many rows: those after its last row are unset
pub record AreValidRowPens (rows : ℕ) (pens : List Pen) : Type 0 where
  pub long : length pens ≡ 24
  pub valid : (r : ℕ) → 1 ≤ r → r ≤ 24 → IsRowPen (row_pen_in pens r)
  pub unset : (r : ℕ) → 1 ≤ r → r ≤ 24 → rows < r → row_pen_in pens r ≡ unset_pen

pub AreValidRowPens-list : (rows : ℕ) (pens : ℕ → Pen) → ((r : ℕ) → 1 ≤ r → r ≤ 24 → IsRowPen (pens r))
    → ((r : ℕ) → 1 ≤ r → r ≤ 24 → rows < r → pens r ≡ unset_pen) → AreValidRowPens rows (list_of_rows pens)
AreValidRowPens-list rows pens valid unset =
    let at : (r : ℕ) → 1 ≤ r → r ≤ 24 → row_pen_in (list_of_rows pens) r ≡ pens r =
    λ r top bottom. entry-list_by_index unset_pen 1 24 pens r top (omega arith) in
    record {
      long = length-list_by_index 1 24 pens;
      valid = λ r top bottom. subst IsRowPen (sym (at r top bottom)) (valid r top bottom);
      unset = λ r top bottom past. at r top bottom ∙ unset r top bottom past;
    }

-- what holds where none is set and of the attributes of a row holds of those that came from it
met_by_row : (P : Pen → Type 0) (row : Option ℕ) (was : ℕ → Pen) → P unset_pen
    → ((q : ℕ) → row ≡ Some q → P (was q)) → P (pen_of_row row was)
met_by_row P None was unset there = unset
met_by_row P (Some q) was unset there = there q refl

IsRowPen-row_pen_after : (rows : ℕ) (stroke : Stroke) (was : ℕ → Pen)
    → ((q : ℕ) → 1 ≤ q → q ≤ 24 → IsRowPen (was q)) → IsSafe rows stroke → (r : ℕ) → 1 ≤ r → r ≤ 24
    → IsRowPen (row_pen_after stroke was r)
IsRowPen-row_pen_after rows (strokes.RowAttr row attr) was is safe r top bottom =
    cond_both (eqb row r) (pen_with attr (was r)) (was r) IsRowPen
    (λ e. IsRowPen-pen_with attr (was r) safe.2 (is r top bottom)) (λ e. is r top bottom)
IsRowPen-row_pen_after rows strokes.Wipe was is safe r top bottom = IsRowPen-unset_pen
IsRowPen-row_pen_after rows (strokes.Carry first last way) was is safe r top bottom =
    subst IsRowPen (sym (row_pen_after-from first last r way was))
    (met_by_row IsRowPen (row_before_move (moved_rows (strokes.Carry first last way)) r) was IsRowPen-unset_pen (λ q from.
    let on : IsRow q = row_before_one-on (strokes.Carry first last way) r q safe.0 top bottom from in is q on.0 on.1))
IsRowPen-row_pen_after rows _ was is safe r top bottom = is r top bottom

-- the row of an attribute is one of the format, and so are the rows that are carried
unset-row_pen_after : (rows : ℕ) (stroke : Stroke) (was : ℕ → Pen) (r : ℕ) → rows < r → was r ≡ unset_pen
    → IsSafe rows stroke → row_pen_after stroke was r ≡ unset_pen
unset-row_pen_after rows (strokes.RowAttr row attr) was r past is safe =
    cond_both (eqb row r) (pen_with attr (was r)) (was r) (λ p. p ≡ unset_pen)
    (λ e. let same = eqb-true row r e in absurd (omega (arith, safe.0))) (λ e. is)
unset-row_pen_after rows strokes.Wipe was r past is safe = refl
unset-row_pen_after rows (strokes.Carry first last way) was r past is safe =
    row_pen_after-from first last r way was
    ∙ ap (λ (row : Option ℕ). pen_of_row row was)
    (moves_none (moved_rows (strokes.Carry first last way)) r
    (and_right (leb first r) (leb r last) (lt-leb r last (omega (arith, past, safe.1)))))
    ∙ is
unset-row_pen_after rows _ was r past is safe = is

pub AreValidRowPens-after : (rows : ℕ) (pens : List Pen) (stroke : Stroke) → AreValidRowPens rows pens
    → IsSafe rows stroke → AreValidRowPens rows (row_pens_after pens stroke)
AreValidRowPens-after rows pens stroke is safe =
    AreValidRowPens-list rows (row_pen_after stroke (row_pen_in pens))
    (IsRowPen-row_pen_after rows stroke (row_pen_in pens) is.valid safe)
    (λ r top bottom past. unset-row_pen_after rows stroke (row_pen_in pens) r past (is.unset r top bottom past) safe)

-- ---- colour entries

-- a paint of the default table: only its entry 8 shows the picture behind
abbrev pub IsDefaultOf : ℕ → Paint → Type 0
IsDefaultOf j (paints.Ink c) = IsValidRgb c
IsDefaultOf j paints.Video = j ≡ 8

-- such paints from this entry on
abbrev pub AllDefaults : ℕ → List Paint → Type 0
AllDefaults j [] = Unit {0}
AllDefaults j (paint ∷ more) = IsDefaultOf j paint × AllDefaults (j + 1) more

IsDefaultOf-at : (j : ℕ) (all : List Paint) → AllDefaults j all → (k n : ℕ) → j + k ≡ n
    → IsDefaultOf n (slice_index_or all k black_paint)
IsDefaultOf-at j [] is k n e = record { r = omega arith; g = omega arith; b = omega arith }
IsDefaultOf-at j (paint ∷ more) is zero n e =
    let here : j ≡ n = omega (arith, e) in subst (λ m. IsDefaultOf m paint) here is.0
IsDefaultOf-at j (paint ∷ more) is (suc k) n e = IsDefaultOf-at (j + 1) more is.1 k n (omega (arith, e))

AllDefaults-default_paints : AllDefaults 0 default_paints
unfolding default_paints
AllDefaults-default_paints = search rules

IsPaintOf-default : (i : ℕ) (paint : Paint) → i < 32 → IsDefaultOf (i % 16) paint → IsPaintOf i paint
IsPaintOf-default i (paints.Ink c) low is = is
IsPaintOf-default i paints.Video low is =
    elim (cases_eq i 8) [ inl e ↦ inl e | inr other ↦ inr (omega (arith, low, is, other)) ]

pub IsPaintOf-default_paint : (i : ℕ) → i < 32 → IsPaintOf i (default_paint i)
IsPaintOf-default_paint i low =
    IsPaintOf-default i (default_paint i) low
    (IsDefaultOf-at 0 default_paints AllDefaults-default_paints (i % 16) (i % 16) (omega arith))

-- 32 valid paints
pub record AreValidPaints (paints : List Paint) : Type 0 where
  pub long : length paints ≡ 32
  pub valid : (i : ℕ) → i < 32 → IsPaintOf i (paint_in paints i)

pub AreValidPaints-list : (paint_of : ℕ → Paint) → ((i : ℕ) → i < 32 → IsPaintOf i (paint_of i))
    → AreValidPaints (list_of_colours paint_of)
AreValidPaints-list paint_of valid = record {
  long = length-list_by_index 0 32 paint_of;
  valid = λ i low. subst (IsPaintOf i)
      (sym (entry-list_by_index black_paint 0 32 paint_of i (omega arith) (omega arith))) (valid i low);
}

IsPaintOf-paint_after : (rows : ℕ) (stroke : Stroke) (was : ℕ → Paint) (i : ℕ) → i < 32 → IsPaintOf i (was i)
    → IsSafe rows stroke → IsPaintOf i (paint_after stroke was i)
IsPaintOf-paint_after rows (strokes.Colour j paint) was i low is safe =
    cond_both (eqb j i) paint (was i) (IsPaintOf i)
    (λ e. subst (λ k. IsPaintOf k paint) (eqb-true j i e) safe.1) (λ e. is)
IsPaintOf-paint_after rows strokes.ColourDefaults was i low is safe = IsPaintOf-default_paint i low
IsPaintOf-paint_after rows _ was i low is safe = is

pub AreValidPaints-after : (rows : ℕ) (paints : List Paint) (stroke : Stroke) → AreValidPaints paints
    → IsSafe rows stroke → AreValidPaints (paints_after paints stroke)
AreValidPaints-after rows paints stroke is safe =
    AreValidPaints-list (paint_after stroke (paint_in paints))
    (λ i low. IsPaintOf-paint_after rows stroke (paint_in paints) i low (is.valid i low) safe)

-- ---- the DCLUT

-- four entries
pub record IsValidDclut (dclut : List ℕ) : Type 0 where
  pub long : length dclut ≡ 4
  pub valid : (i : ℕ) → i < 4 → IsEntry (dclut_in dclut i)

pub IsValidDclut-list : (entry_of : ℕ → ℕ) → ((i : ℕ) → i < 4 → IsEntry (entry_of i))
    → IsValidDclut (list_of_dclut entry_of)
IsValidDclut-list entry_of valid = record {
  long = length-list_by_index 0 4 entry_of;
  valid = λ i low. subst IsEntry (sym (entry-list_by_index 0 0 4 entry_of i (omega arith) (omega arith))) (valid i low);
}

IsEntry-dclut_after : (rows : ℕ) (stroke : Stroke) (was : ℕ → ℕ) (i : ℕ) → i < 4 → IsEntry (was i)
    → IsSafe rows stroke → IsEntry (dclut_after stroke was i)
IsEntry-dclut_after rows (strokes.Dclut j v) was i low is safe =
    cond_both (eqb j i) v (was i) IsEntry (λ e. safe.1) (λ e. is)
IsEntry-dclut_after rows strokes.ColourDefaults was i low is safe = omega arith
IsEntry-dclut_after rows _ was i low is safe = is

pub IsValidDclut-after : (rows : ℕ) (dclut : List ℕ) (stroke : Stroke) → IsValidDclut dclut → IsSafe rows stroke
    → IsValidDclut (dclut_list_after dclut stroke)
IsValidDclut-after rows dclut stroke is safe =
    IsValidDclut-list (dclut_after stroke (dclut_in dclut))
    (λ i low. IsEntry-dclut_after rows stroke (dclut_in dclut) i low (is.valid i low) safe)

-- ---- the patterns

-- 94 codes
pub record AreValidPatterns (patterns : List (Option Pattern)) : Type 0 where
  pub long : length patterns ≡ 94
  pub valid : (d : ℕ) → 0x21 ≤ d → d ≤ 0x7E → IfSome (pattern_in patterns d) IsValidPattern

pub AreValidPatterns-list : (pattern_of : ℕ → Option Pattern)
    → ((d : ℕ) → 0x21 ≤ d → d ≤ 0x7E → IfSome (pattern_of d) IsValidPattern) → AreValidPatterns (list_of_codes pattern_of)
AreValidPatterns-list pattern_of valid = record {
  long = length-list_by_index 0x21 94 pattern_of;
  valid = λ d low high. subst (λ (p : Option Pattern). IfSome p IsValidPattern)
      (sym (entry-list_by_index None 0x21 94 pattern_of d low (omega (arith, high)))) (valid d low high);
}

IsValidPattern-pattern_after : (rows : ℕ) (stroke : Stroke) (was : ℕ → Option Pattern) (d : ℕ)
    → IfSome (was d) IsValidPattern → IsSafe rows stroke → IfSome (pattern_after stroke was d) IsValidPattern
IsValidPattern-pattern_after rows (strokes.Drcs code pattern) was d is safe =
    cond_both (eqb code d) (Some pattern) (was d) (λ (p : Option Pattern). IfSome p IsValidPattern) (λ e. safe.2)
    (λ e. is)
IsValidPattern-pattern_after rows strokes.DrcsClear was d is safe = tt
IsValidPattern-pattern_after rows _ was d is safe = is

pub AreValidPatterns-after : (rows : ℕ) (patterns : List (Option Pattern)) (stroke : Stroke)
    → AreValidPatterns patterns → IsSafe rows stroke → AreValidPatterns (patterns_after patterns stroke)
AreValidPatterns-after rows patterns stroke is safe =
    AreValidPatterns-list (pattern_after stroke (pattern_in patterns))
    (λ d low high. IsValidPattern-pattern_after rows stroke (pattern_in patterns) d (is.valid d low high) safe)
