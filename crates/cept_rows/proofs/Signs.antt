-- Signs: those of the downloaded set are drawn by the pattern of their code, all others as themselves.
use Rattle.std.proofs.Common.{◌≡◌, ℕ, zero, suc, ◌&&◌, ◌==◌, Bool, true, false, cond, Option, Some, None, IfSome}
use Rattle.std.proofs.Common.{List, is_none, unwrap_or, refl}
use Rattle.std.proofs.Common.{sym, ap, ◌∙◌, subst}
use Rattle.std.specs.Option.{option_or}
use Rattle.std.proofs.lemmas.Bool.{cond_both}
use Rattle.cept_codes.specs.declared.attribute.Full.{Full}
use Rattle.cept_codes.specs.declared.attribute.Pen.{Pen}
use Rattle.cept_codes.specs.declared.cell.What.{What}
use Rattle.cept_codes.specs.declared.cell.What.TheVariants as whats
use Rattle.cept_codes.specs.declared.glyph.Glyph.{Glyph}
use Rattle.cept_codes.specs.declared.glyph.SetId.{SetId}
use Rattle.cept_codes.specs.declared.glyph.SetId.TheVariants as sets
use Rattle.cept_codes.specs.declared.look.Paint.{Paint}
use Rattle.cept_codes.specs.declared.look.Pattern.{Pattern}
use Rattle.cept_codes.specs.declared.look.Shape.TheVariants as shapes
use Rattle.cept_codes.specs.Cell.{IsValidWhat}
use Rattle.cept_profile.specs.Definitions.{Definitions}
use Rattle.cept_profile.specs.Look.{look_in_row, look_of, look_with, shape_in}
use Rattle.cept_profile.specs.Look.{shape_in_set, shape_in}
use Rattle.cept_profile.specs.Look.{shape_of_sign}
use Rattle.cept_profile.specs.PageParts.{pattern_in}
use Rattle.cept_profile.specs.Serial.{held_sign, is_holding, is_marker, is_mosaic, kept_sign, marker_pen, mosaic_of, nearest_said}
use Rattle.cept_profile.specs.Valid.{AreValidDefinitions}
use Rattle.cept_profile.proofs.Laws.{IsValidLook-look_of}
use Rattle.cept_rows.specs.declared.drawing.Drawing.{Drawing}
use Rattle.cept_rows.specs.declared.small_look.SmallLook.{SmallLook}
use Rattle.cept_rows.specs.inside.RowsByCell.{is_downloaded, is_set_d, pattern_of_sign}
use Rattle.cept_rows.specs.SmallLooks.{IsSmallLook, has_pattern, is_drcs, look_kept, no_drawing, sign_of}
use Rattle.cept_rows.specs.inside.SmallLooks.{drawing_of}
use Rattle.cept_rows.specs.SmallLooks.{small_of}
use Rattle.cept_rows.proofs.KeptLooks.{kept_is, small_is}

-- ---- signs

in_set_plain : (defined : Definitions) (g : Glyph) (s : SetId)
    → cond (is_set_d s) (pattern_in defined.patterns g.code) None ≡ None
    → shape_in_set defined g s (pattern_in defined.patterns g.code) ≡ shapes.Char g
in_set_plain defined g sets.P e = refl
in_set_plain defined g sets.S e = refl
in_set_plain defined g sets.M e = refl
in_set_plain defined g sets.N e = refl
in_set_plain defined g sets.D e = ap (shape_in_set defined g sets.D) e

-- a sign without a pattern is drawn as itself
sign_plain : (defined : Definitions) (g : Glyph) → pattern_of_sign defined.patterns g ≡ None
    → shape_of_sign defined g ≡ cond (g.code == 0x20 && g.accent == 0) shapes.Space (shapes.Char g)
sign_plain defined g e =
    ap (λ s. cond (g.code == 0x20 && g.accent == 0) shapes.Space s) (in_set_plain defined g g.set e)

-- ---- held signs

-- a held sign is a mosaic, and so none of the downloaded set
mosaic_is_other : (g : Glyph) (s : SetId) → is_mosaic s ≡ true → is_set_d s ≡ false
mosaic_is_other g sets.P e = refl
mosaic_is_other g sets.S e = refl
mosaic_is_other g sets.M e = refl
mosaic_is_other g sets.N e = refl
mosaic_is_other g sets.D e = cc

abbrev IsOther : Option Glyph → Type 0
IsOther o = IfSome o (λ g. is_set_d g.set ≡ false)

mosaic_other : (w : What) → IsOther (mosaic_of w)
mosaic_other whats.Blank = tt
mosaic_other (whats.Serial g) =
    cond_both (is_mosaic g.set) (Some g) None IsOther (λ e. mosaic_is_other g g.set e) (λ e. tt)
mosaic_other (whats.Parallel g pen) = tt
mosaic_other (whats.Marker m) = tt

either_other : (a b : Option (Option Glyph)) → IfSome a IsOther → IsOther (unwrap_or b None)
    → IsOther (unwrap_or (option_or a b) None)
either_other None b first second = second
either_other (Some found) b first second = first

nearest_other : (says : ℕ → Option (Option Glyph)) (c : ℕ) → ((d : ℕ) → IfSome (says d) IsOther)
    → IsOther (unwrap_or (nearest_said says c) None)
nearest_other says zero each = tt
nearest_other says (suc c) each =
    either_other (says (suc c)) (nearest_said says c) (each (suc c)) (nearest_other says c each)

kept_other : (row : ℕ → What) (c : ℕ) → IsOther (kept_sign row c)
unfolding kept_sign
kept_other row c =
    nearest_other
    (λ d. cond (is_marker (row d) && is_none (marker_pen 0 (row d)).size) None (Some (mosaic_of (row d)))) c
    (λ d. cond_both (is_marker (row d) && is_none (marker_pen 0 (row d)).size) None (Some (mosaic_of (row d)))
    (λ o. IfSome o IsOther) (λ e. tt) (λ e. mosaic_other (row d)))

held_other : (row : ℕ → What) (c : ℕ) → IfSome (held_sign row c) (λ g. is_set_d g.set ≡ false)
held_other row c =
    cond_both (is_marker (row c) && is_holding row c) (kept_sign row c) None IsOther (λ e. kept_other row c) (λ e. tt)

-- the same of one that was found
pub held_found : (row : ℕ → What) (c : ℕ) (held : Option Glyph) → held ≡ held_sign row c
    → IfSome held (λ g. is_set_d g.set ≡ false)
held_found row c held e = subst IsOther (sym e) (held_other row c)

-- ---- cells

-- a sign of another set has no pattern
no_pattern : (patterns : List (Option Pattern)) (g : Glyph) → is_set_d g.set ≡ false → pattern_of_sign patterns g ≡ None
no_pattern patterns g e = ap (λ b. cond b (pattern_in patterns g.code) None) e

drawing_plain : (b : Bool) (g : Glyph) → drawing_of (cond b shapes.Space (shapes.Char g)) ≡ no_drawing
drawing_plain true g = refl
drawing_plain false g = refl

drcs_plain : (b : Bool) (g : Glyph) → is_drcs (sign_of (cond b shapes.Space (shapes.Char g))).kind ≡ false
drcs_plain true g = refl
drcs_plain false g = refl

-- what stands in a cell and is no sign of the downloaded set is drawn without one
sign_is_plain : (defined : Definitions) (g : Glyph) → is_set_d g.set ≡ false
    → is_drcs (sign_of (shape_of_sign defined g)).kind ≡ false
sign_is_plain defined g other =
    ap (λ s. is_drcs (sign_of s).kind) (sign_plain defined g (no_pattern defined.patterns g other))
    ∙ drcs_plain (g.code == 0x20 && g.accent == 0) g

cell_is_plain : (defined : Definitions) (w : What) → is_downloaded w ≡ false
    → is_drcs (sign_of (shape_in defined w None)).kind ≡ false
cell_is_plain defined whats.Blank other = refl
cell_is_plain defined (whats.Serial g) other = sign_is_plain defined g other
cell_is_plain defined (whats.Parallel g pen) other = sign_is_plain defined g other
cell_is_plain defined (whats.Marker m) other = refl

-- and so is its small look
pub look_is_plain : (s : SmallLook) (defined : Definitions) (paint_of : ℕ → Paint) (w : What) (full : Full)
    → s ≡ small_of (look_with paint_of (shape_in defined w None) full) → is_downloaded w ≡ false → has_pattern s ≡ false
look_is_plain s defined paint_of w full e other = ap has_pattern e ∙ cell_is_plain defined w other

pub look_of_is_plain : (s : SmallLook) (defined : Definitions) (row screen : Pen) (w : What)
    → s ≡ small_of (look_of defined row screen w) → is_downloaded w ≡ false → has_pattern s ≡ false
unfolding look_of
look_of_is_plain s defined row screen w e other = ap has_pattern e ∙ cell_is_plain defined w other

-- what a marker holds is drawn without one
drawing_unheld : (defined : Definitions) (w : What) (held : Option Glyph)
    → IfSome held (λ g. is_set_d g.set ≡ false)
    → drawing_of (shape_in defined w held) ≡ drawing_of (shape_in defined w None)
drawing_unheld defined (whats.Marker m) None other = refl
drawing_unheld defined (whats.Marker m) (Some g) other =
    ap drawing_of (sign_plain defined g (no_pattern defined.patterns g other))
    ∙ drawing_plain (g.code == 0x20 && g.accent == 0) g
drawing_unheld defined whats.Blank held other = refl
drawing_unheld defined (whats.Serial g) held other = refl
drawing_unheld defined (whats.Parallel g pen) held other = refl

-- the drawings of looks
drawing_of-look_of : (defined : Definitions) (row screen : Pen) (w : What)
    → drawing_of (shape_in defined w None) ≡ drawing_of (look_of defined row screen w).shape
unfolding look_of
drawing_of-look_of defined row screen w = refl

pub drawing_of-look_in_row : (defined : Definitions) (row : ℕ → What) (pen screen : Pen) (c : ℕ)
    → drawing_of (shape_in defined (row c) None) ≡ drawing_of (look_in_row defined row pen screen c).shape
unfolding look_in_row
drawing_of-look_in_row defined row pen screen c =
    sym (drawing_unheld defined (row c) (held_sign row c) (held_other row c))

-- what stands in a cell by itself is kept
pub any_kept : (s : SmallLook) (d : Drawing) (defined : Definitions) (row screen : Pen) (w : What)
    → s ≡ small_of (look_of defined row screen w) → d ≡ drawing_of (shape_in defined w None)
    → look_kept s d ≡ look_of defined row screen w
any_kept s d defined row screen w e f =
    kept_is s d (look_of defined row screen w) e (f ∙ drawing_of-look_of defined row screen w)

pub any_small : (s : SmallLook) (d : Drawing) (defined : Definitions) (row screen : Pen) (w : What)
    → s ≡ small_of (look_of defined row screen w) → d ≡ drawing_of (shape_in defined w None)
    → AreValidDefinitions defined → IsValidWhat w → IsSmallLook s d
any_small s d defined row screen w e f are valid =
    small_is s d (look_of defined row screen w) e (f ∙ drawing_of-look_of defined row screen w)
    (IsValidLook-look_of defined row screen w are valid)
