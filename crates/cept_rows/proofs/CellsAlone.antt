-- What stands in a column by itself, kept there.
use Rattle.std.proofs.Common.{◌≡◌, ℕ, false, Bool, None, List, refl, sym, ap, subst, ◌∙◌}
use Rattle.cept_codes.specs.declared.cell.What.{What}
use Rattle.cept_codes.specs.declared.look.Look.{Look}
use Rattle.cept_codes.specs.declared.look.Shape.TheVariants as shapes
use Rattle.cept_codes.specs.Attribute.{unset_pen}
use Rattle.cept_codes.specs.Cell.{IsValidWhat}
use Rattle.cept_profile.specs.Look.{look_of, shape_in}
use Rattle.cept_profile.specs.PageParts.{paint_in}
use Rattle.cept_profile.specs.Serial.{own_attributes_of, row_in}
use Rattle.cept_profile.proofs.Laws.{IsValidLook-look_of}
use Rattle.cept_rows.specs.declared.drawing.Drawing.{Drawing}
use Rattle.cept_rows.specs.declared.small_look.SmallLook.{SmallLook}
use Rattle.cept_rows.specs.inside.Brush.{attributes_by, small_shape}
use Rattle.cept_rows.specs.inside.Flagged.{IsReplaced}
use Rattle.cept_rows.specs.inside.Places.{IsPlainLook, own_drawing}
use Rattle.cept_rows.specs.inside.RowsByCell.{is_downloaded}
use Rattle.cept_rows.specs.SmallLooks.{IsSmallLook, look_kept, no_drawing, sign_of, small_of}
use Rattle.cept_rows.specs.Source.{IsValidSource, Source, look_by_itself}
use Rattle.cept_rows.proofs.KeptLooks.{plain_is, plain_small}
use Rattle.cept_rows.proofs.RowsAlone.{look_of_itself}
use Rattle.cept_rows.proofs.Signs.{any_kept, any_small, look_of_is_plain}
use Rattle.cept_rows.proofs.WalkedRows.{space_with_sign}

-- by the attributes of all that has no pen
pub among_is : (source : Source) (c : ℕ) (w : What) (s : SmallLook) → w ≡ row_in source.cells c
    → s ≡ small_shape source (shape_in source.defined w None)
    (own_attributes_of w source.row_pen source.screen_pen (attributes_by source unset_pen))
    → s ≡ small_of (look_by_itself source c)
among_is source c w s there e =
    e ∙ ap small_of (look_of_itself source.defined source.row_pen source.screen_pen w)
    ∙ ap (λ v. small_of (look_of source.defined source.row_pen source.screen_pen v)) there

-- a sign in the look of a space
pub sign_is : (source : Source) (c : ℕ) (w : What) (space s : SmallLook) → w ≡ row_in source.cells c
    → space ≡ small_shape source shapes.Space
    (own_attributes_of w source.row_pen source.screen_pen (attributes_by source unset_pen))
    → s ≡ record space { sign = sign_of (shape_in source.defined w None) } → s ≡ small_of (look_by_itself source c)
sign_is source c w space s there e is =
    among_is source c w s there (is ∙ space_with_sign (paint_in source.defined.paints) (shape_in source.defined w None)
    (own_attributes_of w source.row_pen source.screen_pen (attributes_by source unset_pen)) space
    (sign_of (shape_in source.defined w None)) e refl)

-- without a pattern
pub alone_plain : (source : Source) (c : ℕ) (w : What) (s : SmallLook) → IsValidSource source
    → w ≡ row_in source.cells c → IsValidWhat w → is_downloaded w ≡ false → s ≡ small_of (look_by_itself source c)
    → IsPlainLook s
alone_plain source c w s valid there is other e =
    let plain = look_of_is_plain s source.defined source.row_pen source.screen_pen (row_in source.cells c) e
    (sym (ap is_downloaded there) ∙ other) in
    record {
      plain = plain;
      small = plain_small s (look_by_itself source c) e plain
          (IsValidLook-look_of source.defined source.row_pen source.screen_pen (row_in source.cells c) valid.defined
          (subst IsValidWhat there is));
    }

-- it takes the place of another look
pub alone_replaced : (source : Source) (c : ℕ) (s : SmallLook) (was now : List Look) (answer : Bool) → IsPlainLook s
    → s ≡ small_of (look_by_itself source c) → IsReplaced was c (look_kept s no_drawing) now answer
    → IsReplaced was c (look_by_itself source c) now answer
alone_replaced source c s was now answer plain e =
    subst (λ l. IsReplaced was c l now answer) (plain_is s (look_by_itself source c) e plain.plain)

-- with its drawing
pub alone_drawn : (source : Source) (c : ℕ) (s : SmallLook) (d : Drawing) → IsValidSource source
    → IsValidWhat (row_in source.cells c) → s ≡ small_of (look_by_itself source c) → d ≡ own_drawing source c
    → IsSmallLook s d
alone_drawn source c s d valid is e f =
    any_small s d source.defined source.row_pen source.screen_pen (row_in source.cells c) e f valid.defined is

pub alone_kept : (source : Source) (c : ℕ) (s : SmallLook) (d : Drawing) → s ≡ small_of (look_by_itself source c)
    → d ≡ own_drawing source c → look_kept s d ≡ look_by_itself source c
alone_kept source c s d e f =
    any_kept s d source.defined source.row_pen source.screen_pen (row_in source.cells c) e f
