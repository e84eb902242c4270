use Rattle.std.proofs.Common.{◌≡◌, ap, ◌∙◌, subst, sym}
use Rattle.cept_codes.specs.declared.look.Shape.TheVariants as shapes
use Rattle.cept_codes.specs.Attribute.{IsValidFull, unset_pen}
use Rattle.cept_profile.specs.Attributes.{cascade}
use Rattle.cept_profile.specs.Serial.{row_in}
use Rattle.cept_profile.proofs.Laws.{IsValidFull-cascade}
use Rattle.cept_rows.specs.inside.Brush.{attributes_by, small_shape}
use Rattle.cept_rows.proofs.walk.Walk.at_start.Goals as goal

pub returns : goal.returns
returns c =
    let full : c.at_start-influence.result.full ≡ attributes_by c.args.source.now unset_pen =
    c.at_start-influence.ensures.full ∙ (λ i. cascade unset_pen (c.row_pen.ensures i) (c.screen_pen.ensures i)) in
    record {
      influence = rw (← c.row_pen.ensures, ← c.screen_pen.ensures)
          (c.at_start-influence.ensures.influence (row_in c.args.source.now.cells));
      valid = subst IsValidFull (sym full)
          (IsValidFull-cascade unset_pen c.args.source.now.row_pen c.args.source.now.screen_pen
          (record { fore = tt; back = tt }) c.valid_by_type.ensures.row_pen c.valid_by_type.ensures.screen_pen);
      space = c.new-brush.ensures.space ∙ ap (λ f. small_shape c.args.source.now shapes.Space f) (sym full);
      brush = c.new-brush.ensures.brush;
    }
