use Rattle.std.proofs.Common.{refl, ap, ◌∙◌}
use Rattle.cept_codes.specs.declared.look.Shape.TheVariants as shapes
use Rattle.cept_rows.specs.inside.Brush.{small_shape}
use Rattle.cept_rows.proofs.walk.Walk.pass_marker.Goals as goal

pub returns : goal.returns
returns c = record {
  influence = c.mark-cell.ensures.carried;
  valid = c.mark-cell.ensures.valid c.requires.walk.valid;
  space = c.small_with-self.ensures shapes.Space refl
      ∙ ap (λ f. small_shape c.args.source.now shapes.Space f) c.full.ensures;
  brush = c.requires.walk.brush;
}
