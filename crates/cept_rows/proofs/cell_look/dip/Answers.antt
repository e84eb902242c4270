use Rattle.std.proofs.Common.{refl, ap, ◌∙◌}
use Rattle.cept_codes.specs.declared.look.Shape.TheVariants as shapes
use Rattle.cept_rows.specs.inside.Brush.{small_shape}
use Rattle.cept_rows.proofs.cell_look.dip.Goals as goal

pub returns : goal.returns
returns c = record {
  held = refl;
  is = record {
    space = c.small_with.ensures shapes.Space refl
        ∙ ap (λ f. small_shape c.args.source.now shapes.Space f) c.attributes-full.ensures.attributes;
    bare = c.is_bare.ensures;
    size = ap (λ f. f.size) c.attributes-full.ensures.attributes;
  };
}
