use Rattle.std.proofs.Common.{refl, ap, ◌∙◌}
use Rattle.cept_codes.specs.declared.look.Shape.TheVariants as shapes
use Rattle.cept_rows.specs.inside.Brush.{small_shape}
use Rattle.cept_rows.proofs.cell_look.Brush.new.Goals as goal

pub returns-clause-space : goal.returns-clause-space
returns-clause-space c =
    c.small_with.ensures shapes.Space refl ∙ ap (λ f. small_shape c.args.source.now shapes.Space f) c.requires

pub returns-clause-brush : goal.returns-clause-brush
returns-clause-brush c =
    record { space = returns-clause-space c; bare = λ _. refl; size = ap (λ f. f.size) c.requires }
