use Rattle.std.proofs.Common.{ap}
use Rattle.cept_colours.specs.Colours.{ColourTables}
use Rattle.cept_colours.proofs.Kept.{paints_written}
use Rattle.cept_colours.proofs.colours.Colours.set.Goals as goal

pub returns-clause-paints : goal.returns-clause-paints
returns-clause-paints c =
    paints_written c.self.inside.paints c.args.self.now.paints c.args.i c.from.result c.args.paint
    c.self.invariant.colours (ap (λ (t : ColourTables). t.paints) c.self.view_is) c.requires.entry c.from.ensures
