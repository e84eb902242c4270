use Rattle.std.proofs.Common.{ap}
use Rattle.cept_colours.specs.Colours.{ColourTables}
use Rattle.cept_colours.proofs.Kept.{dclut_written}
use Rattle.cept_colours.proofs.colours.Colours.set_dclut.Goals as goal

pub returns-clause-dclut : goal.returns-clause-dclut
returns-clause-dclut c =
    dclut_written c.self.inside.dclut c.args.self.now.dclut c.args.i c.from.result c.args.v c.self.invariant.names
    (ap (λ (t : ColourTables). t.dclut) c.self.view_is) c.requires.number c.from.ensures
