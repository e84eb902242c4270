use Rattle.std.proofs.Common.{refl, ◌∙◌}
use Rattle.cept_profile.specs.PageParts.{dclut_in}
use Rattle.cept_delta.proofs.NotedInTurn.{dclut_one}
use Rattle.cept_delta.proofs.NotedValues.{dclut_of_values}
use Rattle.cept_delta.proofs.delta.Delta.note_dclut.Goals as goal

pub returns : goal.returns
returns c =
    dclut_of_values c.self.invariant.places c.self.view_is c.from.result c.args.i c.dclut.result _ _ c.note.new.place
    c.requires c.from.ensures refl c.note.ensures
    ∙ dclut_one c.args.self.now c.args.i c.dclut.result (dclut_in c.args.colours.now.dclut) c.dclut.ensures.dclut
