use Rattle.std.proofs.Common.{◌+◌, true, nat_lt, refl, ap, ◌∙◌, arith}
use Rattle.cept_profile.specs.OldValues.{OldValues, with_dclut, with_paints}
use Rattle.cept_profile.specs.PageParts.{dclut_in, paint_in}
use Rattle.cept_delta.proofs.NotedInTurn.{dclut_all, dclut_none, dclut_more}
use Rattle.cept_delta.proofs.delta.Delta.note_colours.Goals as goal

pub loop-i-init : goal.loop-i-init
loop-i-init c =
    dclut_none c.note_paints.new.self (dclut_in c.args.colours.now.dclut) 0 c.places_by_type.ensures.dclut refl
    ∙ ap (λ (old : OldValues). with_dclut (λ j. nat_lt j 0) (dclut_in c.args.colours.now.dclut) old)
    c.note_paints.ensures

pub loop-i-preserved : goal.loop-i-preserved
loop-i-preserved c =
    dclut_more (with_paints (λ _. true) (paint_in c.args.colours.now.paints) c.args.self.now) c.loop-i.self
    c.note_dclut.new.self (dclut_in c.args.colours.now.dclut) c.loop-i.i (c.loop-i.i + 1)
    c.loop-i.invariant c.note_dclut.ensures refl

pub returns : goal.returns
returns c =
    dclut_all (with_paints (λ _. true) (paint_in c.args.colours.now.paints) c.args.self.now) c.loop-i.self
    (dclut_in c.args.colours.now.dclut) c.loop-i.i c.loop-i.invariant (omega arith)
