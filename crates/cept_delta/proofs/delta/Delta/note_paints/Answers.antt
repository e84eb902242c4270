use Rattle.std.proofs.Common.{◌+◌, refl, arith}
use Rattle.cept_profile.specs.PageParts.{paint_in}
use Rattle.cept_delta.proofs.NotedInTurn.{paints_all, paints_none, paints_more}
use Rattle.cept_delta.proofs.delta.Delta.note_paints.Goals as goal

pub loop-i-init : goal.loop-i-init
loop-i-init c = paints_none c.args.self.now (paint_in c.args.colours.now.paints) 0 c.places_by_type.ensures.paints refl

pub loop-i-preserved : goal.loop-i-preserved
loop-i-preserved c =
    paints_more c.args.self.now c.loop-i.self c.note_paint.new.self (paint_in c.args.colours.now.paints) c.loop-i.i
    (c.loop-i.i + 1) c.loop-i.invariant c.note_paint.ensures refl

pub returns : goal.returns
returns c =
    paints_all c.args.self.now c.loop-i.self (paint_in c.args.colours.now.paints) c.loop-i.i c.loop-i.invariant
    (omega arith)
