use Rattle.std.proofs.Common.{arith}
use Rattle.cept_codes.specs.Look.{black_paint}
use Rattle.cept_codes.proofs.Laws.{HasMadeEntries-more}
use Rattle.cept_colours.proofs.Kept.{paints_black, HasValidColours-default, made}
use Rattle.cept_colours.proofs.colours.Colours.new.Goals as goal

pub loop-i-init : goal.loop-i-init
loop-i-init c = paints_black

pub loop-i-preserved : goal.loop-i-preserved
loop-i-preserved c =
    HasMadeEntries-more black_paint c.default_paint.result 0 32 _ _ c.loop-i.paints c.loop-i.i c.from.result c.loop-i.i
    c.loop-i.invariant (omega arith) c.from.ensures (omega arith) c.default_paint.ensures.paint

pub returns : goal.returns
returns c = made c.loop-i.paints c.loop-i.i c.loop-i.invariant (omega arith)

pub invariant_of-result : goal.invariant_of-result
invariant_of-result c =
    HasValidColours-default _ (made c.loop-i.paints c.loop-i.i c.loop-i.invariant (omega arith))
