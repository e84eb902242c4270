use Rattle.std.proofs.Common.{◌+◌, None, refl, ◌∙◌, arith}
use Rattle.cept_codes.specs.Look.{black_paint}
use Rattle.cept_delta.proofs.ExchangedValues.{AreExchanged-more, AreExchanged-none, entry_read, noted-all, values-all}
use Rattle.cept_delta.proofs.exchanging.exchange_paints.Goals as goal

pub loop-i-init : goal.loop-i-init
loop-i-init c = (
  AreExchanged-none black_paint 0 32 0 c.args.noted.now c.args.colours.now.paints c.requires.places c.requires.entries
      refl,
  refl,
)

pub loop-i-preserved : goal.loop-i-preserved
loop-i-preserved c = (
  AreExchanged-more black_paint 0 32 c.loop-i.i (c.loop-i.i + 1) c.from.result c.loop-i.i c.args.noted.now
      c.loop-i.noted c.args.colours.now.paints c.loop-i.colours.paints c.set.new.self.paints _
      c.exchange_value-paint.new.noted c.exchange_value-paint.result c.paint.result c.loop-i.invariant.0 (omega arith)
      refl (omega arith) (omega arith)
      (entry_read 0 c.from.result c.loop-i.i c.loop-i.noted None None
      (omega (arith, c.loop-i.invariant.0.noted.long)) (omega arith))
      c.paint.ensures.paint c.exchange_value-paint.ensures.noted c.exchange_value-paint.ensures.value
      c.set.ensures.paints,
  c.set.ensures.dclut ∙ c.loop-i.invariant.1,
)

pub returns-clause-noted : goal.returns-clause-noted
returns-clause-noted c =
    noted-all black_paint 0 32 c.loop-i.i c.args.noted.now c.loop-i.noted c.args.colours.now.paints
    c.loop-i.colours.paints c.loop-i.invariant.0 (omega arith)

pub returns-clause-paints : goal.returns-clause-paints
returns-clause-paints c =
    values-all black_paint 0 32 c.loop-i.i c.args.noted.now c.loop-i.noted c.args.colours.now.paints
    c.loop-i.colours.paints c.loop-i.invariant.0 (omega arith)
