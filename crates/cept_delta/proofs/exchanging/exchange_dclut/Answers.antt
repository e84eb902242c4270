use Rattle.std.proofs.Common.{◌+◌, None, refl, ◌∙◌, arith}
use Rattle.cept_delta.proofs.ExchangedValues.{AreExchanged-more, AreExchanged-none, entry_read, noted-all, values-all}
use Rattle.cept_delta.proofs.exchanging.exchange_dclut.Goals as goal

pub loop-i-init : goal.loop-i-init
loop-i-init c = (
  AreExchanged-none 0 0 4 0 c.args.noted.now c.args.colours.now.dclut c.requires.places c.requires.names refl,
  refl,
)

pub loop-i-preserved : goal.loop-i-preserved
loop-i-preserved c = (
  AreExchanged-more 0 0 4 c.loop-i.i (c.loop-i.i + 1) c.from.result c.loop-i.i c.args.noted.now
      c.loop-i.noted c.args.colours.now.dclut c.loop-i.colours.dclut c.set_dclut.new.self.dclut _
      c.exchange_value-named.new.noted c.exchange_value-named.result c.dclut.result c.loop-i.invariant.0 (omega arith)
      refl (omega arith) (omega arith)
      (entry_read 0 c.from.result c.loop-i.i c.loop-i.noted None None
      (omega (arith, c.loop-i.invariant.0.noted.long)) (omega arith))
      c.dclut.ensures.dclut c.exchange_value-named.ensures.noted c.exchange_value-named.ensures.value
      c.set_dclut.ensures.dclut,
  c.set_dclut.ensures.paints ∙ c.loop-i.invariant.1,
)

pub returns-clause-noted : goal.returns-clause-noted
returns-clause-noted c =
    noted-all 0 0 4 c.loop-i.i c.args.noted.now c.loop-i.noted c.args.colours.now.dclut
    c.loop-i.colours.dclut c.loop-i.invariant.0 (omega arith)

pub returns-clause-dclut : goal.returns-clause-dclut
returns-clause-dclut c =
    values-all 0 0 4 c.loop-i.i c.args.noted.now c.loop-i.noted c.args.colours.now.dclut
    c.loop-i.colours.dclut c.loop-i.invariant.0 (omega arith)
