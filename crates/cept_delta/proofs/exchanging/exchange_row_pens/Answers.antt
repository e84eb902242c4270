use Rattle.std.proofs.Common.{◌+◌, None, refl, arith}
use Rattle.cept_codes.specs.Attribute.{unset_pen}
use Rattle.cept_codes.proofs.Laws.{set-entry}
use Rattle.cept_delta.proofs.ExchangedValues.{AreExchanged-more, AreExchanged-none, entry_read, noted-all, values-all}
use Rattle.cept_delta.proofs.ExchangedValues.{noted-none}
use Rattle.cept_profile.specs.PageParts.{row_pen_in}
use Rattle.cept_delta.proofs.PutBack.{entries_back-empty}
use Rattle.cept_delta.proofs.exchanging.exchange_row_pens.Goals as goal

pub returns-then-not-penned-clause-noted : goal.returns-then-not-penned-clause-noted
returns-then-not-penned-clause-noted c =
    noted-none 1 24 (row_pen_in c.args.pens.now) c.args.noted.now c.requires.places
    (c.requires.none c.if-not-penned.true)

pub returns-then-not-penned-clause-pens : goal.returns-then-not-penned-clause-pens
returns-then-not-penned-clause-pens c =
    entries_back-empty unset_pen 1 24 c.args.noted.now c.args.pens.now c.requires.rows
    (c.requires.none c.if-not-penned.true)

pub loop-i-init : goal.loop-i-init
loop-i-init c =
    AreExchanged-none unset_pen 1 24 0 c.args.noted.now c.args.pens.now c.requires.places c.requires.rows refl

pub loop-i-preserved : goal.loop-i-preserved
loop-i-preserved c =
    AreExchanged-more unset_pen 1 24 c.loop-i.i (c.loop-i.i + 1) c.loop-i.i (c.loop-i.i + 1) c.args.noted.now
    c.loop-i.noted c.args.pens.now c.loop-i.pens _ _ c.exchange_value.new.noted c.exchange_value.result _
    c.loop-i.invariant (omega arith) refl refl (omega arith)
    (entry_read 1 c.loop-i.i (c.loop-i.i + 1) c.loop-i.noted None None
    (omega (arith, c.loop-i.invariant.noted.long)) (omega arith))
    (entry_read 1 c.loop-i.i (c.loop-i.i + 1) c.loop-i.pens unset_pen unset_pen
    (omega (arith, c.loop-i.invariant.put.long)) (omega arith))
    c.exchange_value.ensures.noted c.exchange_value.ensures.value
    (set-entry unset_pen c.exchange_value.result 1 24 c.loop-i.i (c.loop-i.i + 1) c.loop-i.pens
    c.loop-i.invariant.put.long (omega arith) (omega arith))

pub returns-clause-noted : goal.returns-clause-noted
returns-clause-noted c =
    noted-all unset_pen 1 24 c.loop-i.i c.args.noted.now c.loop-i.noted c.args.pens.now
    c.loop-i.pens c.loop-i.invariant (omega arith)

pub returns-clause-pens : goal.returns-clause-pens
returns-clause-pens c =
    values-all unset_pen 1 24 c.loop-i.i c.args.noted.now c.loop-i.noted c.args.pens.now
    c.loop-i.pens c.loop-i.invariant (omega arith)
