use Rattle.std.proofs.Common.{map, sym, ap, ◌∙◌, arith}
use Rattle.std.proofs.lemmas.List.{take_all}
use Rattle.cept_control.specs.Numbers.{bit}
use Rattle.cept_live.proofs.snapshot.bits_of.Goals as goal

pub returns : goal.returns
returns c =
    let so_far = c.loop-n.invariant in
    sym (take_all c.loop-n.n c.loop-n.bits (omega (arith, so_far.places, c.loop-n-test.false))) ∙ so_far.made
    ∙ ap (map bit) (take_all c.loop-n.n c.args.marks.now
    (omega (arith, c.len-count.ensures.places, c.loop-n-test.false)))
