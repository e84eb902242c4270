use Rattle.std.proofs.Common.{◌+◌, false, get_or, inl, inr, ap, sym, ◌∙◌, arith}
use Rattle.std.proofs.lemmas.Bool.{cases_lt, or_from, or_parts}
use Rattle.cept_codes.proofs.Laws.{entry_from}
use Rattle.cept_redraw.proofs.marks.has_one.Goals as goal

pub loop-i-preserved : goal.loop-i-preserved
loop-i-preserved c = record {
  none = λ is k below.
      let parts = or_parts c.loop-i.one (get_or c.args.flags.now c.loop-i.i false) is in
      elim (cases_lt k c.loop-i.i) [
        | inl before ↦ c.loop-i.invariant.none parts.0 k before
        | inr last ↦ ap (λ n. get_or c.args.flags.now n false) (omega (arith, below, last)) ∙ parts.1
      ];
  one = λ all.
      or_from c.loop-i.one (get_or c.args.flags.now c.loop-i.i false) (c.loop-i.invariant.one all)
      (ap (λ n. get_or c.args.flags.now n false) (omega arith)
      ∙ sym (entry_from false 1 c.args.flags.now (c.loop-i.i + 1) (omega arith))
      ∙ all (c.loop-i.i + 1) (omega arith) (omega (arith, c.loop-i-test.true)));
}
