use Rattle.std.proofs.Common.{◌+◌, ◌||◌, false, inl, inr, sym, ap, ◌∙◌, arith}
use Rattle.std.proofs.lemmas.Bool.{cases_eq}
use Rattle.std.proofs.lemmas.List.{get_or-set_other, get_or-set_same, length-set}
use Rattle.cept_redraw.specs.Marks.{is_marked}
use Rattle.cept_redraw.proofs.marks.with_flags.Goals as goal

pub loop-i-preserved : goal.loop-i-preserved
loop-i-preserved c = record {
  columns = length-set _ _ _ ∙ c.loop-i.invariant.columns;
  flags = λ k below. elim (cases_eq k c.loop-i.i) [
    | inl here ↦
        ap (is_marked _) here
        ∙ get_or-set_same c.loop-i.row c.loop-i.i _ false
        (omega (arith, c.loop-i.invariant.columns, c.loop-i-test.true))
        ∙ (λ i. is_marked c.args.marks.now (c.args.first + sym here i) || is_marked c.args.flags.now (sym here i))
    | inr apart ↦
        get_or-set_other c.loop-i.row c.loop-i.i k _ false apart
        ∙ c.loop-i.invariant.flags k (omega (arith, below, apart))
  ];
}
