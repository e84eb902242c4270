use Rattle.std.proofs.Common.{◌*◌, ◌+◌, ◌-◌, List, Bool, inl, inr, sym, ap, ◌∙◌, arith}
use Rattle.std.proofs.lemmas.Bool.{cases_lt}
use Rattle.cept_redraw.specs.Marks.{is_marked}
use Rattle.cept_redraw.proofs.MarkedWithin.{row_unmarked}
use Rattle.cept_redraw.proofs.marks.Marks.next_row.Goals as goal

pub loop-k-init : goal.loop-k-init
loop-k-init c = λ n low high.
    ap (λ (l : List Bool). is_marked l n) (sym c.self.view_is) ∙ c.self.invariant.before n (omega (arith, low, high))

pub loop-k-preserved : goal.loop-k-preserved
loop-k-preserved c = λ n low high. elim (cases_lt n (40 * c.loop-k.k)) [
  | inl above ↦ c.loop-k.invariant n low above
  | inr past ↦
      ap (λ (l : List Bool). is_marked l n) (sym c.self.view_is)
      ∙ row_unmarked c.self.inside.flags (40 * c.loop-k.k) (40 * c.loop-k.k + 40 - 40 * c.loop-k.k) (omega arith)
      (c.has_one.ensures.none c.if-has_one.false) n past (omega (arith, high))
]

pub returns-then-has_one-clause-before : goal.returns-then-has_one-clause-before
returns-then-has_one-clause-before c = λ n low high. c.loop-k.invariant n low (omega (arith, high, c.numbered.ensures))

pub returns-clause-none : goal.returns-clause-none
returns-clause-none c = λ _ n low. elim (cases_lt n (40 * c.loop-k.k)) [
  | inl above ↦ c.loop-k.invariant n low above
  | inr past ↦
      ap (λ (l : List Bool). is_marked l n) (sym c.self.view_is) ∙ c.self.invariant.after n (omega (arith, past))
]
