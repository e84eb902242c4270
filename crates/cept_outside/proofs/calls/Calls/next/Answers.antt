use Rattle.std.proofs.Common.{arith}
use Rattle.cept_outside.proofs.NumbersReached.{reached_count-later, next_fails, next_rose, next_stays}
use Rattle.cept_outside.proofs.calls.Calls.next.Goals as goal

pub returns-clause-fails : goal.returns-clause-fails
returns-clause-fails c =
    next_fails _ _ _ _ c.is_kept.result c.as_slice.ensures.value c.is_kept.ensures.small c.saturating_add-self.ensures
    c.is_kept.ensures.found

pub returns-clause-later : goal.returns-clause-later
returns-clause-later c = reached_count-later c.args.self.now.numbers.items _ _ (omega arith)

pub returns-clause-stays : goal.returns-clause-stays
returns-clause-stays c = λ f.
    next_stays _ _ _ _ _ c.as_slice.ensures.value (omega arith) c.saturating_add-self.ensures c.is_kept.ensures.found f

pub returns-clause-rose : goal.returns-clause-rose
returns-clause-rose c = λ t.
    next_rose _ _ _ _ c.as_slice.ensures.value c.is_kept.ensures.small c.saturating_add-self.ensures
    (c.is_kept.ensures.found.0 t)
