use Rattle.std.proofs.Common.{refl, ap}
use Rattle.cept_profile.specs.OldValues.{OldValues}
use Rattle.circular_buffer.specs.Buffer.{Buffer}
use Rattle.cept_undo.proofs.PastAndFuture.{FitsTogether-none, future-none, past-none}
use Rattle.cept_undo.proofs.undo.Undo.new.Goals as goal

pub returns-clause-past : goal.returns-clause-past
returns-clause-past c = λ screen. past-none _ screen (ap (λ (b : Buffer OldValues). b.items) c.in_ok-kept.ensures)

pub returns-clause-future : goal.returns-clause-future
returns-clause-future c = λ screen.
    future-none _ screen (ap (λ (b : Buffer OldValues). b.items) c.in_ok-undone.ensures)

pub returns-clause-fits : goal.returns-clause-fits
returns-clause-fits c = λ screen _.
    FitsTogether-none _ screen refl (ap (λ (b : Buffer OldValues). b.items) c.in_ok-kept.ensures)
    (ap (λ (b : Buffer OldValues). b.items) c.in_ok-undone.ensures)
