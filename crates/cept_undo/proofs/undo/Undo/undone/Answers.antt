use Rattle.std.proofs.Common.{length, sym, ap, ◌∙◌, arith}
use Rattle.cept_undo.specs.Past.{Edits}
use Rattle.cept_undo.proofs.PastAndFuture.{length-future, length-past}
use Rattle.cept_undo.proofs.undo.Undo.undone.Goals as goal

pub returns-clause-future : goal.returns-clause-future
returns-clause-future c = λ screen.
    c.len.ensures.len
    ∙ ap (λ (u : Edits). length u.undone) c.self.view_is
    ∙ sym (length-future c.args.self.now screen)

pub returns-clause-together : goal.returns-clause-together
returns-clause-together c = λ screen.
    omega (
      arith,
      c.self.invariant.few,
      length-past c.args.self.now screen,
      length-future c.args.self.now screen,
      ap (λ (u : Edits). length u.kept) c.self.view_is,
      ap (λ (u : Edits). length u.undone) c.self.view_is,
    )
