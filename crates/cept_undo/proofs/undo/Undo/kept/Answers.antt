use Rattle.std.proofs.Common.{length, sym, ap, ◌∙◌}
use Rattle.cept_undo.specs.Past.{Edits}
use Rattle.cept_undo.proofs.PastAndFuture.{length-past}
use Rattle.cept_undo.proofs.undo.Undo.kept.Goals as goal

pub returns-clause-past : goal.returns-clause-past
returns-clause-past c = λ screen.
    c.len.ensures.len
    ∙ ap (λ (u : Edits). length u.kept) c.self.view_is
    ∙ sym (length-past c.args.self.now screen)
