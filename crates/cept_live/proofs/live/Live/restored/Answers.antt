use Rattle.std.proofs.Common.{Some, ap, sym, ◌∙◌}
use Rattle.std.proofs.lemmas.Bool.{true≢false}
use Rattle.cept_live.proofs.live.Live.restored.Goals as goal

pub returns-then-branch-clause-back : goal.returns-then-branch-clause-back
returns-then-branch-clause-back c = λ live bytes fed is.
    ap (λ l. Some l) (c.in_ok-restore.ensures.back live bytes fed is).1

pub returns-else-branch-clause-back : goal.returns-else-branch-clause-back
returns-else-branch-clause-back c = λ live bytes fed is.
    absurd (true≢false (sym (c.in_ok-restore.ensures.back live bytes fed is).0 ∙ c.if-branch.false))
