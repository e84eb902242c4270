use Rattle.std.proofs.Common.{ℕ, List, [], ◌∷◌, ◌++◌, append_assoc, ap, ◌∙◌}
use Rattle.cept_control.specs.Bytes.{working_bytes}
use Rattle.cept_control.proofs.bytes.push_kept.Goals as goal

pub returns-in-Some : goal.returns-in-Some
returns-in-Some c =
    rw c.in-Some.is (
    c.push_working.ensures
    ∙ ap (λ (xs : List ℕ). xs ++ working_bytes c.in-Some.working) c.push.ensures.items
    ∙ append_assoc c.args.bytes.now.items (1 ∷ []) (working_bytes c.in-Some.working)
    )
