use Rattle.std.proofs.Common.{sym, subst, ◌∙◌}
use Rattle.cept_profile.specs.State.{State}
use Rattle.cept_profile.specs.Valid.{IsValidState}
use Rattle.cept_screen_tests.proofs.repaint.put_back.Goals as goal

pub restore-requires : goal.restore-requires
restore-requires g c =
    subst (λ (s : State). IsValidState s)
    (sym (c.apply_noting-2.ensures.unwound ∙ c.apply_noting.ensures.unwound ∙ c.begin_notes.ensures.unwound))
    c.begin_notes.ensures.valid
