-- Commands one after the other, and others after them.
use Rattle.std.proofs.Common.{◌≡◌, ◌+◌, List, [], ◌∷◌, ◌++◌, refl, sym, ap, ◌∙◌, append_assoc, append-nil, arith}
use Rattle.cept_codes.specs.declared.command.Command.{Command}
use Rattle.cept_profile.specs.State.{State, state, state_after}
use Rattle.cept_profile.specs.Valid.{AllValid, IsValidState}
use Rattle.cept_profile.proofs.Laws.{state-one_more, IsValidState-state_after}
use Rattle.cept_repaint.specs.InTurn.{rows_in_reach_of_all, rows_renewed_by_all, state_after_all}

pub state_after_all-append : (s : State) (first second : List Command)
    → state_after_all s (first ++ second) ≡ state_after_all (state_after_all s first) second
unfolding state_after_all
state_after_all-append s [] second = refl
state_after_all-append s (c ∷ first) second = state_after_all-append (state_after s c) first second

pub rows_in_reach_of_all-append : (s : State) (first second : List Command)
    → rows_in_reach_of_all s (first ++ second)
    ≡ rows_in_reach_of_all s first + rows_in_reach_of_all (state_after_all s first) second
unfolding rows_in_reach_of_all state_after_all
rows_in_reach_of_all-append s [] second = omega arith
rows_in_reach_of_all-append s (c ∷ first) second =
    omega (arith, rows_in_reach_of_all-append (state_after s c) first second)

pub rows_renewed_by_all-append : (s : State) (first second : List Command)
    → rows_renewed_by_all s (first ++ second)
    ≡ rows_renewed_by_all s first + rows_renewed_by_all (state_after_all s first) second
unfolding rows_renewed_by_all state_after_all
rows_renewed_by_all-append s [] second = omega arith
rows_renewed_by_all-append s (c ∷ first) second =
    omega (arith, rows_renewed_by_all-append (state_after s c) first second)

AllValid-append : (first second : List Command) → AllValid first → AllValid second → AllValid (first ++ second)
AllValid-append [] second former latter = latter
AllValid-append (c ∷ first) second former latter = (former.0, AllValid-append first second former.1 latter)

pub state-after_all : (history commands : List Command) → AllValid history → AllValid commands
    → state (history ++ commands) ≡ state_after_all (state history) commands
unfolding state_after_all
state-after_all history [] valid more = ap state (append-nil history)
state-after_all history (c ∷ cs) valid more =
    ap state (sym (append_assoc history (c ∷ []) cs))
    ∙ state-after_all (history ++ c ∷ []) cs (AllValid-append history (c ∷ []) valid (more.0, tt)) more.1
    ∙ ap (λ (s : State). state_after_all s cs) (state-one_more history c valid more.0)

pub IsValidState-state_after_all : (s : State) (commands : List Command) → IsValidState s → AllValid commands
    → IsValidState (state_after_all s commands)
unfolding state_after_all
IsValidState-state_after_all s [] is valid = is
IsValidState-state_after_all s (c ∷ cs) is valid =
    IsValidState-state_after_all (state_after s c) cs (IsValidState-state_after s c is valid.0) valid.1
