use Rattle.std.proofs.Common.{inl, refl, sym, ap, ◌∙◌}
use Rattle.std.proofs.lemmas.Bool.{true≢false}
use Rattle.cept_live.specs.States.{state_record}
use Rattle.tamligub.proofs.Taken.{taken}
use Rattle.tamligub.proofs.live.tamligub_state.Goals as goal

pub returns : goal.returns
returns c =
    let found = taken _ _ _ c.in-Some.ensures.value in
    record {
      told_is = λ _. (found.0, c.state.ensures ∙ ap state_record (c.deref.ensures ∙ found.1));
      refused = inl refl;
      cause = ((λ e. cc), (λ closed. absurd (true≢false (sym found.0 ∙ closed))));
      kept = record {
        is_open = c.put.ensures.is_open ∙ sym found.0;
        state = λ _. c.put.ensures.value ∙ found.1;
      };
    }
