use Rattle.std.proofs.Common.{sym, ◌∙◌, ap, None, false}
use Rattle.cept_profile.specs.Influence.{Influence}
use Rattle.cept_profile.proofs.Laws.{influence-start}
use Rattle.cept_attrs.specs.Walk.{IsInfluence}
use Rattle.cept_attrs.proofs.serial.Influence.at_start.Goals as goal

pub returns-clause-influence : goal.returns-clause-influence
unfolding IsInfluence
returns-clause-influence c cells =
    sym (influence-start cells c.args.row.now c.args.screen.now)
    ∙ ap (λ f. (let s : Influence = record { full = f; hold = false; kept_sign = None } in s))
    (sym c.cascade.ensures.attributes)
