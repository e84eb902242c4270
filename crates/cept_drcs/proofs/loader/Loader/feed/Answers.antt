use Rattle.std.proofs.Common.{sym, ◌∙◌, subst}
use Rattle.cept_drcs.specs.Loading.{Loading, Leads}
use Rattle.cept_drcs.proofs.Laws.{takes_is}
use Rattle.cept_drcs.proofs.Led.{leads_on, led_on}
use Rattle.cept_drcs.proofs.loader.Loader.feed.Goals as goal

pub invariant_of-self : goal.invariant_of-self
invariant_of-self c = led_on c.self.inside.drawing _ c.args.byte c.self.invariant c.feed.ensures.state

pub returns-clause-unit : goal.returns-clause-unit
returns-clause-unit c = λ f u k.
    c.feed.ensures.taken_is
    ∙ takes_is f u c.self.inside.drawing c.args.byte (subst (λ (l : Loading). Leads f u l) (sym c.self.view_is) k)

pub returns-clause-leads : goal.returns-clause-leads
returns-clause-leads c = λ f u k t.
    leads_on f u c.self.inside.drawing _ c.args.byte (subst (λ (l : Loading). Leads f u l) (sym c.self.view_is) k)
    (sym c.feed.ensures.taken_is ∙ t) c.feed.ensures.state
