use Rattle.std.proofs.Common.{sym, ◌∙◌, subst}
use Rattle.cept_drcs.specs.Loading.{Loading, Leads}
use Rattle.cept_drcs.proofs.Laws.{pattern_led}
use Rattle.cept_drcs.proofs.Led.{pattern_valid}
use Rattle.cept_drcs.proofs.loader.Loader.pattern.Goals as goal

pub returns-clause-unit : goal.returns-clause-unit
returns-clause-unit c = λ f u k.
    c.pattern.ensures
    ∙ pattern_led f u c.self.inside.drawing (subst (λ (l : Loading). Leads f u l) (sym c.self.view_is) k)

pub returns-clause-valid : goal.returns-clause-valid
returns-clause-valid c = pattern_valid c.self.inside.drawing _ c.self.invariant c.pattern.ensures
