use Rattle.std.proofs.Common.{◌∷◌, sym, ◌∙◌, subst}
use Rattle.cept_drcs.specs.Loading.{Loading, Leads}
use Rattle.cept_drcs.proofs.Laws.{full_units, full_grows}
use Rattle.cept_drcs.proofs.loader.Loader.full.Goals as goal

pub returns-clause-units : goal.returns-clause-units
returns-clause-units c = λ f u k.
    let both = full_units f u c.self.inside.drawing (subst (λ (l : Loading). Leads f u l) (sym c.self.view_is) k) in
    (λ t. both.0 (sym c.is_full.ensures ∙ t), λ none. c.is_full.ensures ∙ both.1 none)

pub returns-clause-grows : goal.returns-clause-grows
returns-clause-grows c = λ f a u k.
    c.is_full.ensures
    ∙ full_grows f a u c.self.inside.drawing (subst (λ (l : Loading). Leads f (a ∷ u) l) (sym c.self.view_is) k)
