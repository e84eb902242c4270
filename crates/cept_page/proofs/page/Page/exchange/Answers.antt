use Rattle.std.proofs.Common.{refl, sym, ap, subst, ◌∙◌}
use Rattle.cept_profile.specs.OldValues.{OldValues, page_unwound}
use Rattle.cept_profile.specs.State.{Page}
use Rattle.cept_profile.specs.Valid.{IsValidPage}
use Rattle.cept_delta.specs.Exchanged.{HasSameLocations, page_exchanged}
use Rattle.cept_delta.specs.Noter.{page_with}
use Rattle.cept_delta.proofs.Laws.{HasSameLocations-page}
use Rattle.cept_page.specs.Fields.{page_of}
use Rattle.cept_page.proofs.page.Page.exchange.Goals as goal

pub exchange_page-requires-clause-valid : goal.exchange_page-requires-clause-valid
exchange_page-requires-clause-valid c =
    subst (λ (p : Page). IsValidPage (page_unwound p c.args.delta.now)) (sym c.self.view_is) c.requires.valid

pub returns-clause-page : goal.returns-clause-page
returns-clause-page c =
    c.exchange_page.ensures.page ∙ ap (λ (p : Page). page_unwound p c.args.delta.now) c.self.view_is

pub returns-clause-noted : goal.returns-clause-noted
returns-clause-noted c =
    c.exchange_page.ensures.noted ∙ ap (λ (p : Page). page_exchanged p c.args.delta.now) c.self.view_is

pub invariant_of-self : goal.invariant_of-self
invariant_of-self c =
    c.flag_unwound.ensures (page_of c.self.inside)
    (page_with c.exchange_page.new.grid c.exchange_page.new.row_pens c.exchange_page.new.screen_pen
    c.exchange_page.new.colours c.exchange_page.new.patterns) c.args.delta.now
    (subst (λ (v : OldValues). HasSameLocations c.args.delta.now v) (sym c.exchange_page.ensures.noted)
    (HasSameLocations-page (page_of c.self.inside) c.args.delta.now))
    c.self.invariant c.exchange_page.ensures.page refl refl
