use Rattle.std.proofs.Common.{refl, sym, ap, subst, ◌∙◌}
use Rattle.cept_profile.specs.OldValues.{page_unwound}
use Rattle.cept_profile.specs.State.{Page}
use Rattle.cept_profile.specs.Valid.{IsValidPage}
use Rattle.cept_delta.specs.Noter.{page_with}
use Rattle.cept_page.specs.Fields.{page_of}
use Rattle.cept_page.proofs.FlagsAnew.{HasSameLocations-refl}
use Rattle.cept_page.proofs.page.Page.unwind.Goals as goal

pub unwind_page-requires-clause-valid : goal.unwind_page-requires-clause-valid
unwind_page-requires-clause-valid c =
    subst (λ (p : Page). IsValidPage (page_unwound p c.args.delta.now)) (sym c.self.view_is) c.requires.valid

pub returns : goal.returns
returns c =
    c.unwind_page.ensures ∙ ap (λ (p : Page). page_unwound p c.args.delta.now) c.self.view_is

pub invariant_of-self : goal.invariant_of-self
invariant_of-self c =
    c.flag_unwound.ensures (page_of c.self.inside)
    (page_with c.unwind_page.new.grid c.unwind_page.new.row_pens c.unwind_page.new.screen_pen
    c.unwind_page.new.colours c.unwind_page.new.patterns) c.args.delta.now (HasSameLocations-refl c.args.delta.now)
    c.self.invariant c.unwind_page.ensures refl refl
