use Rattle.std.proofs.Common.{[], arith, refl, subst, sym}
use Rattle.cept_profile.specs.State.{Page}
use Rattle.cept_redraw.specs.inside.Due.{at_rest, OtherRowsStay}
use Rattle.cept_redraw.specs.Kept.{core_on}
use Rattle.cept_redraw.proofs.RowsRenewed.{rows_renewed-due}
use Rattle.cept_redraw.proofs.picture.Picture.refresh_unwound.Goals as goal

pub returns-clause-page : goal.returns-clause-page
returns-clause-page g c = c.refresh_rows.ensures.rest.page

pub returns-clause-refreshed : goal.returns-clause-refreshed
returns-clause-refreshed g c = record {
  looks = c.refresh_rows.ensures.refreshed.looks;
  marks = c.refresh_rows.ensures.refreshed.marks;
  cost = c.refresh_rows.ensures.refreshed.cost;
}

pub returns-clause-named : goal.returns-clause-named
returns-clause-named g c = λ k same. c.forget_all.ensures (core_on k c.refresh_rows.new.self.page)

pub returns-clause-least : goal.returns-clause-least
returns-clause-least g c =
    let k = c.requires.others.of_core.0 in
    let same = c.requires.others.of_core.1 in
    let page = c.refresh_rows.new.self.page in
    omega (
      arith,
      c.refresh_rows.ensures.refreshed.cost,
      rows_renewed-due [] c.args.flags.now at_rest c.args.self.now.looks c.refresh_rows.new.self.looks
          (core_on k page) refl (c.refresh_rows.ensures.refreshed.looks k same)
          (subst (λ (p : Page). OtherRowsStay c.args.flags.now at_rest c.args.self.now.looks (core_on k p))
          (sym c.refresh_rows.ensures.rest.page) (c.requires.others.stay k same)),
    )
