use Rattle.std.proofs.Common.{subst, sym, ap, ◌∙◌, ◌+◌}
use Rattle.cept_profile.specs.State.{Page}
use Rattle.cept_profile.specs.Valid.{IsValidPage}
use Rattle.cept_redraw.proofs.UnwoundRows.{OtherRowsStay-unwound, rows_due-unwound}
use Rattle.cept_redraw.proofs.picture.Picture.unwind.Goals as goal

pub refresh_unwound-requires-clause-others : goal.refresh_unwound-requires-clause-others
refresh_unwound-requires-clause-others g c = record {
  valid = subst (λ (p : Page). IsValidPage p) (sym c.unwind.ensures) c.requires.valid;
  of_core = c.requires.to;
  stay = OtherRowsStay-unwound c.args.self.now.page c.unwind.new.self c.args.delta.now c.args.before.now c.args.after.now
      c.args.self.now.looks c.rows_unwound-rows.result c.requires.kept.valid c.requires.kept.of_core
      c.requires.kept.looks c.unwind.ensures c.rows_unwound-rows.ensures;
}

pub returns : goal.returns
returns g c =
    let done = c.refresh_unwound.ensures in
    record {
      page = done.page ∙ c.unwind.ensures;
      kept = record {
        valid = subst (λ (p : Page). IsValidPage p) (sym (done.page ∙ c.unwind.ensures)) c.requires.valid;
        of_core = c.requires.to;
        looks = done.refreshed.looks;
        named = done.named;
      };
      marks = done.refreshed.marks;
      cost = done.refreshed.cost
          ∙ ap (λ n. c.args.steps.now + n) (rows_due-unwound c.args.delta.now c.args.before.now c.args.after.now
          c.args.self.now.looks c.refresh_unwound.new.self.looks c.rows_unwound-rows.result c.rows_unwound-rows.ensures);
      least = done.least;
    }
