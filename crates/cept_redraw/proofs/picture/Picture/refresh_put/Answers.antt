use Rattle.std.proofs.Common.{subst}
use Rattle.cept_redraw.specs.Named.{NamesOfRows}
use Rattle.cept_redraw.specs.inside.Named.{AreJustRemembered, IsUnmarkedBelow}
use Rattle.std.specs.Prelude.{◌≢◌}
use Rattle.cept_redraw.proofs.picture.Picture.refresh_put.Goals as goal

pub returns-clause-page : goal.returns-clause-page
returns-clause-page g c = c.refresh_down.ensures.rest.page

pub returns-clause-refreshed : goal.returns-clause-refreshed
returns-clause-refreshed g c = record {
  looks = c.refresh_down.ensures.refreshed.looks;
  marks = c.refresh_down.ensures.refreshed.marks;
  cost = c.refresh_down.ensures.refreshed.cost;
}

pub returns-clause-remembered : goal.returns-clause-remembered
returns-clause-remembered g c =
    subst (λ (n : NamesOfRows). AreJustRemembered n c.forget_marked.new.self
    (λ r. (r ≢ c.args.row) × IsUnmarkedBelow c.refresh_down.new.marks 960 r)) c.refresh_down.ensures.rest.names
    (subst (λ m. AreJustRemembered c.refresh_down.new.self.names c.forget_marked.new.self (λ r. (r ≢ m)
    × IsUnmarkedBelow c.refresh_down.new.marks 960 r)) c.numbered.ensures c.forget_marked.ensures)
