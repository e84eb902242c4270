-- A page before and after one stroke, part by part (this project's own).
use Rattle.std.specs.Prelude.{◌≡◌}
use Rattle.cept_codes.specs.declared.stroke.Stroke.{Stroke}
use Rattle.cept_profile.specs.Cells.{cells_after}
use Rattle.cept_profile.specs.PageParts.{dclut_list_after, paints_after, patterns_after, row_pens_after}
use Rattle.cept_profile.specs.PageParts.{screen_pen_after}
use Rattle.cept_profile.specs.State.{Page}

-- each part is as the stroke leaves it
pub record IsDrawn (p : Page) (stroke : Stroke) (q : Page) : Type 0 where
  pub cells : q.cells ≡ cells_after p.cells stroke
  pub row_pens : q.row_pens ≡ row_pens_after p.row_pens stroke
  pub screen_pen : q.screen_pen ≡ screen_pen_after p.screen_pen stroke
  pub paints : q.paints ≡ paints_after p.paints stroke
  pub dclut : q.dclut ≡ dclut_list_after p.dclut stroke
  pub patterns : q.patterns ≡ patterns_after p.patterns stroke
