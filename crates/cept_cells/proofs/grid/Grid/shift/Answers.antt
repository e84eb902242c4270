use Rattle.std.proofs.Common.{List, sym, ap, ◌∙◌}
use Rattle.cept_codes.specs.declared.cell.Cell.{Cell}
use Rattle.cept_codes.specs.declared.command.Up.{Up}
use Rattle.cept_codes.specs.declared.command.Up.TheVariants as ways
use Rattle.cept_codes.specs.declared.stroke.Stroke.TheVariants as strokes
use Rattle.cept_profile.specs.Cells.{cells_after}
use Rattle.cept_scroll.specs.Order.{rows_turned}
use Rattle.cept_cells.specs.Freed.{cells_freed}
use Rattle.cept_cells.proofs.ShiftedRows.{cells_after-turned}
use Rattle.cept_cells.proofs.grid.Grid.shift.Goals as goal

pub returns-in-Up : goal.returns-in-Up
returns-in-Up c =
    c.free.ensures
    ∙ ap (λ (t : List (List Cell)). cells_freed t c.args.last)
    (c.turn.ensures ∙ ap (λ (way : Up). rows_turned way c.args.first c.args.last c.args.self.now) c.in-Up.is)
    ∙ cells_after-turned c.args.self.now ways.Up c.args.first c.args.last c.requires
    ∙ ap (λ (way : Up). cells_after c.args.self.now (strokes.Shift c.args.first c.args.last way)) (sym c.in-Up.is)

pub returns-in-Down : goal.returns-in-Down
returns-in-Down c =
    c.free-in-Down.ensures
    ∙ ap (λ (t : List (List Cell)). cells_freed t c.args.first)
    (c.turn.ensures ∙ ap (λ (way : Up). rows_turned way c.args.first c.args.last c.args.self.now) c.in-Down.is)
    ∙ cells_after-turned c.args.self.now ways.Down c.args.first c.args.last c.requires
    ∙ ap (λ (way : Up). cells_after c.args.self.now (strokes.Shift c.args.first c.args.last way)) (sym c.in-Down.is)
