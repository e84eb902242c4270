use Rattle.std.proofs.Common.{◌<◌, sym, ◌∙◌, subst}
use Rattle.cept_profile.specs.State.{core_of}
use Rattle.cept_plot.specs.Lit.{is_lit}
use Rattle.cept_plot.proofs.PaintedCells.{painted_cell-left, painted_cell-written}
use Rattle.cept_plot.proofs.ValuesOfCells.{value_of_cell}
use Rattle.cept_plot.proofs.paint.paint_cell.Goals as goal

pub returns-then-is_written_anew : goal.returns-then-is_written_anew
returns-then-is_written_anew g c =
    painted_cell-written (core_of c.args.screen.now) (is_lit c.args.field.now) c.args.at.row c.args.at.column
    (sym c.is_written_anew.ensures ∙ c.if-is_written_anew.true)
    (c.value.ensures.value
    ∙ sym (value_of_cell c.args.field.now c.args.at.row c.args.at.column c.row.ensures.on_screen
    (subst (λ v. v < 64) c.value.ensures.value c.value.ensures.valid)))
    (rw (c.row.ensures.row, c.col.ensures.column) at c.paint_command.ensures.painted) c.paint_value.ensures

pub returns-else-is_written_anew : goal.returns-else-is_written_anew
returns-else-is_written_anew g c =
    painted_cell-left (core_of c.args.screen.now) (is_lit c.args.field.now) c.args.at.row c.args.at.column
    c.args.screen.now (g.G.Glass.state c.args.glass.now) c.args.steps.now
    (sym c.is_written_anew.ensures ∙ c.if-is_written_anew.false)
