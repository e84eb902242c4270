use Rattle.std.proofs.Common.{◌==◌, sym, ap, ◌∙◌, ◌&&◌, nat_le}
use Rattle.cept_codes.specs.Cell.{blank_cell}
use Rattle.cept_codes.specs.Table.{value_at}
use Rattle.cept_codes.specs.declared.stroke.Stroke.{Stroke}
use Rattle.cept_profile.specs.NotedStrokes.{with_stroke}
use Rattle.cept_profile.specs.OldValues.{OldValues, with_cells, with_row_pens}
use Rattle.cept_profile.specs.PageParts.{row_pen_in}
use Rattle.cept_delta.specs.Noter.{page_before}
use Rattle.cept_delta.proofs.delta.Delta.note_stroke.Goals as goal

pub returns-in-Erase : goal.returns-in-Erase
returns-in-Erase c =
    c.note_row.ensures
    ∙ ap (λ k. with_cells (λ r j. k == r && nat_le c.in-Erase.from j) (value_at blank_cell c.args.before.now.grid.now)
    c.args.self.now) c.numbered.ensures
    ∙ ap (λ (s : Stroke). with_stroke (page_before c.args.before.now) s c.args.self.now) (sym c.in-Erase.is)

pub returns-in-Shift : goal.returns-in-Shift
returns-in-Shift c =
    c.note_rows.ensures
    ∙ ap (λ (s : Stroke). with_stroke (page_before c.args.before.now) s c.args.self.now) (sym c.in-Shift.is)

pub returns-in-Carry : goal.returns-in-Carry
returns-in-Carry c =
    c.note_row_pens.ensures
    ∙ ap (λ (old : OldValues). with_row_pens (λ r. nat_le c.in-Carry.first r && nat_le r c.in-Carry.last)
    (row_pen_in c.args.before.now.row_pens.now) old) c.note_rows-in-Carry.ensures
    ∙ ap (λ (s : Stroke). with_stroke (page_before c.args.before.now) s c.args.self.now) (sym c.in-Carry.is)

pub returns-in-RowAttr : goal.returns-in-RowAttr
returns-in-RowAttr c =
    c.note_row_pen.ensures
    ∙ ap (λ k. with_row_pens (λ r. k == r) (row_pen_in c.args.before.now.row_pens.now) c.args.self.now)
    c.numbered-in-RowAttr.ensures
    ∙ ap (λ (s : Stroke). with_stroke (page_before c.args.before.now) s c.args.self.now) (sym c.in-RowAttr.is)

pub returns-in-Colour : goal.returns-in-Colour
returns-in-Colour c =
    c.note_paint.ensures
    ∙ ap (λ (s : Stroke). with_stroke (page_before c.args.before.now) s c.args.self.now) (sym c.in-Colour.is)

pub returns-in-Dclut : goal.returns-in-Dclut
returns-in-Dclut c =
    c.note_dclut.ensures
    ∙ ap (λ (s : Stroke). with_stroke (page_before c.args.before.now) s c.args.self.now) (sym c.in-Dclut.is)

pub returns-in-Drcs : goal.returns-in-Drcs
returns-in-Drcs c =
    c.note_pattern.ensures
    ∙ ap (λ (s : Stroke). with_stroke (page_before c.args.before.now) s c.args.self.now) (sym c.in-Drcs.is)
