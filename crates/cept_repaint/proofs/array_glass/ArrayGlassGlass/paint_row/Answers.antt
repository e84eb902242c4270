use Rattle.std.proofs.Common.{◌-◌, cond, false, List, set, refl, sym, ap, subst, ◌∙◌, rules}
use Rattle.cept_codes.specs.declared.look.Look.{Look}
use Rattle.cept_codes.specs.Look.{blank_look}
use Rattle.cept_codes.specs.Table.{entry, row_of}
use Rattle.cept_codes.proofs.Laws.{IsTable-table}
use Rattle.cept_profile.specs.Look.{look, looks_of}
use Rattle.cept_profile.specs.RowsFromAbove.{looks_in}
use Rattle.cept_profile.specs.State.{core_of}
use Rattle.cept_profile.specs.Tiling.{column_entry}
use Rattle.cept_profile.specs.Valid.{IsValidGrid}
use Rattle.cept_repaint.proofs.ArrayRows.{flagged_row_is}
use Rattle.cept_repaint.proofs.PaintedRows.{flagged_valid, row_painted}
use Rattle.cept_repaint.proofs.array_glass.ArrayGlassGlass.paint_row.Goals as goal

pub invariant_of-self : goal.invariant_of-self
invariant_of-self c = record {
  valid = subst (λ (g : List (List Look)). IsValidGrid g)
      (sym (flagged_row_is c.args.self.now.rows c.args.flags.now c.args.row c.index.result c.row_looks-looks.result.now _
      c.copy_flagged.new.self c.index-self-index.result c.args.self.now.valid.table c.number.ensures.in_range.0
      c.number.ensures.in_range.1 c.index.ensures.index refl c.copy_flagged.ensures))
      (flagged_valid c.args.self.now.valid c.args.flags.now c.args.row c.row_looks-looks.result.now c.number.ensures.in_range.0
      c.number.ensures.in_range.1 c.columns_by_type.ensures.valid);
}

pub returns : goal.returns
returns c = record {
  grid = flagged_row_is c.args.self.now.rows c.args.flags.now c.args.row c.index.result c.row_looks-looks.result.now _
      c.copy_flagged.new.self c.index-self-index.result c.args.self.now.valid.table c.number.ensures.in_range.0
      c.number.ensures.in_range.1 c.index.ensures.index refl c.copy_flagged.ensures
      ∙ ap (λ (l : List Look). set c.args.self.now.rows (c.args.row - 1) (row_of (λ column.
      cond (entry false 1 c.args.flags.now column) (column_entry blank_look l column)
      (column_entry blank_look (looks_in c.args.self.now.rows c.args.row) column))))
      (c.row_looks-looks.ensures.looks ∙ ap (looks_in (looks_of (core_of c.args.screen.now))) c.number.ensures.number)
      ∙ row_painted c.args.flags.now c.args.row (looks_of (core_of c.args.screen.now)) c.args.self.now.rows
      (IsTable-table (look (core_of c.args.screen.now))) c.args.self.now.valid.table c.number.ensures.in_range.0
      c.number.ensures.in_range.1;
  listed = search rules;
}
