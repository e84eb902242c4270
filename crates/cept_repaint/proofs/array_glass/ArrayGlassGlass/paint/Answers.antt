use Rattle.std.proofs.Common.{List, refl, sym, ap, subst, ◌∙◌, arith, rules}
use Rattle.cept_codes.specs.declared.look.Look.{Look}
use Rattle.cept_codes.specs.Look.{blank_look}
use Rattle.cept_profile.specs.Changes.{grid_with_paint}
use Rattle.cept_profile.specs.State.{core_of}
use Rattle.cept_profile.specs.Tiling.{column_entry}
use Rattle.cept_profile.specs.Valid.{IsValidGrid}
use Rattle.cept_repaint.proofs.ArrayRows.{painted_in_row}
use Rattle.cept_repaint.proofs.LooksSeen.{look_at-in_row}
use Rattle.cept_repaint.proofs.ValidGrids.{IsValidGrid-grid_with_paint}
use Rattle.cept_repaint.proofs.array_glass.ArrayGlassGlass.paint.Goals as goal

pub invariant_of-self : goal.invariant_of-self
invariant_of-self c =
    let on = c.row.ensures.on_screen in
    record {
      valid = subst (λ (g : List (List Look)). IsValidGrid g)
          (sym (painted_in_row c.args.self.now.rows c.args.at c.row_looks-looks.result.now c.index.result
          c.in_column.result _ c.copy_at.new.self c.index-self-index.result c.args.self.now.valid.table on
          (omega (arith, c.index.ensures, c.in_row.ensures)) (omega (arith, c.in_column.ensures, on))
          c.in_column.ensures.column refl c.copy_at.ensures))
          (IsValidGrid-grid_with_paint c.args.self.now.valid c.args.at
          (column_entry blank_look c.row_looks-looks.result.now c.args.at.column)
          (c.columns_by_type.ensures.valid c.args.at.column on.from_left on.to_right));
    }

pub returns : goal.returns
returns c =
    let on = c.row.ensures.on_screen in
    let own = look_at-in_row (core_of c.args.screen.now) c.args.at c.row_looks-looks.result.now c.row.result
    c.args.at.column on c.row_looks-looks.ensures.looks c.row.ensures.row refl in
    record {
      grid = painted_in_row c.args.self.now.rows c.args.at c.row_looks-looks.result.now c.index.result
          c.in_column.result _ c.copy_at.new.self c.index-self-index.result c.args.self.now.valid.table on
          (omega (arith, c.index.ensures, c.in_row.ensures)) (omega (arith, c.in_column.ensures, on))
          c.in_column.ensures.column refl c.copy_at.ensures
          ∙ ap (λ (l : Look). grid_with_paint c.args.self.now.rows c.args.at l) own;
      listed = search rules;
    }
