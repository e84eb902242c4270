use Rattle.std.proofs.Common.{◌+◌, ◌==◌, ◌&&◌, nat_le, refl, ap, ◌∙◌, arith}
use Rattle.cept_codes.specs.Cell.{blank_cell}
use Rattle.cept_codes.specs.Table.{value_at}
use Rattle.cept_profile.specs.OldValues.{with_cells}
use Rattle.cept_delta.proofs.NotedInTurn.{rows_all, rows_more, rows_none}
use Rattle.cept_delta.proofs.delta.Delta.note_rows.Goals as goal

pub loop-number-init : goal.loop-number-init
loop-number-init c = (
  rows_none c.args.self.now (value_at blank_cell c.args.grid.now) c.args.first c.args.first
      c.places_by_type.ensures.cells refl,
  omega arith,
)

pub loop-number-preserved : goal.loop-number-preserved
loop-number-preserved c = (
  rows_more c.args.self.now c.loop-number.self c.note_row.new.self (value_at blank_cell c.args.grid.now)
      c.args.first c.loop-number.number (c.loop-number.number + 1) c.loop-number.invariant.0
      (c.note_row.ensures ∙ ap (λ k. with_cells (λ r j. k == r && nat_le 1 j) (value_at blank_cell c.args.grid.now)
      c.loop-number.self) c.numbered.ensures) c.loop-number.invariant.1 refl,
  omega (arith, c.loop-number.invariant.1),
)

pub returns : goal.returns
returns c =
    rows_all c.args.self.now c.loop-number.self (value_at blank_cell c.args.grid.now) c.args.first c.args.last
    c.loop-number.number c.loop-number.invariant.0 (omega (arith, c.loop-number.invariant.1, c.requires))
