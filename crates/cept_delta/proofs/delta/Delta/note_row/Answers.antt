use Rattle.std.proofs.Common.{◌==◌, ◌-◌, ◌&&◌, nat_le, List, [], get_or, refl, ap, length, ◌∙◌, arith}
use Rattle.std.proofs.lemmas.Bool.{and_parts, eqb-true}
use Rattle.cept_codes.specs.declared.cell.Cell.{Cell}
use Rattle.cept_codes.specs.Cell.{blank_cell}
use Rattle.cept_codes.specs.Table.{entry, value_at}
use Rattle.cept_codes.proofs.Laws.{entry_from, length-list_by_index}
use Rattle.cept_delta.proofs.KeptDelta.{IsKeptDelta-row, row_of_values}
use Rattle.cept_delta.proofs.NotedInTurn.{cells_alike}
use Rattle.cept_delta.proofs.delta.Delta.note_row.Goals as goal

pub returns : goal.returns
returns c =
    row_of_values c.self.invariant.places c.self.view_is c.index-index.result c.args.row c.args.from
    c.cells.result.now c.index_mut.result.now c.note_from.new.noted _ (omega arith) (omega arith)
    c.index_mut.ensures.value c.note_from.ensures
    ∙ cells_alike (λ r k. c.args.row == r && nat_le c.args.from k) (λ r k. c.args.row == r && nat_le c.args.from k)
    (λ _ k. entry blank_cell 1 c.cells.result.now k) (value_at blank_cell c.args.grid.now) c.args.self.now
    (λ r k on. refl) (λ r k on here.
    let parts = and_parts (c.args.row == r) (nat_le c.args.from k) here in
    entry_from blank_cell 1 c.cells.result.now k on.from_left
    ∙ ap (λ (l : List Cell). get_or l (k - 1) blank_cell) (c.cells.ensures.cells [])
    ∙ ap (λ n. value_at blank_cell c.args.grid.now n k) c.number.ensures.number
    ∙ ap (λ q. value_at blank_cell c.args.grid.now q k) (eqb-true c.args.row r parts.0))

pub invariant_of-self : goal.invariant_of-self
invariant_of-self c =
    IsKeptDelta-row c.self.invariant c.index-index.result c.args.row c.note_from.new.noted (omega arith) (omega arith)
    (ap length c.note_from.ensures ∙ length-list_by_index 1 40 _)
