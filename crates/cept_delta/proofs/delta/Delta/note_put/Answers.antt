use Rattle.std.proofs.Common.{◌==◌, refl, ap, ◌∙◌}
use Rattle.std.proofs.lemmas.Bool.{and_parts, eqb-true}
use Rattle.cept_codes.specs.Cell.{blank_cell}
use Rattle.cept_codes.specs.Table.{value_at}
use Rattle.cept_profile.specs.Cells.{is_at}
use Rattle.cept_delta.proofs.NotedInTurn.{cells_alike}
use Rattle.cept_delta.proofs.delta.Delta.note_put.Goals as goal

pub returns : goal.returns
returns c =
    c.note_cell.ensures
    ∙ cells_alike (is_at c.args.at) (is_at c.args.at) (λ _ _. c.at.result.now) (value_at blank_cell c.args.grid.now)
    c.args.self.now (λ r k on. refl) (λ r k on here.
    let parts = and_parts (c.args.at.row == r) (c.args.at.column == k) here in
    c.at.ensures.cell
    ∙ ap (λ q. value_at blank_cell c.args.grid.now q c.args.at.column) (eqb-true c.args.at.row r parts.0)
    ∙ ap (λ n. value_at blank_cell c.args.grid.now r n) (eqb-true c.args.at.column k parts.1))
