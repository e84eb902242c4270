use Rattle.std.proofs.Common.{◌&&◌, true, nat_le, refl, ◌∙◌, arith}
use Rattle.std.proofs.lemmas.Bool.Decides.{nat_tests}
use Rattle.cept_codes.specs.Cell.{blank_cell}
use Rattle.cept_codes.specs.Table.{value_at}
use Rattle.cept_delta.proofs.NotedInTurn.{cells_alike}
use Rattle.cept_delta.proofs.delta.Delta.note_all_cells.Goals as goal

pub returns : goal.returns
returns c =
    c.note_rows.ensures
    ∙ cells_alike (λ r _. nat_le 1 r && nat_le r 24) (λ _ _. true) (value_at blank_cell c.args.grid.now)
    (value_at blank_cell c.args.grid.now) c.args.self.now
    (λ r k on. grind (arith, nat_tests)) (λ r k on here. refl)
