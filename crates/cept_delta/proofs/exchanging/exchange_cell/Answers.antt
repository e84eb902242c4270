use Rattle.std.proofs.Common.{rules}
use Rattle.cept_profile.specs.Cells.{is_at}
use Rattle.cept_delta.proofs.PutBack.{cells_back-empty}
use Rattle.cept_delta.proofs.exchanging.exchange_cell.Goals as goal

pub returns-in_default-clause-cells : goal.returns-in_default-clause-cells
returns-in_default-clause-cells c =
    cells_back-empty (is_at c.args.at) (λ _ _. c.args.noted.now) c.args.grid.now
    c.whole_by_type.ensures (λ r k on here. search rules)
