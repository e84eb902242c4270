use Rattle.std.proofs.Common.{rules}
use Rattle.cept_profile.specs.Cells.{is_at}
use Rattle.cept_delta.proofs.PutBack.{cells_back-empty}
use Rattle.cept_delta.proofs.unwinding.put_back.Goals as goal

pub returns-in_default : goal.returns-in_default
returns-in_default c =
    cells_back-empty (is_at c.args.at) (λ _ _. c.args.old.now) c.args.grid.now c.whole_by_type.ensures (λ r k on here. search rules)
