use Rattle.cept_rows.proofs.KeptRows.{columns_of, small_at, valid_at}
use Rattle.cept_rows.proofs.row_looks.RowLooks.small.Goals as goal

pub returns-clause-look : goal.returns-clause-look
returns-clause-look c =
    rw c.index.ensures.index (small_at c.self.inside c.args.self.now c.args.column _ c.self.invariant c.self.view_is
    c.index.ensures.in_range.0 c.index.ensures.in_range.1)

pub returns-clause-valid : goal.returns-clause-valid
returns-clause-valid c =
    valid_at c.self.inside c.args.self.now c.args.column c.self.invariant c.self.view_is c.index.ensures.in_range.0
    c.index.ensures.in_range.1

pub returns-clause-columns : goal.returns-clause-columns
returns-clause-columns c = columns_of c.self.inside c.args.self.now c.self.view_is
