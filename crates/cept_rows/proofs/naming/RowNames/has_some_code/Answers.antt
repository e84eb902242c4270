use Rattle.std.proofs.Common.{arith}
use Rattle.cept_rows.proofs.RowsSearched.{has_some_code, searched_all, searched_more, some_code_at}
use Rattle.cept_rows.proofs.naming.RowNames.has_some_code.Goals as goal

pub loop-k-preserved : goal.loop-k-preserved
loop-k-preserved c =
    searched_more (has_some_code c.args.self.now) c.loop-k.k c.loop-k-test.true c.loop-k.invariant
    (some_code_at c.args.self.now c.loop-k.k)

pub returns : goal.returns
returns c = searched_all (has_some_code c.args.self.now) c.loop-k.k (omega arith) c.loop-k.invariant
