use Rattle.std.proofs.Common.{arith}
use Rattle.cept_rows.proofs.RowsSearched.{code_at, has_code, searched_all, searched_more}
use Rattle.cept_rows.proofs.naming.RowNames.has_code.Goals as goal

pub loop-k-preserved : goal.loop-k-preserved
loop-k-preserved c =
    searched_more (has_code c.args.self.now c.args.code) c.loop-k.k c.loop-k-test.true c.loop-k.invariant
    (code_at c.args.self.now c.args.code c.loop-k.k c.requires)

pub returns : goal.returns
returns c = searched_all (has_code c.args.self.now c.args.code) c.loop-k.k (omega arith) c.loop-k.invariant
