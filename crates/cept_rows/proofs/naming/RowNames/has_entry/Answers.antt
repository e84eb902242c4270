use Rattle.std.proofs.Common.{arith}
use Rattle.cept_rows.proofs.RowsSearched.{entry_at, has_entry, searched_all, searched_more}
use Rattle.cept_rows.proofs.naming.RowNames.has_entry.Goals as goal

pub loop-k-preserved : goal.loop-k-preserved
loop-k-preserved c =
    searched_more (has_entry c.args.self.now c.args.entry) c.loop-k.k c.loop-k-test.true c.loop-k.invariant
    (entry_at c.args.self.now c.args.entry c.loop-k.k)

pub returns : goal.returns
returns c = searched_all (has_entry c.args.self.now c.args.entry) c.loop-k.k (omega arith) c.loop-k.invariant
