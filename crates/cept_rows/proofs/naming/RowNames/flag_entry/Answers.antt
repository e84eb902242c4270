use Rattle.std.proofs.Common.{false, refl, arith}
use Rattle.cept_codes.proofs.Laws.{HasMadeEntries-all}
use Rattle.cept_rows.proofs.RowsSearched.{flagged_more, entry_at, has_entry}
use Rattle.cept_rows.proofs.naming.RowNames.flag_entry.Goals as goal

pub loop-k-preserved : goal.loop-k-preserved
loop-k-preserved c =
    flagged_more c.args.flags.now (has_entry c.args.self.now c.args.colour) c.loop-k.flags c.loop-k.k c.loop-k.k refl c.loop-k-test.true
    c.loop-k.invariant (entry_at c.args.self.now c.args.colour c.loop-k.k)

pub returns : goal.returns
returns c = HasMadeEntries-all false 1 40 _ _ _ _ c.loop-k.invariant (omega arith)
