use Rattle.std.proofs.Common.{false, refl, arith}
use Rattle.cept_codes.proofs.Laws.{HasMadeEntries-all}
use Rattle.cept_rows.proofs.RowsSearched.{flagged_more, code_at, has_code}
use Rattle.cept_rows.proofs.naming.RowNames.flag_code.Goals as goal

pub loop-k-preserved : goal.loop-k-preserved
loop-k-preserved c =
    flagged_more c.args.flags.now (has_code c.args.self.now c.args.code) c.loop-k.flags c.loop-k.k c.loop-k.k refl c.loop-k-test.true
    c.loop-k.invariant (code_at c.args.self.now c.args.code c.loop-k.k c.requires.code)

pub returns : goal.returns
returns c = HasMadeEntries-all false 1 40 _ _ _ _ c.loop-k.invariant (omega arith)
