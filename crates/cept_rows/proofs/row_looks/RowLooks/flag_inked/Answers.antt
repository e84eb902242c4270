use Rattle.std.proofs.Common.{false, arith}
use Rattle.cept_codes.specs.Look.{blank_look}
use Rattle.cept_codes.proofs.Laws.{HasMadeEntries-all}
use Rattle.cept_profile.specs.Names.{pattern_shown}
use Rattle.cept_profile.specs.Tiling.{column_entry}
use Rattle.cept_rows.specs.Planes.{has_inks}
use Rattle.cept_rows.proofs.RowsSearched.{flagged_more, none_inked}
use Rattle.cept_rows.proofs.row_looks.RowLooks.flag_inked.Goals as goal

pub returns-then-is_plain : goal.returns-then-is_plain
returns-then-is_plain c =
    none_inked c.args.self.now c.args.flags.now (omega arith) (c.is_plain.ensures c.if-is_plain.true)

pub loop-k-preserved : goal.loop-k-preserved
loop-k-preserved c =
    flagged_more c.args.flags.now (λ column. has_inks (pattern_shown (column_entry blank_look c.args.self.now column).shape))
    c.loop-k.flags c.loop-k.k c.from-at.result c.from-at.ensures c.loop-k-test.true c.loop-k.invariant
    (rw (← c.numbered.ensures) c.is_inked.ensures)

pub returns : goal.returns
returns c = HasMadeEntries-all false 1 40 _ _ _ _ c.loop-k.invariant (omega arith)
