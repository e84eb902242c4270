use Rattle.std.proofs.Common.{◌-◌, replicate, arith, ◌∙◌}
use Rattle.std.proofs.lemmas.List.{get_or-replicate, length-replicate}
use Rattle.cept_codes.proofs.Laws.{HasMadeEntries-all, HasMadeEntries-more, entry_from}
use Rattle.cept_page.proofs.shifting.shifted_rows.Goals as goal

pub loop-i-init : goal.loop-i-init
loop-i-init g c = record {
  long = length-replicate 24 c.args.freed;
  made = λ k low high none. absurd (omega arith);
  left = λ k low high more. entry_from c.args.freed 1 (replicate 24 c.args.freed) k low
      ∙ get_or-replicate 24 (k - 1) c.args.freed c.args.freed (omega (arith, low, high));
}

pub loop-i-preserved : goal.loop-i-preserved
loop-i-preserved g c =
    HasMadeEntries-more c.args.freed c.shifted_row.result 1 24 _ _ _ c.loop-i.i c.from.result c.numbered.result
    c.loop-i.invariant c.loop-i-test.true c.from.ensures (omega (arith, c.numbered.ensures)) c.shifted_row.ensures

pub returns : goal.returns
returns g c = HasMadeEntries-all c.args.freed 1 24 _ _ _ _ c.loop-i.invariant (omega arith)
