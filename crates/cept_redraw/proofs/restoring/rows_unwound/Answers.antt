use Rattle.std.proofs.Common.{◌-◌, ◌+◌, ℕ, false, Bool, replicate, ap, arith, ◌∙◌}
use Rattle.std.proofs.lemmas.List.{get_or-replicate, length-replicate}
use Rattle.cept_codes.proofs.Laws.{HasMadeEntries-all, HasMadeEntries-more, entry_from}
use Rattle.cept_redraw.specs.Restored.{is_unwound}
use Rattle.cept_redraw.proofs.restoring.rows_unwound.Goals as goal

pub loop-i-init : goal.loop-i-init
loop-i-init c = record {
  long = length-replicate 24 false;
  made = λ k low high none. absurd (omega arith);
  left = λ k low high more. entry_from false 1 (replicate 24 false) k low
      ∙ get_or-replicate 24 (k - 1) false false (omega (arith, low, high));
}

pub loop-i-preserved : goal.loop-i-preserved
loop-i-preserved c =
    let so : ℕ → Bool = is_unwound c.args.delta.now c.args.before.now c.args.after.now in
    HasMadeEntries-more false c.is_unwound.result 1 24 so (λ _. false) c.loop-i.rows c.loop-i.i
    c.from.result (c.loop-i.i + 1) c.loop-i.invariant c.loop-i-test.true c.from.ensures (omega arith)
    (c.is_unwound.ensures ∙ ap so c.numbered.ensures)

pub returns : goal.returns
returns c = HasMadeEntries-all false 1 24 _ _ _ _ c.loop-i.invariant (omega arith)
