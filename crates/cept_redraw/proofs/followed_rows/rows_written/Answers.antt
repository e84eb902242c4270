use Rattle.std.proofs.Common.{◌≡◌, ◌+◌, ◌-◌, false, get_or, replicate, arith, refl, sym, ap, ◌∙◌}
use Rattle.std.proofs.lemmas.List.{get_or-replicate, get_or_default, length-replicate}
use Rattle.cept_codes.specs.Table.{entry}
use Rattle.cept_codes.proofs.Laws.{HasMadeEntries-all, HasMadeEntries-more, entry_from}
use Rattle.cept_redraw.specs.declared.followed_rows.Followed.{Followed}
use Rattle.cept_redraw.specs.inside.Due.{freed}
use Rattle.cept_redraw.proofs.followed_rows.rows_written.Goals as goal

pub loop-i-init : goal.loop-i-init
loop-i-init c = record {
  long = length-replicate 24 false;
  made = λ k low high none. absurd (omega arith);
  left = λ k low high more. entry_from false 1 (replicate 24 false) k low
      ∙ get_or-replicate 24 (k - 1) false false (omega (arith, low, high));
}

pub loop-i-preserved : goal.loop-i-preserved
loop-i-preserved c =
    let row : get_or c.args.rows.now c.loop-i.i c.index-rows-i.result ≡ entry freed 1 c.args.rows.now (c.loop-i.i + 1) =
    sym (entry_from freed 1 c.args.rows.now (c.loop-i.i + 1) (omega arith)
    ∙ ap (λ n. get_or c.args.rows.now n freed) (omega arith)
    ∙ get_or_default c.args.rows.now c.loop-i.i freed c.index-rows-i.result
    (omega (arith, c.requires, c.loop-i-test.true))) in
    HasMadeEntries-more false (get_or c.args.rows.now c.loop-i.i c.index-rows-i.result).written 1 24
    (λ r. (entry freed 1 c.args.rows.now r).written) (λ _. false) c.loop-i.written c.loop-i.i
    c.loop-i.i (c.loop-i.i + 1) c.loop-i.invariant c.loop-i-test.true refl (omega arith)
    (ap (λ (f : Followed). f.written) row)

pub returns : goal.returns
returns c = HasMadeEntries-all false 1 24 _ _ _ _ c.loop-i.invariant (omega arith)
