use Rattle.std.proofs.Common.{◌-◌, [], false, Some, sym, replicate, arith, ◌∙◌}
use Rattle.std.proofs.lemmas.List.{get_or-replicate, length-replicate}
use Rattle.cept_codes.proofs.Laws.{HasMadeEntries-all, HasMadeEntries-more, entry_from}
use Rattle.cept_redraw.specs.declared.followed_rows.Followed.{Followed}
use Rattle.cept_redraw.specs.inside.Due.{followed, freed}
use Rattle.cept_redraw.proofs.FollowedRows.{followed-rest}
use Rattle.cept_redraw.proofs.followed_rows.rows_at_rest.Goals as goal

pub loop-i-init : goal.loop-i-init
loop-i-init c = record {
  long = length-replicate 24 freed;
  made = λ k low high none. absurd (omega arith);
  left = λ k low high more. entry_from freed 1 (replicate 24 freed) k low
      ∙ get_or-replicate 24 (k - 1) freed freed (omega (arith, low, high));
}

pub loop-i-preserved : goal.loop-i-preserved
loop-i-preserved c =
    let row : Followed = record { from = Some c.numbered.result; written = false } in
    HasMadeEntries-more freed row 1 24 (followed []) (λ _. freed) c.loop-i.rows c.loop-i.i c.from.result c.numbered.result
    c.loop-i.invariant c.loop-i-test.true c.from.ensures (omega (arith, c.numbered.ensures))
    (sym (followed-rest c.numbered.result))

pub returns : goal.returns
returns c = HasMadeEntries-all freed 1 24 _ _ _ _ c.loop-i.invariant (omega arith)
