use Rattle.std.proofs.Common.{◌≡◌, ◌+◌, ◌-◌, ◌<◌, ℕ, Bool, List, length, false, get_or, replicate, arith, sym, ap, ◌∙◌}
use Rattle.std.proofs.lemmas.List.{get_or-replicate, get_or_default, length-replicate}
use Rattle.cept_codes.specs.Table.{entry}
use Rattle.cept_codes.proofs.Laws.{HasMadeEntries-all, HasMadeEntries-more, entry-list_by_index, entry_from}
use Rattle.cept_codes.proofs.Laws.{length-list_by_index}
use Rattle.cept_page.specs.Parts.{pens_of}
use Rattle.cept_redraw.specs.declared.followed_rows.Followed.{Followed}
use Rattle.cept_redraw.specs.inside.Due.{followed, freed, is_altered, is_altered_from}
use Rattle.cept_redraw.proofs.altered_rows.rows_altered.Goals as goal

pub loop-i-init : goal.loop-i-init
loop-i-init c = record {
  long = length-replicate 24 false;
  made = λ k low high none. absurd (omega arith);
  left = λ k low high more. entry_from false 1 (replicate 24 false) k low
      ∙ get_or-replicate 24 (k - 1) false false (omega (arith, low, high));
}

-- a row as it is read
read : (rows : List Followed) (n at : ℕ) (d : Followed) → at ≡ n → at < length rows
    → entry freed 1 rows (n + 1) ≡ get_or rows at d
read rows n at d e within =
    let back : n + 1 - 1 ≡ at = omega (arith, e) in
    entry_from freed 1 rows (n + 1) (omega arith) ∙ ap (λ m. get_or rows m freed) back
    ∙ get_or_default rows at freed d within

pub loop-i-preserved : goal.loop-i-preserved
unfolding is_altered
loop-i-preserved c =
    let altered : ℕ → Bool =
    is_altered c.args.strokes.now c.args.was.now c.args.before.now (pens_of c.args.page.now) c.args.after.now in
    let long : length c.args.rows.now ≡ 24 = ap length c.requires.rows ∙ length-list_by_index 1 24 _ in
    let row : get_or c.args.rows.now c.from-index.result c.index-rows-index.result
    ≡ followed c.args.strokes.now (c.loop-i.i + 1) =
    sym (read c.args.rows.now c.loop-i.i c.from-index.result c.index-rows-index.result c.from-index.ensures
    (omega (arith, c.from-index.ensures, long, c.loop-i-test.true)))
    ∙ ap (λ (l : List Followed). entry freed 1 l (c.loop-i.i + 1)) c.requires.rows
    ∙ entry-list_by_index freed 1 24 (followed c.args.strokes.now) (c.loop-i.i + 1) (omega arith)
    (omega (arith, c.loop-i-test.true)) in
    let is : c.is_altered.result ≡ altered (c.loop-i.i + 1) =
    c.is_altered.ensures ∙ (λ i. is_altered_from (row i).written (c.one_defines.ensures i) c.args.was.now
    c.args.before.now (pens_of c.args.page.now) c.args.after.now (row i).from (c.numbered.ensures i)) in
    HasMadeEntries-more false c.is_altered.result 1 24 altered (λ _. false) c.loop-i.altered c.loop-i.i
    c.from-index.result (c.loop-i.i + 1) c.loop-i.invariant c.loop-i-test.true c.from-index.ensures (omega arith)
    is

pub returns : goal.returns
returns c = HasMadeEntries-all false 1 24 _ _ _ _ c.loop-i.invariant (omega arith)
