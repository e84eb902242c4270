use Rattle.std.proofs.Common.{◌-◌, false, List, replicate, arith, ap, ◌∙◌}
use Rattle.std.proofs.lemmas.List.{get_or-replicate, length-replicate}
use Rattle.cept_codes.specs.declared.look.Look.{Look}
use Rattle.cept_codes.proofs.Laws.{HasMadeEntries-all, HasMadeEntries-more, entry_from}
use Rattle.cept_profile.specs.Reach.{is_redefined}
use Rattle.cept_profile.specs.RowsFromAbove.{looks_in}
use Rattle.cept_profile.specs.State.{Core}
use Rattle.cept_redraw.specs.Kept.{core_on}
use Rattle.cept_redraw.specs.inside.Redefined.{IsNamedRow}
use Rattle.cept_redraw.proofs.NamesKept.{all_named}
use Rattle.cept_rows.specs.declared.naming.RowNames.{RowNames}
use Rattle.cept_rows.specs.KeptNames.{names_kept}
use Rattle.cept_redraw.proofs.redefined_rows.rows_redefined.Goals as goal

pub loop-i-init : goal.loop-i-init
loop-i-init c = λ k is named. record {
  long = length-replicate 24 false;
  made = λ n low high none. absurd (omega arith);
  left = λ n low high more. entry_from false 1 (replicate 24 false) n low
      ∙ get_or-replicate 24 (n - 1) false false (omega (arith, low, high));
}

pub loop-i-preserved : goal.loop-i-preserved
loop-i-preserved c = λ k is are.
    let core : Core = core_on k c.args.page.now in
    let row : IsNamedRow core c.numbered-row.result c.row.result.now c.row-in-loop-i.result.now
    c.colours.result.now.dclut = record {
      from_top = omega (arith, c.numbered-row.ensures);
      to_bottom = omega (arith, c.numbered-row.ensures, c.loop-i-test.true);
      valid = c.requires.valid;
      named = λ column on. ap (λ (n : RowNames). names_kept n column) c.row.ensures
          ∙ all_named c.args.names.now core are c.requires.known c.numbered-row.result column on;
      seen = c.row-in-loop-i.ensures ∙ ap (λ (g : List (List Look)). looks_in g c.numbered-row.result) is;
      inks = c.colours.ensures.dclut;
    } in
    HasMadeEntries-more false c.is_redefined.result 1 24 (is_redefined core c.args.strokes.now) (λ _. false)
    c.loop-i.redefined c.loop-i.i c.from.result c.numbered-row.result (c.loop-i.invariant k is are) c.loop-i-test.true
    c.from.ensures (omega (arith, c.numbered-row.ensures)) (c.is_redefined.ensures core c.numbered-row.result row)

pub returns : goal.returns
returns c = λ k is are. HasMadeEntries-all false 1 24 _ _ _ _ (c.loop-i.invariant k is are) (omega arith)
