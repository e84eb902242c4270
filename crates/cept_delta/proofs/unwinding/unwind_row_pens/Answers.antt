use Rattle.std.proofs.Common.{◌≡◌, ◌+◌, nat_lt, length, refl, ap, ◌∙◌, arith}
use Rattle.std.proofs.lemmas.Bool.Decides.{nat_tests}
use Rattle.cept_codes.specs.Attribute.{unset_pen}
use Rattle.cept_codes.proofs.Laws.{length-list_by_index, set-entry}
use Rattle.cept_profile.specs.OldValues.{old_row_pen}
use Rattle.cept_profile.specs.PageParts.{row_pen_in}
use Rattle.cept_delta.proofs.NotedInTurn.{pen_read}
use Rattle.cept_delta.proofs.PutBack.{entries_back-all, entries_back-empty, entries_back-more, entries_back-none}
use Rattle.cept_delta.proofs.PutBack.{value_put}
use Rattle.cept_delta.proofs.unwinding.unwind_row_pens.Goals as goal

pub returns-then-not-has_row_pens : goal.returns-then-not-has_row_pens
returns-then-not-has_row_pens c =
    entries_back-empty unset_pen 1 24 c.args.delta.now.row_pens c.args.pens.now c.requires
    (c.has_row_pens.ensures c.if-not-has_row_pens.true)

pub loop-number-init : goal.loop-number-init
loop-number-init c =
    entries_back-none unset_pen 1 24 (λ j. nat_lt j 1) (old_row_pen c.args.delta.now) c.args.pens.now c.requires
    (λ k low. grind (arith, nat_tests))

pub loop-number-preserved : goal.loop-number-preserved
loop-number-preserved c =
    let long : length c.loop-number.pens ≡ 24 = ap length c.loop-number.invariant ∙ length-list_by_index 1 24 _ in
    entries_back-more unset_pen 1 24 c.loop-number.number (c.loop-number.number + 1) (old_row_pen c.args.delta.now)
    c.unwrap_or.result c.args.pens.now c.loop-number.pens _ c.loop-number.invariant
    (set-entry unset_pen c.unwrap_or.result 1 24 c.index-index.result c.loop-number.number c.loop-number.pens long
    (omega arith) (omega arith)) refl (omega arith) (omega arith)
    (value_put c.unwrap_or.result _ (row_pen_in c.loop-number.pens c.loop-number.number) c.old_row_pen.result
    (old_row_pen c.args.delta.now c.loop-number.number) c.unwrap_or.ensures
    (c.old_row_pen.ensures ∙ ap (old_row_pen c.args.delta.now) c.numbered-row.ensures)
    (pen_read c.loop-number.pens c.index-index.result c.loop-number.number _ long (omega arith) (omega arith) (omega arith)))

pub returns : goal.returns
returns c =
    entries_back-all unset_pen 1 24 c.loop-number.number (old_row_pen c.args.delta.now) c.args.pens.now c.loop-number.pens
    c.loop-number.invariant (omega arith)
