use Rattle.std.proofs.Common.{List, ap, subst, ◌∙◌, sym}
use Rattle.cept_codes.specs.declared.look.Look.{Look}
use Rattle.cept_profile.specs.RowsFromAbove.{looks_in}
use Rattle.cept_redraw.specs.inside.Kept.{HasMarkedRow, is_other_above, IsLeftOf, IsRightOf}
use Rattle.cept_redraw.proofs.Refreshed.{IsRefreshedRow-made}
use Rattle.cept_redraw.proofs.RowsOfLooks.{looks_in-set}
use Rattle.cept_redraw.proofs.refreshed_rows.take_row.Goals as goal

pub mark_differences_between-found-requires-clause-left : goal.mark_differences_between-found-requires-clause-left
mark_differences_between-found-requires-clause-left c =
    subst (λ (l : List Look). IsLeftOf c.args.from l c.args.looks.now) (sym c.row.ensures) c.requires.left

pub mark_differences_between-found-requires-clause-right : goal.mark_differences_between-found-requires-clause-right
mark_differences_between-found-requires-clause-right c =
    subst (λ (l : List Look). IsRightOf c.args.until l c.args.looks.now) (sym c.row.ensures) c.requires.right

pub keep_row-requires : goal.keep_row-requires
keep_row-requires c none = sym c.row.ensures ∙ c.mark_differences_between-found.ensures.same none

pub returns-clause-refreshed : goal.returns-clause-refreshed
returns-clause-refreshed c =
    let marks = c.mark_differences_between-found.new.marks in
    let marked = subst (λ (l : List Look). HasMarkedRow l c.args.looks.now c.args.row 41 c.args.marks.now marks)
    c.row.ensures c.mark_differences_between-found.ensures.marked in
    IsRefreshedRow-made c.args.kept.now c.keep_row.new.kept c.args.marks.now marks c.args.row c.args.looks.now
    c.whole_by_type.ensures c.columns_by_type.ensures.columns c.number-number.ensures.in_range.0
    c.number-number.ensures.in_range.1 c.keep_row.ensures marked

pub returns-clause-covering : goal.returns-clause-covering
returns-clause-covering c =
    let row = ap (λ (t : List (List Look)). looks_in t c.args.row) c.keep_row.ensures
    ∙ looks_in-set c.args.kept.now c.args.row c.args.looks.now c.whole_by_type.ensures c.number-number.ensures.in_range.0
    c.number-number.ensures.in_range.1 in
    c.mark_differences_between-found.ensures.covering ∙ ap (λ (l : List Look). is_other_above l c.args.looks.now)
    c.row.ensures
    ∙ ap (is_other_above (looks_in c.args.kept.now c.args.row)) (sym row)
