use Rattle.std.proofs.Common.{◌≡◌, ◌||◌, not, get_or, sym, ap, ◌∙◌}
use Rattle.cept_codes.specs.Attribute.{unset_pen}
use Rattle.cept_codes.specs.Same.{same_pen}
use Rattle.cept_codes.proofs.Laws.{entry_from}
use Rattle.cept_profile.specs.Edges.{is_last}
use Rattle.cept_profile.specs.Reach.{just_one}
use Rattle.cept_profile.specs.PageParts.{row_pen_in}
use Rattle.cept_redraw.specs.inside.Due.{has_others}
use Rattle.cept_redraw.proofs.altered_rows.has_others.Goals as goal

pub returns : goal.returns
unfolding has_others
returns c =
    let here : get_or c.args.compared.now.was.now.rows c.index.result unset_pen ≡ row_pen_in c.args.compared.now.was.now.rows c.args.from =
    ap (λ n. get_or c.args.compared.now.was.now.rows n unset_pen) c.index.ensures.index
    ∙ sym (entry_from unset_pen 1 c.args.compared.now.was.now.rows c.args.from c.index.ensures.in_range.0) in
    let pen : c.ne-pen.result ≡ not (same_pen (row_pen_in c.args.compared.now.was.now.rows c.args.from)
    (row_pen_in c.args.compared.now.page.now.row_pens c.args.row)) =
    c.ne-pen.ensures ∙ (λ i. not (same_pen (here i) (c.row_pen.ensures.pen i))) in
    let last = c.is_last_under_one-last.ensures ∙ (λ i. just_one (is_last c.args.compared.now.before.now (c.number.ensures.number i))
    (is_last c.args.compared.now.after.now (c.number-2.ensures.number i))) in
    λ i. (pen i || c.requires.screen i) || last i
