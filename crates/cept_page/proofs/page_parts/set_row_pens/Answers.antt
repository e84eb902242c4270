use Rattle.std.proofs.Common.{◌≡◌, ◌-◌, get_or, sym, ap, subst, ◌∙◌, arith}
use Rattle.std.proofs.lemmas.List.{get_or_default}
use Rattle.cept_codes.specs.declared.attribute.Pen.{Pen}
use Rattle.cept_codes.specs.declared.stroke.Stroke.{Stroke}
use Rattle.cept_codes.specs.Attribute.{unset_pen}
use Rattle.cept_codes.specs.Stroke.{IsValidStroke}
use Rattle.cept_profile.specs.PageParts.{row_pens_after}
use Rattle.cept_profile.specs.Pens.{pen_with}
use Rattle.cept_page.proofs.PageParts.{row_pen_written, row_pens_carried, row_pens_unset}
use Rattle.cept_page.proofs.page_parts.set_row_pens.Goals as goal
use Rattle.cept_codes.proofs.Laws.{entry_from}

pub returns-in-RowAttr : goal.returns-in-RowAttr
returns-in-RowAttr c =
    let row = c.in-RowAttr.row in
    let valid = subst (λ (s : Stroke). IsValidStroke s) c.in-RowAttr.is c.requires in
    let index : c.from-index.result - 1 ≡ row - 1 = omega arith in
    row_pen_written c.args.pens.now row (c.from-index.result - 1) c.in-RowAttr.attr c.pen_with.result c.told-pens
    valid.0.0 valid.0.1 (omega (arith, valid.0.0))
    (c.pen_with.ensures
    ∙ ap (λ (p : Pen). pen_with c.in-RowAttr.attr p)
    (get_or_default c.args.pens.now (c.from-index.result - 1) _ unset_pen (omega (arith, valid.0.1, valid.0.0))
    ∙ ap (λ n. get_or c.args.pens.now n unset_pen) index
    ∙ sym (entry_from unset_pen 1 c.args.pens.now row valid.0.0)))
    ∙ ap (λ (s : Stroke). row_pens_after c.args.pens.now s) (sym c.in-RowAttr.is)

pub returns-in-Carry : goal.returns-in-Carry
returns-in-Carry c =
    c.shifted_rows.ensures
    ∙ row_pens_carried c.args.pens.now c.in-Carry.first c.in-Carry.last c.in-Carry.way
    ∙ ap (λ (s : Stroke). row_pens_after c.args.pens.now s) (sym c.in-Carry.is)

pub returns-in-Wipe : goal.returns-in-Wipe
returns-in-Wipe c =
    row_pens_unset ∙ ap (λ (s : Stroke). row_pens_after c.args.pens.now s) (sym c.in-Wipe.is)
