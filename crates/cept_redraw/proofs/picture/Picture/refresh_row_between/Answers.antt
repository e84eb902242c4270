use Rattle.std.proofs.Common.{◌≡◌, ◌-◌, List, ap, refl, subst, sym, ◌∙◌, arith}
use Rattle.cept_codes.specs.declared.look.Look.{Look}
use Rattle.cept_codes.specs.Look.{blank_look}
use Rattle.cept_codes.specs.Place.{OnScreen}
use Rattle.cept_profile.specs.RowsFromAbove.{looks_in}
use Rattle.cept_profile.specs.Tiling.{column_entry}
use Rattle.cept_rows.specs.RowsByCell.{FollowsToTheRight}
use Rattle.cept_rows.specs.Source.{Source, row_made}
use Rattle.cept_redraw.specs.inside.Kept.{row_beneath, IsLeftOf, IsRefreshedRow, IsRightOf}
use Rattle.cept_redraw.proofs.RowsOfLooks.{look_seen-at}
use Rattle.cept_redraw.proofs.picture.Picture.refresh_row_between.Goals as goal

pub resolve_between-end-requires-clause-left : goal.resolve_between-end-requires-clause-left
resolve_between-end-requires-clause-left g c =
    let copied = c.copy_from.ensures ∙ c.row.ensures in
    let source = c.ending-source.ensures ∙ ap (λ (s : Source). record s { last = c.args.last }) c.row_source.ensures in
    let made : row_made c.ending-source.result c.above.result.now
    ≡ row_beneath (looks_in c.args.self.now.looks (c.args.row - 1)) c.args.self.now.page c.args.row c.args.last =
    (λ i. row_made (source i) (c.above.ensures i)) in
    subst (λ (l : List Look). IsLeftOf c.args.from l (row_made c.ending-source.result c.above.result.now)) (sym copied)
    (subst (λ (l : List Look). IsLeftOf c.args.from (looks_in c.args.self.now.looks c.args.row) l) (sym made) c.requires.left)

pub resolve_between-end-requires-clause-right : goal.resolve_between-end-requires-clause-right
resolve_between-end-requires-clause-right g c =
    let copied = c.copy_from.ensures ∙ c.row.ensures in
    let source = c.ending-source.ensures ∙ ap (λ (s : Source). record s { last = c.args.last }) c.row_source.ensures in
    let made : row_made c.ending-source.result c.above.result.now
    ≡ row_beneath (looks_in c.args.self.now.looks (c.args.row - 1)) c.args.self.now.page c.args.row c.args.last =
    (λ i. row_made (source i) (c.above.ensures i)) in
    subst (λ (l : List Look). FollowsToTheRight c.args.until (column_entry blank_look l)
    (column_entry blank_look (row_made c.ending-source.result c.above.result.now)))
    (sym copied)
    (subst (λ (l : List Look). FollowsToTheRight c.args.until (column_entry blank_look (looks_in c.args.self.now.looks c.args.row))
    (column_entry blank_look l)) (sym made) c.requires.right)

pub take_row-covering-requires-clause-left : goal.take_row-covering-requires-clause-left
take_row-covering-requires-clause-left g c =
    let source = c.ending-source.ensures ∙ ap (λ (s : Source). record s { last = c.args.last }) c.row_source.ensures in
    let made : row_made c.ending-source.result c.above.result.now
    ≡ row_beneath (looks_in c.args.self.now.looks (c.args.row - 1)) c.args.self.now.page c.args.row c.args.last =
    (λ i. row_made (source i) (c.above.ensures i)) in
    subst (λ (l : List Look). IsLeftOf c.args.from (looks_in c.args.self.now.looks c.args.row) l)
    (sym (c.resolve_between-end.ensures.looks ∙ made)) c.requires.left

pub take_row-covering-requires-clause-right : goal.take_row-covering-requires-clause-right
take_row-covering-requires-clause-right g c =
    subst (λ (l : List Look). IsRightOf c.resolve_between-end.result l c.resolve_between-end.new.looks)
    (c.copy_from.ensures ∙ c.row.ensures) c.resolve_between-end.ensures.stays

pub returns-clause-row : goal.returns-clause-row
returns-clause-row g c = record {
  rest = record { page = refl; names = refl };
  covering = c.take_row-covering.ensures.covering;
  tick = c.resolve_between-end.ensures.tick;
  refreshed =
      let source = c.ending-source.ensures ∙ ap (λ (s : Source). record s { last = c.args.last })
      c.row_source.ensures in
      let made : row_made c.ending-source.result c.above.result.now
      ≡ row_beneath (looks_in c.args.self.now.looks (c.args.row - 1)) c.args.self.now.page c.args.row c.args.last =
      (λ i. row_made (source i) (c.above.ensures i)) in
      subst (λ (l : List Look). IsRefreshedRow l c.args.row c.args.self.now.looks c.take_row-covering.new.kept c.args.marks.now
      c.take_row-covering.new.marks) (c.resolve_between-end.ensures.looks
      ∙ made) c.take_row-covering.ensures.refreshed;
}

pub returns-clause-stays : goal.returns-clause-stays
returns-clause-stays g c = λ column past right.
    let refreshed = c.take_row-covering.ensures.refreshed in
    let on : OnScreen c.args.row column = record {
      from_top = c.number-number.ensures.in_range.0;
      to_bottom = c.number-number.ensures.in_range.1;
      from_left = omega (arith, past);
      to_right = right;
    } in
    ap (λ (l : List Look). column_entry blank_look l column) (sym (c.copy_from.ensures ∙ c.row.ensures))
    ∙ c.resolve_between-end.ensures.stays column past right
    ∙ sym (look_seen-at c.take_row-covering.new.kept c.args.row column refreshed.is on
    ∙ refreshed.shown c.args.row column on (omega arith) (omega (arith, on)))
