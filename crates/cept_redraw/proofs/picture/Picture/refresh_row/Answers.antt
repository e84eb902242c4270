use Rattle.std.proofs.Common.{refl, List, ap, subst, ◌∙◌, arith}
use Rattle.cept_codes.specs.declared.look.Look.{Look}
use Rattle.cept_redraw.specs.inside.Kept.{row_beneath, IsRefreshedRow}
use Rattle.cept_redraw.proofs.picture.Picture.refresh_row.Goals as goal

pub take_row-requires-clause-left : goal.take_row-requires-clause-left
take_row-requires-clause-left g c = λ column low below. absurd (omega (arith, low, below))

pub take_row-requires-clause-right : goal.take_row-requires-clause-right
take_row-requires-clause-right g c = λ column past high. absurd (omega (arith, past, high))

pub returns : goal.returns
returns g c = record {
  rest = record { page = refl; names = refl };
  refreshed =
      subst (λ (l : List Look). IsRefreshedRow l c.args.row c.args.self.now.looks c.take_row.new.kept c.args.marks.now
      c.take_row.new.marks) (c.resolve_row.ensures.looks
      ∙ ap (λ (l : List Look). row_beneath l c.args.self.now.page c.args.row c.args.last) c.above.ensures)
      c.take_row.ensures.refreshed;
  covering = c.take_row.ensures.covering;
  tick = c.resolve_row.ensures.tick;
}
