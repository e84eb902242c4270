use Rattle.std.proofs.Common.{◌+◌, ◌==◌, refl, ap, ◌∙◌, arith}
use Rattle.cept_profile.specs.OldValues.{with_row_pens}
use Rattle.cept_profile.specs.PageParts.{row_pen_in}
use Rattle.cept_delta.proofs.NotedInTurn.{row_pens_all, row_pens_more, row_pens_none}
use Rattle.cept_delta.proofs.delta.Delta.note_row_pens.Goals as goal

pub loop-number-init : goal.loop-number-init
loop-number-init c = (
  row_pens_none c.args.self.now (row_pen_in c.args.pens.now) c.args.first c.args.first c.places_by_type.ensures.row_pens
      refl,
  omega arith,
)

pub loop-number-preserved : goal.loop-number-preserved
loop-number-preserved c = (
  row_pens_more c.args.self.now c.loop-number.self c.note_row_pen.new.self (row_pen_in c.args.pens.now) c.args.first
      c.loop-number.number (c.loop-number.number + 1) c.loop-number.invariant.0
      (c.note_row_pen.ensures ∙ ap (λ k. with_row_pens (λ r. k == r) (row_pen_in c.args.pens.now) c.loop-number.self)
      c.numbered.ensures) c.loop-number.invariant.1 refl,
  omega (arith, c.loop-number.invariant.1),
)

pub returns : goal.returns
returns c =
    row_pens_all c.args.self.now c.loop-number.self (row_pen_in c.args.pens.now) c.args.first c.args.last c.loop-number.number
    c.loop-number.invariant.0 (omega (arith, c.loop-number.invariant.1, c.requires.area))
