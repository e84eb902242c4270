use Rattle.std.proofs.Common.{◌+◌, sym, subst, arith}
use Rattle.cept_profile.specs.PageParts.{row_pen_in}
use Rattle.cept_profile.specs.Serial.{is_marker}
use Rattle.cept_page.specs.inside.FlagsAnew.{AreFlagsMade, IsSingle, IsSingleRowAnew, IsUnmarkedRow, RowHasNone}
use Rattle.cept_page.specs.inside.FlagsAnew.{row_in_table}
use Rattle.cept_page.proofs.FlagsAnew.{AreFlagsMade-more, AreFlagsMade-none, IsKeptPage-noted}
use Rattle.cept_page.proofs.flags_anew.flag_unwound.Goals as goal

pub loop-number-init : goal.loop-number-init
loop-number-init c = (
  AreFlagsMade-none (λ r. IsUnmarkedRow c.args.grid.now c.args.delta.now c.args.marked.now r) c.args.marked.now
      c.requires.marked_rows,
  AreFlagsMade-none (λ r. IsSingleRowAnew c.args.grid.now c.args.row_pens.now c.args.delta.now c.args.sized.now r)
      c.args.sized.now c.requires.sized_rows,
)

pub loop-number-preserved : goal.loop-number-preserved
loop-number-preserved c =
    let k = c.numbered.result in
    let same = sym c.numbered.ensures in (
      AreFlagsMade-more (λ r. RowHasNone is_marker (row_in_table c.args.grid.now r)) c.args.delta.now c.args.marked.now
          c.loop-number.marked c.flag_row_unwound.new.marked k (c.loop-number.number + 1)
          (subst (λ n. AreFlagsMade (λ r. IsUnmarkedRow c.args.grid.now c.args.delta.now c.args.marked.now r) n
          c.args.marked.now c.loop-number.marked) same c.loop-number.invariant.0)
          c.flag_row_unwound.ensures.marked (omega arith) (omega arith) (omega arith),
      AreFlagsMade-more (λ r. IsSingle (row_in_table c.args.grid.now r) (row_pen_in c.args.row_pens.now r))
          c.args.delta.now c.args.sized.now c.loop-number.sized c.flag_row_unwound.new.sized k (c.loop-number.number + 1)
          (subst (λ n. AreFlagsMade (λ r. IsSingleRowAnew c.args.grid.now c.args.row_pens.now c.args.delta.now
          c.args.sized.now r) n c.args.sized.now c.loop-number.sized) same c.loop-number.invariant.1)
          c.flag_row_unwound.ensures.sized (omega arith) (omega arith) (omega arith),
    )

pub returns : goal.returns
returns c = λ p q old same kept is cells pens.
    IsKeptPage-noted p q old c.args.delta.now c.args.marked.now c.args.sized.now c.loop-number.marked c.loop-number.sized
    c.args.grid.now c.args.row_pens.now c.loop-number.number same kept is cells pens (omega arith) c.loop-number.invariant.0
    c.loop-number.invariant.1
