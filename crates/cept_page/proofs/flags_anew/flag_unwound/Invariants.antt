use Rattle.cept_page.specs.inside.FlagsAnew.{AreFlagsMade, IsSingleRowAnew, IsUnmarkedRow}
use Rattle.cept_page.proofs.flags_anew.flag_unwound.Given as goal

abbrev pub invariant-loop-number : goal.invariant-loop-number
invariant-loop-number l =
    AreFlagsMade (λ r. IsUnmarkedRow l.grid l.delta l.fn.marked r) l.number l.fn.marked l.marked
    × AreFlagsMade (λ r. IsSingleRowAnew l.grid l.row_pens l.delta l.fn.sized r) l.number l.fn.sized l.sized
