use Rattle.std.proofs.Common.{arith}
use Rattle.cept_redraw.proofs.compared_rows.mark_differences.Goals as goal

pub mark_differences_between-found-requires-clause-left : goal.mark_differences_between-found-requires-clause-left
mark_differences_between-found-requires-clause-left c = λ column low below. absurd (omega (arith, low, below))

pub mark_differences_between-found-requires-clause-right : goal.mark_differences_between-found-requires-clause-right
mark_differences_between-found-requires-clause-right c = λ column past high. absurd (omega (arith, past, high))
