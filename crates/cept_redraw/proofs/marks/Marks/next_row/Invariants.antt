use Rattle.std.proofs.Common.{◌≡◌, ℕ, ◌*◌, ◌≤◌, ◌<◌, false}
use Rattle.cept_codes.specs.Place.{number}
use Rattle.cept_redraw.specs.Marks.{is_marked}
use Rattle.cept_redraw.proofs.marks.Marks.next_row.Given as goal

abbrev pub invariant-loop-k : goal.invariant-loop-k
invariant-loop-k l = (n : ℕ) → number l.from 1 ≤ n → n < 40 * l.k → is_marked l.self n ≡ false
