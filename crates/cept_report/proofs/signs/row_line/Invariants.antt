use Rattle.std.proofs.Common.{◌≡◌, ◌*◌, ◌≤◌}
use Rattle.arrayvec.specs.ArrayVec.{array_vec_len}
use Rattle.cept_report.proofs.TextsInPieces.{pieces}
use Rattle.cept_report.proofs.ScreenLines.{sign_at}
use Rattle.cept_report.proofs.signs.row_line.Given as goal

abbrev pub invariant-loop-i : goal.invariant-loop-i
invariant-loop-i g l = record {
  text : l.line.items ≡ pieces (sign_at (g.G.Glass.state l.glass).grid l.row) 1 l.i;
  room : array_vec_len l.line ≤ 3 * l.i;
}
