use Rattle.std.proofs.Common.{◌≡◌, ◌+◌, ◌*◌, ◌++◌, take}
use Rattle.std.specs.List.{flat_map}
use Rattle.arrayvec.specs.ArrayVec.{array_vec_len}
use Rattle.cept_report.specs.Text.{paint_text}
use Rattle.cept_report.proofs.paint.add_paints.Given as goal

abbrev pub invariant-loop-paint : goal.invariant-loop-paint
invariant-loop-paint l = record {
  text : l.line.items ≡ l.fn.line.items ++ flat_map paint_text (take l.paint-index l.paints);
  len : array_vec_len l.line ≡ array_vec_len l.fn.line + 3 * l.paint-index;
}
