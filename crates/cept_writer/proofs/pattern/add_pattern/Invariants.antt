use Rattle.std.proofs.Common.{◌≡◌, ◌+◌, ◌*◌, ◌≤◌, ◌++◌}
use Rattle.std.specs.List.{flat_map, range_with_len}
use Rattle.arrayvec.specs.ArrayVec.{array_vec_len}
use Rattle.cept_parser.specs.Spelling.{plane_bytes}
use Rattle.cept_writer.proofs.pattern.add_pattern.Given as goal

abbrev pub invariant-loop-plane : goal.invariant-loop-plane
invariant-loop-plane l = record {
  text : l.text.items ≡ l.fn.text.items ++ flat_map (plane_bytes l.pattern) (range_with_len 0 l.plane);
  len : array_vec_len l.text ≤ array_vec_len l.fn.text + 25 * l.plane;
}
