use Rattle.std.proofs.Common.{◌≡◌, ◌+◌, ◌*◌, ◌≤◌, ◌++◌, ◌∷◌, []}
use Rattle.std.specs.List.{flat_map, range_with_len}
use Rattle.arrayvec.specs.ArrayVec.{array_vec_len}
use Rattle.cept_parser.specs.Spelling.{line_bytes}
use Rattle.cept_writer.proofs.pattern.add_plane.Given as goal

abbrev pub invariant-loop-line : goal.invariant-loop-line
invariant-loop-line l = record {
  text : l.text.items
      ≡ (l.fn.text.items ++ (0x30 + l.plane) ∷ []) ++ flat_map (line_bytes l.pattern l.plane) (range_with_len 0 l.line);
  len : array_vec_len l.text ≤ array_vec_len l.fn.text + 1 + 2 * l.line;
}
