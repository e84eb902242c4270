use Rattle.std.proofs.Common.{◌≡◌, ◌+◌, ◌*◌, ◌++◌, take}
use Rattle.std.specs.List.{flat_map}
use Rattle.arrayvec.specs.ArrayVec.{array_vec_len}
use Rattle.cept_report.specs.Text.{hex_byte}
use Rattle.cept_report.proofs.line.add_hex_word.Given as goal

abbrev pub invariant-loop-byte : goal.invariant-loop-byte
invariant-loop-byte l = record {
  text : l.line.items ≡ l.fn.line.items ++ flat_map hex_byte (take l.byte-index l.byte-items);
  len : array_vec_len l.line ≡ array_vec_len l.fn.line + 2 * l.byte-index;
}
