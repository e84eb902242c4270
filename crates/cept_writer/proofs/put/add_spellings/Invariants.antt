use Rattle.std.proofs.Common.{◌≡◌, ◌+◌, ◌*◌, ◌≤◌, ◌++◌, take}
use Rattle.std.specs.List.{flat_map}
use Rattle.arrayvec.specs.ArrayVec.{array_vec_len}
use Rattle.cept_parser.specs.Spelling.{spelling}
use Rattle.cept_writer.proofs.put.add_spellings.Given as goal

abbrev pub invariant-loop-command : goal.invariant-loop-command
invariant-loop-command l = record {
  text : l.text.items ≡ l.fn.text.items ++ flat_map spelling (take l.command-index l.commands);
  len : array_vec_len l.text ≤ array_vec_len l.fn.text + 101 * l.command-index;
}
