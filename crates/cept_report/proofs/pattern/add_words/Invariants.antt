use Rattle.std.proofs.Common.{◌≡◌, ◌+◌, ◌*◌, ◌++◌, take}
use Rattle.std.specs.List.{flat_map}
use Rattle.arrayvec.specs.ArrayVec.{array_vec_len}
use Rattle.cept_report.specs.Text.{hex_word}
use Rattle.cept_report.proofs.pattern.add_words.Given as goal

abbrev pub invariant-loop-word : goal.invariant-loop-word
invariant-loop-word l = record {
  text : l.line.items ≡ l.fn.line.items ++ flat_map hex_word (take l.word-index l.words);
  len : array_vec_len l.line ≡ array_vec_len l.fn.line + 16 * l.word-index;
}
