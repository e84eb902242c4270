use Rattle.cept_drcs.proofs.Laws
use Rattle.cept_drcs.proofs.law.bits.numbers_in_words.Goals as goal

pub returns : goal.returns
returns c = record {
  bits = Laws.bit_of-words;
  clear = Laws.clear_behind;
}
