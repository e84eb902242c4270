use Rattle.std.proofs.Common.{◌≡◌, ◌≤◌, ◌*◌, ℕ, List, take}
use Rattle.arrayvec.specs.ArrayVec.{array_vec_len}
use Rattle.cept_seven.specs.Seven.{ends_right}
use Rattle.cept_run.proofs.ConvertedPieces.{ToSevenCome}
use Rattle.cept_run.proofs.converting.to_seven.Given as goal

-- the bytes so far were converted
abbrev pub invariant-loop-byte : goal.invariant-loop-byte
invariant-loop-byte l = record {
  room : array_vec_len l.text ≤ 3 * l.byte-index;
  come : (b : List ℕ) → l.fn.form ≡ ends_right b → ToSevenCome b (take l.byte-index l.piece) l.text.items l.form;
}
