use Rattle.std.proofs.Common.{◌≤◌, ℕ, List, take}
use Rattle.arrayvec.specs.ArrayVec.{array_vec_len}
use Rattle.cept_seven.specs.Eight.{Leads}
use Rattle.cept_run.proofs.ConvertedPieces.{FromSevenCome}
use Rattle.cept_run.proofs.converting.from_seven.Given as goal

-- the bytes so far were converted back
abbrev pub invariant-loop-byte : goal.invariant-loop-byte
invariant-loop-byte l = record {
  room : array_vec_len l.text ≤ l.byte-index;
  come : (b : List ℕ) → Leads b l.fn.form → FromSevenCome b (take l.byte-index l.piece) l.text.items l.form;
}
