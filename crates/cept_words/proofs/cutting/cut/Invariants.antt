-- none of the bytes so far is the mark
use Rattle.std.proofs.Common.{◌≡◌, ◌==◌, ◌<◌, ℕ, false, slice_index}
use Rattle.cept_words.proofs.cutting.cut.Given as goal

abbrev pub invariant-loop-index : goal.invariant-loop-index
invariant-loop-index l = (k : ℕ) → k < l.index → (slice_index l.bytes k == l.mark) ≡ false
