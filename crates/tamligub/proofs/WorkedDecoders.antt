-- Worked cases: what calls answer where no decoder is open, its page has ended, or a snapshot comes back.
use Rattle.std.proofs.Common.{◌≡◌, ℕ, true, false, arith, inl, inr}
use Rattle.cept_live.specs.Live.{LiveState}
use Rattle.tamligub.specs.Decoders.{CountsOf, HasNoSnapshot, IsRestored}
use Rattle.tamligub.specs.declared.handle.Decoder.{Decoder}

closed_has_no_edits : (old new : Decoder) (answer : ℕ) → old.is_open ≡ false
    → CountsOf (λ (live : LiveState). live.past) old new answer → answer ≡ 0
closed_has_no_edits old new answer closed counted = counted.closed closed

ended_has_no_snapshot : (decoder : Decoder) → decoder.block.value.parser.finished ≡ true → HasNoSnapshot decoder
ended_has_no_snapshot decoder finished = inr finished

-- 1 isn't answered to a snapshot
snapshot_is_one : (live : LiveState) (decoder : Decoder) → IsRestored live decoder 1 → ⊥
snapshot_is_one live decoder (inl no_memory) = omega (arith, no_memory)
snapshot_is_one live decoder (inr found) = omega (arith, found.0)
