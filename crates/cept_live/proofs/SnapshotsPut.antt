-- A snapshot put in two parts.
use Rattle.std.proofs.Common.{◌≡◌, ℕ, ◌+◌, Err, List, [], Ok, Result, ◌++◌, length, take, ◌∙◌, refl, subst, arith}
use Rattle.std.proofs.Common.{length-append}
use Rattle.std.proofs.Math.Seq.{take-append-add}
use Rattle.std.proofs.lemmas.List.{take-append-le}
use Rattle.cept_outside.specs.Causes.{Rose}
use Rattle.cept_outside.specs.SinkState.{PutsText, SinkState}
use Rattle.cept_outside.proofs.Laws.{Gains-append}
use Rattle.cept_live.specs.Live.{LiveState}
use Rattle.cept_live.specs.Snapshots.{snapshot_head, snapshot_of}

-- the first of two texts was put in part
pub PutsText-first_failed : {X Y E : Type 0} {e f : E} (s u : SinkState) (first more : List ℕ)
    → PutsText {X = X} {E = E} s first (Err e) u → PutsText {X = Y} {E = E} s (first ++ more) (Err f) u
PutsText-first_failed s u first more failed =
    let n = failed.part.size in
    record {
      whole = tt;
      part = record {
        size = n;
        short = omega (arith, failed.part.short, length-append first more);
        gains = rw (take-append-le n first more (omega (arith, failed.part.short))) failed.part.gains;
      };
      cause = record { later = failed.cause.later; failed = failed.cause.failed; stays = tt };
    }

-- the first of two texts was put whole
pub PutsText-join : {X Y E : Type 0} {y : Y} (r : Result X E) (s t u : SinkState) (first more : List ℕ)
    → PutsText {X = Y} {E = E} s first (Ok y) t → PutsText t more r u → PutsText s (first ++ more) r u
PutsText-join (Ok x) s t u first more a b = record {
  whole = Gains-append s t u first more a.whole b.whole;
  part = tt;
  cause = record { later = omega (arith, a.cause.stays, b.cause.later); failed = tt; stays = b.cause.stays ∙ a.cause.stays };
}
PutsText-join (Err e) s t u first more a b =
    let n = b.part.size in
    record {
      whole = tt;
      part = record {
        size = length first + n;
        short = omega (arith, b.part.short, length-append first more);
        gains = rw (take-append-add first more n) (Gains-append s t u first (take n more) a.whole b.part.gains);
      };
      cause = record {
        later = omega (arith, a.cause.stays, b.cause.later);
        failed = subst (λ n. Rose n u.faults) a.cause.stays b.cause.failed;
        stays = tt;
      };
    }

-- edits aren't told
pub snapshot_of-unedited : (live : LiveState) → snapshot_of (record live { past = []; future = [] }) ≡ snapshot_of live
unfolding snapshot_head
snapshot_of-unedited live = refl
