-- The text at the end, put and flushed.
use Rattle.std.proofs.Common.{◌≡◌, inr, false, List, ℕ, Ok, Err, sym, ap, ◌∙◌, subst, arith}
use Rattle.std.proofs.lemmas.Bool.{false_from_ne_true}
use Rattle.cept_outside.specs.Causes.{Rose, HasCause}
use Rattle.cept_outside.specs.SinkState.{SinkState, PutsText, Flushes, one_more}
use Rattle.cept_run.specs.Outside.{PutsWhole, PutsUnflushed}

-- a flush that failed can fail
pub can_fail : {X E : Type 0} {f : E} {mid after : SinkState} → Flushes {X = X} mid (Err f) after
    → mid.always_flushes ≡ false
can_fail flushes = false_from_ne_true _ (λ always. let no = flushes.sure always in cc)

module _ {X E Y F : Type 0} {x : X} (text : List ℕ) (before mid after : SinkState)
    (puts : PutsText {X = X} {E = E} before text (Ok x) mid) where
  -- it was put, and not flushed
  pub put_unflushed : {f : F} → Flushes {X = Y} mid (Err f) after → HasCause {X = Y} mid.faults after.faults (Err f)
      → PutsUnflushed text before after
  put_unflushed flushes cause = record {
    cause = subst (λ n. Rose n after.faults) puts.cause.stays cause.failed;
    later = omega (arith, puts.cause.stays, cause.later);
    put = inr (
      record {
        bytes = flushes.bytes ∙ puts.whole.bytes;
        counted = flushes.count ∙ puts.whole.counted;
        room = flushes.room ∙ puts.whole.room;
        flushes = flushes.failed.1 ∙ puts.whole.flushes;
        always = flushes.always ∙ puts.whole.always;
        unflushed = λ some. flushes.failed.0 ∙ puts.whole.unflushed some;
        unflushed_stays = λ none. flushes.failed.0 ∙ puts.whole.unflushed_stays none;
      },
      sym puts.whole.always ∙ can_fail flushes,
    );
  }

  -- it was put and flushed
  pub put_whole : {y : Y} → Flushes {E = F} mid (Ok y) after → HasCause {E = F} mid.faults after.faults (Ok y)
      → PutsWhole text before after
  put_whole flushes cause = record {
    put = flushes.bytes ∙ puts.whole.bytes;
    counted = flushes.count ∙ puts.whole.counted;
    room = flushes.room ∙ puts.whole.room;
    flushed = flushes.flushed.0;
    flushes = flushes.flushed.1 ∙ ap one_more puts.whole.flushes;
    stays = cause.stays ∙ puts.cause.stays;
  }
