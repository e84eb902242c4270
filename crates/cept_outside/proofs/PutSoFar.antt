-- A text that is put piece by piece.
use Rattle.std.proofs.Common.{◌≡◌, ℕ, ◌+◌, ◌-◌, ◌≤◌, List, [], ◌++◌, length, take, drop, Ok, sym, ap, ◌∙◌}
use Rattle.std.proofs.Common.{length-drop, length-take, arith}
use Rattle.std.specs.Io.KnownBytes.{append_known}
use Rattle.std.proofs.lemmas.List.{drop-drop, take_all}
use Rattle.std.proofs.Math.Seq.{take-add}
use Rattle.cept_outside.proofs.PartsOfTexts.{append_known-append_known, count_after-more}
use Rattle.cept_outside.specs.SinkState.{SinkState, Puts, Gains, count_after}

-- what isn't left of the text was put
pub record IsPutSoFar (text rest : List ℕ) (old now : SinkState) : Type 0 where
  pub within : length rest ≤ length text
  pub after : rest ≡ drop (length text - length rest) text
  pub put : Gains old (take (length text - length rest) text) now
  pub faults : now.faults ≡ old.faults
  pub nothing : text ≡ [] → now ≡ old

module _ (text rest next : List ℕ) (n done : ℕ) (within : n ≤ length rest) (after : rest ≡ drop done text)
    (is : next ≡ take (length rest - n) (drop n rest)) where
  all_left : next ≡ drop n rest
  all_left = is ∙ take_all _ (drop n rest) (omega (arith, length-drop n rest))

  left_is : next ≡ drop (done + n) text
  left_is = all_left ∙ ap (drop n) after ∙ drop-drop n done text

  length_is : length next + n ≡ length rest
  length_is = omega (arith, ap length all_left, length-drop n rest)

-- a piece more was put
pub IsPutSoFar-more : {E : Type 0} (text rest next : List ℕ) (n : ℕ) (old mid new : SinkState)
    → next ≡ take (length rest - n) (drop n rest)
    → IsPutSoFar text rest old mid → Puts {E = E} mid rest (Ok n) new → new.faults ≡ mid.faults
    → IsPutSoFar text next old new
IsPutSoFar-more text rest next n old mid new is so_far puts stays =
    let done = length text - length rest in
    let count : length next + n ≡ length rest = length_is text rest next n done puts.within so_far.after is in
    let more : length text - length next ≡ done + n = omega (arith, so_far.within) in
    let front : take done text ++ take n rest ≡ take (length text - length next) text =
    ap (λ l. take done text ++ take n l) so_far.after ∙ sym (take-add done n text)
    ∙ ap (λ m. take m text) (sym more) in
    record {
      within = omega (arith, so_far.within);
      after = left_is text rest next n done puts.within so_far.after is ∙ ap (λ m. drop m text) (sym more);
      put = record {
        bytes = puts.appended ∙ ap (λ b. append_known b (take n rest)) so_far.put.bytes
            ∙ append_known-append_known old.bytes (take done text) (take n rest) ∙ ap (append_known old.bytes) front;
        counted = puts.counted ∙ ap (λ k. count_after k n) so_far.put.counted
            ∙ count_after-more old.count (length (take done text)) n
            ∙ ap (count_after old.count) (omega (
              arith,
              length-take done text,
              length-take (length text - length next) text,
              puts.within,
              so_far.within,
              more,
            ));
        room = puts.room ∙ so_far.put.room;
        flushes = puts.flushes ∙ so_far.put.flushes;
        always = puts.always ∙ so_far.put.always;
        unflushed = λ _. puts.unflushed;
        unflushed_stays = λ e. absurd (omega (
          arith,
          ap length e,
          length-take (length text - length next) text,
          puts.some,
          so_far.within,
        ));
      };
      faults = stays ∙ so_far.faults;
      nothing = λ e. absurd (omega (arith, ap length e, puts.some, puts.within, so_far.within));
    }
