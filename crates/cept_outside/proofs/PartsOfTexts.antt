-- For callers: bytes that are taken from a known list part by part, and texts that are put one after the other.
use Rattle.std.proofs.Common.{◌≡◌, ℕ, ◌+◌, ◌<◌, true, List, [], ◌∷◌, ◌++◌, length, length-append, take, drop, Option}
use Rattle.std.proofs.Common.{Some, None, refl, sym, ap, ◌∙◌, append_assoc, append-nil, arith}
use Rattle.std.specs.Io.KnownBytes.{append_known, prepend_known}
use Rattle.std.proofs.Math.Seq.{take-append_seam, drop-append_seam}
use Rattle.std.proofs.lemmas.List.{drop-drop, take-append-drop}
use Rattle.std.proofs.lemmas.Option.{same_Some, none-some}
use Rattle.cept_outside.specs.SinkState.{SinkState, Gains, HasPut, GainsPart, count_after}

-- what is left after what a take moved, and what it moved
pub left_after : (whole front : List ℕ) (place n : ℕ) (old new : Option (List ℕ)) → length front ≡ n
    → old ≡ prepend_known front new → old ≡ Some (drop place whole)
    → (new ≡ Some (drop (place + n) whole)) × (front ≡ take n (drop place whole))
left_after whole front place n old None count moved is = absurd (none-some (drop place whole) (sym moved ∙ is))
left_after whole front place n old (Some rest) count moved is =
    let joined : front ++ rest ≡ drop place whole = same_Some (front ++ rest) (drop place whole) (sym moved ∙ is) in (
      ap Some (sym (drop-append_seam front rest) ∙ ap (λ m. drop m (front ++ rest)) count ∙ ap (drop n) joined
          ∙ drop-drop n place whole),
      sym (take-append_seam front rest) ∙ ap (λ m. take m (front ++ rest)) count ∙ ap (take n) joined,
    )

-- where nothing is left, the whole was taken
pub all_taken : (whole : List ℕ) (place : ℕ) → drop place whole ≡ [] → take place whole ≡ whole
all_taken whole place none =
    sym (append-nil (take place whole)) ∙ ap (λ l. take place whole ++ l) (sym none) ∙ take-append-drop place whole

-- one text after the other, where the bytes before are told
pub append_known-append_known : (known : Option (List ℕ)) (a b : List ℕ)
    → append_known (append_known known a) b ≡ append_known known (a ++ b)
append_known-append_known None a b = refl
append_known-append_known (Some xs) a b = ap Some (append_assoc xs a b)

pub append_known-nil : (known : Option (List ℕ)) → known ≡ append_known known []
append_known-nil None = refl
append_known-nil (Some xs) = ap Some (sym (append-nil xs))

-- counts go on in parts, and stay where nothing is put
pub count_after-nil : (count : Option ℕ) → count ≡ count_after count 0
count_after-nil None = refl
count_after-nil (Some n) = ap Some (omega arith)

pub count_after-more : (count : Option ℕ) (a b : ℕ) → count_after (count_after count a) b ≡ count_after count (a + b)
count_after-more None a b = refl
count_after-more (Some n) a b = ap Some (omega arith)

-- a sink gains nothing without a call
pub Gains-nil : (s : SinkState) → Gains s [] s
Gains-nil s = record {
  bytes = append_known-nil s.bytes;
  counted = count_after-nil s.count;
  room = refl;
  flushes = refl;
  always = refl;
  unflushed = λ h. absurd (omega (arith, h));
  unflushed_stays = λ _. refl;
}

nil_from_length : (xs : List ℕ) → length xs ≡ 0 → xs ≡ []
nil_from_length [] h = refl
nil_from_length (x ∷ xs) h = absurd (omega (arith, h))

unflushed_after : (a b c : SinkState) (xs ys : List ℕ) → Gains a xs b → Gains b ys c → 0 < length (xs ++ ys)
    → c.unflushed ≡ true
unflushed_after a b c xs [] first second some =
    second.unflushed_stays refl ∙ first.unflushed (omega (arith, some, ap length (append-nil xs)))
unflushed_after a b c xs (y ∷ ys) first second some = second.unflushed (omega arith)

-- one text after the other
pub Gains-append : (a b c : SinkState) (xs ys : List ℕ) → Gains a xs b → Gains b ys c → Gains a (xs ++ ys) c
Gains-append a b c xs ys first second = record {
  bytes = second.bytes ∙ ap (λ k. append_known k ys) first.bytes ∙ append_known-append_known a.bytes xs ys;
  counted = second.counted ∙ ap (λ n. count_after n (length ys)) first.counted
      ∙ count_after-more a.count (length xs) (length ys) ∙ ap (count_after a.count) (sym (length-append xs ys));
  room = second.room ∙ first.room;
  flushes = second.flushes ∙ first.flushes;
  always = second.always ∙ first.always;
  unflushed = λ some. unflushed_after a b c xs ys first second some;
  unflushed_stays = λ none.
      let counts : length xs + length ys ≡ 0 = sym (length-append xs ys) ∙ ap length none in
      second.unflushed_stays (nil_from_length ys (omega (arith, counts)))
      ∙ first.unflushed_stays (nil_from_length xs (omega (arith, counts)));
}

-- some bytes put, whichever, and then some more
pub HasPut-nothing : (s : SinkState) → HasPut s s
HasPut-nothing s = record { part = []; gains = Gains-nil s }

pub HasPut-more : (a b c : SinkState) → HasPut a b → HasPut b c → HasPut a c
HasPut-more a b c first second = record {
  part = first.part ++ second.part;
  gains = Gains-append a b c first.part second.part first.gains second.gains;
}

-- a part of a text put is some bytes put
pub HasPut-part : (a b : SinkState) (text : List ℕ) → GainsPart a text b → HasPut a b
HasPut-part a b text part = record { part = take part.size text; gains = part.gains }
