-- States that are unwound in turn, and what becomes of them where the screen goes to the nearest.
use Rattle.std.proofs.Common.{◌≡◌, ℕ, ◌≤◌, ◌+◌, zero, suc, Some, None, List, [], ◌∷◌, take, drop, length}
use Rattle.std.proofs.Common.{refl, sym, ap, subst, ◌∙◌, arith}
use Rattle.std.specs.List.{AllByRecursion}
use Rattle.std.specs.Prelude.{is_some, slice_get}
use Rattle.std.proofs.lemmas.Bool.{true≢false}
use Rattle.std.proofs.lemmas.List.{take_all}
use Rattle.cept_profile.specs.OldValues.{OldValues, unwound}
use Rattle.cept_profile.specs.State.{State}
use Rattle.cept_profile.specs.Valid.{IsValidState}
use Rattle.circular_buffer.specs.Buffer.{Buffer, buffer}
use Rattle.cept_undo.specs.Past.{handed_on, nearest, unwound_in_turn}

pub take_in_turn : (n : ℕ) (now : State) (olds : List OldValues)
    → unwound_in_turn now (take n olds) ≡ take n (unwound_in_turn now olds)
unfolding unwound_in_turn
take_in_turn zero now olds = refl
take_in_turn (suc n) now [] = refl
take_in_turn (suc n) now (old ∷ older) =
    ap (λ (l : List State). unwound now old ∷ l) (take_in_turn n (unwound now old) older)

pub length_in_turn : (now : State) (olds : List OldValues) → length (unwound_in_turn now olds) ≡ length olds
unfolding unwound_in_turn
length_in_turn now [] = refl
length_in_turn now (old ∷ older) = ap suc (length_in_turn (unwound now old) older)

pub first_in_turn : (now : State) (old : OldValues) (older : List OldValues)
    → unwound_in_turn now (old ∷ older) ≡ unwound now old ∷ unwound_in_turn (unwound now old) older
unfolding unwound_in_turn
first_in_turn now old older = refl

pub empty_in_turn : (now : State) (olds : List OldValues) → olds ≡ [] → unwound_in_turn now olds ≡ []
unfolding unwound_in_turn
empty_in_turn now olds none = ap (unwound_in_turn now) none

pub none_in_turn : (now : State) (olds : List OldValues) → unwound_in_turn now olds ≡ [] → olds ≡ []
unfolding unwound_in_turn
none_in_turn now [] none = refl
none_in_turn now (old ∷ older) none = absurd cc

-- ---- the first of a list

pub first_and_rest : (olds : List OldValues) (old : OldValues) → Some old ≡ slice_get olds 0 → olds ≡ old ∷ drop 1 olds
first_and_rest [] old first = absurd (true≢false (ap is_some first))
first_and_rest (x ∷ xs) old first = cc

pub none_first : (olds : List OldValues) → None ≡ slice_get olds 0 → olds ≡ []
none_first [] none = refl
none_first (x ∷ xs) none = absurd (true≢false (sym (ap is_some none)))

pub take_valid : (n : ℕ) (states : List State) → AllByRecursion IsValidState states
    → AllByRecursion IsValidState (take n states)
take_valid zero states valid = tt
take_valid (suc n) [] valid = tt
take_valid (suc n) (s ∷ states) valid = (valid.0, take_valid n states valid.1)

-- ---- to the nearest state

-- the states to which the screen can go, where this is the first delta
states_first : (now : State) (olds : List OldValues) (old : OldValues) → Some old ≡ slice_get olds 0
    → unwound_in_turn now olds ≡ unwound now old ∷ unwound_in_turn (unwound now old) (drop 1 olds)
states_first now olds old first =
    ap (unwound_in_turn now) (first_and_rest olds old first) ∙ first_in_turn now old (drop 1 olds)

pub nearest_valid : (now : State) (olds : List OldValues) (old : OldValues) → Some old ≡ slice_get olds 0
    → AllByRecursion IsValidState (unwound_in_turn now olds) → IsValidState (unwound now old)
nearest_valid now olds old first valid =
    (subst (λ (l : List State). AllByRecursion IsValidState l) (states_first now olds old first) valid).0

pub moved_to : (now after : State) (olds : List OldValues) (old : OldValues) → Some old ≡ slice_get olds 0
    → after ≡ unwound now old → after ≡ nearest (unwound_in_turn now olds) now
moved_to now after olds old first is =
    is ∙ sym (ap (λ (l : List State). nearest l now) (states_first now olds old first))

pub moved_from : (now after : State) (olds : List OldValues) (old : OldValues) (rest : Buffer OldValues) (places : ℕ)
    → Some old ≡ slice_get olds 0 → after ≡ unwound now old → rest ≡ buffer (drop 1 olds) places
    → unwound_in_turn after rest.items ≡ drop 1 (unwound_in_turn now olds)
moved_from now after olds old rest places first is popped =
    ap (λ (b : Buffer OldValues). unwound_in_turn after b.items) popped
    ∙ ap (λ (s : State). unwound_in_turn s (drop 1 olds)) is
    ∙ sym (ap (λ (l : List State). drop 1 l) (states_first now olds old first))

rest_valid : (now after : State) (olds : List OldValues) (old : OldValues) → Some old ≡ slice_get olds 0
    → AllByRecursion IsValidState (unwound_in_turn now olds)
    → AllByRecursion IsValidState (drop 1 (unwound_in_turn now olds))
rest_valid now after olds old first valid =
    subst (λ (l : List State). AllByRecursion IsValidState (drop 1 l)) (sym (states_first now olds old first))
    (subst (λ (l : List State). AllByRecursion IsValidState l) (states_first now olds old first) valid).1

pub moved_from_valid : (now after : State) (olds : List OldValues) (old : OldValues) (rest : Buffer OldValues)
    (places : ℕ) → Some old ≡ slice_get olds 0 → after ≡ unwound now old → rest ≡ buffer (drop 1 olds) places
    → AllByRecursion IsValidState (unwound_in_turn now olds) → AllByRecursion IsValidState (unwound_in_turn after rest.items)
moved_from_valid now after olds old rest places first is popped valid =
    subst (λ (l : List State). AllByRecursion IsValidState l)
    (sym (moved_from now after olds old rest places first is popped)) (rest_valid now after olds old first valid)

pub some_by_first : (xs : List OldValues) (old : OldValues) → Some old ≡ slice_get xs 0 → 1 ≤ length xs
some_by_first [] old first = absurd (true≢false (ap is_some first))
some_by_first (x ∷ xs) old first = omega arith

-- what leads back comes first on the other side
moved_back : (now after : State) (olds others : List OldValues) (old back : OldValues) (more : Buffer OldValues)
    (places : ℕ) → Some old ≡ slice_get olds 0 → length olds + length others ≤ places → unwound after back ≡ now
    → more ≡ buffer (take places (back ∷ others)) places
    → unwound_in_turn after more.items ≡ now ∷ unwound_in_turn now others
moved_back now after olds others old back more places first room leads pushed =
    ap (λ (b : Buffer OldValues). unwound_in_turn after b.items) pushed
    ∙ ap (unwound_in_turn after)
    (take_all places (back ∷ others) (omega (arith, room, some_by_first olds old first)))
    ∙ first_in_turn after back others
    ∙ ap (λ (s : State). s ∷ unwound_in_turn s others) leads

pub moved_on : (now after : State) (olds others : List OldValues) (old back : OldValues) (more : Buffer OldValues)
    (places : ℕ) → Some old ≡ slice_get olds 0 → length olds + length others ≤ places → unwound after back ≡ now
    → more ≡ buffer (take places (back ∷ others)) places
    → unwound_in_turn after more.items ≡ handed_on (unwound_in_turn now olds) now (unwound_in_turn now others)
moved_on now after olds others old back more places first room leads pushed =
    moved_back now after olds others old back more places first room leads pushed
    ∙ sym (ap (λ (l : List State). handed_on l now (unwound_in_turn now others)) (states_first now olds old first))

pub moved_on_valid : (now after : State) (olds others : List OldValues) (old back : OldValues) (more : Buffer OldValues)
    (places : ℕ) → Some old ≡ slice_get olds 0 → length olds + length others ≤ places → unwound after back ≡ now
    → more ≡ buffer (take places (back ∷ others)) places → IsValidState now
    → AllByRecursion IsValidState (unwound_in_turn now others)
    → AllByRecursion IsValidState (unwound_in_turn after more.items)
moved_on_valid now after olds others old back more places first room leads pushed valid rest =
    subst (λ (l : List State). AllByRecursion IsValidState l)
    (sym (moved_back now after olds others old back more places first room leads pushed)) (valid, rest)
