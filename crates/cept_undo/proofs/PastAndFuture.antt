-- Edits that are begun, noted in, kept, undone and redone: the past, the future, the state at the begin, and that all of them
-- stay valid.
use Rattle.std.proofs.Common.{◌≡◌, ℕ, Option, Some, None, List, [], ◌∷◌, take, length}
use Rattle.std.proofs.Common.{refl, sym, ap, subst, ◌∙◌}
use Rattle.std.specs.List.{AllByRecursion}
use Rattle.std.specs.Option.{option_map, unwrap_or}
use Rattle.std.specs.Prelude.{IsNone, IfSome, is_some}
use Rattle.std.proofs.lemmas.Bool.{true≢false}
use Rattle.cept_profile.specs.OldValues.{OldValues, unwound}
use Rattle.cept_profile.specs.State.{State}
use Rattle.cept_profile.specs.Valid.{IsValidState}
use Rattle.cept_undo.specs.Past.{Edits, FitsTogether, StaysBegun, at_begin, future, past, unwound_in_turn}
use Rattle.cept_undo.proofs.InTurn.{empty_in_turn, first_in_turn, length_in_turn, take_in_turn, take_valid}

-- ---- the past by the edits

none_of : (begun : Option OldValues) → IsNone begun → begun ≡ None
none_of None none = refl
none_of (Some old) none = absurd (true≢false none)

-- while an edit is begun
pub at_begin-of : (edits : Edits) (screen : State) (old : OldValues) → edits.begun ≡ Some old
    → at_begin edits screen ≡ Some (unwound screen old)
unfolding at_begin
at_begin-of edits screen old begun = ap (option_map (unwound screen)) begun

past-of : (edits : Edits) (screen : State) (old : OldValues) → edits.begun ≡ Some old
    → past edits screen ≡ unwound_in_turn (unwound screen old) edits.kept
unfolding past at_begin
past-of edits screen old begun =
    ap (λ (o : Option OldValues). unwound_in_turn (unwrap_or (option_map (unwound screen) o) screen) edits.kept) begun

-- while none is
at_begin-none : (edits : Edits) (screen : State) → IsNone edits.begun → at_begin edits screen ≡ None
unfolding at_begin
at_begin-none edits screen none = ap (option_map (unwound screen)) (none_of edits.begun none)

pub past-unbegun : (edits : Edits) (screen : State) → IsNone edits.begun
    → past edits screen ≡ unwound_in_turn screen edits.kept
unfolding past at_begin
past-unbegun edits screen none =
    ap (λ (o : Option OldValues). unwound_in_turn (unwrap_or (option_map (unwound screen) o) screen) edits.kept)
    (none_of edits.begun none)

-- while none is kept
pub past-none : (edits : Edits) (screen : State) → edits.kept ≡ [] → past edits screen ≡ []
unfolding past unwound_in_turn
past-none edits screen none =
    ap (λ (l : List OldValues). unwound_in_turn (unwrap_or (at_begin edits screen) screen) l) none

pub length-past : (edits : Edits) (screen : State) → length (past edits screen) ≡ length edits.kept
unfolding past
length-past edits screen = length_in_turn (unwrap_or (at_begin edits screen) screen) edits.kept

-- ---- the future

pub future-of : (edits : Edits) (screen : State) → future edits screen ≡ unwound_in_turn screen edits.undone
unfolding future
future-of edits screen = refl

pub future-none : (edits : Edits) (screen : State) → edits.undone ≡ [] → future edits screen ≡ []
future-none edits screen none = future-of edits screen ∙ empty_in_turn screen edits.undone none

pub length-future : (edits : Edits) (screen : State) → length (future edits screen) ≡ length edits.undone
length-future edits screen =
    ap (λ (l : List State). length l) (future-of edits screen) ∙ length_in_turn screen edits.undone

no_future : (edits : Edits) (screen : State) → future edits screen ≡ []
    → AllByRecursion IsValidState (future edits screen)
no_future edits screen none = subst (λ (l : List State). AllByRecursion IsValidState l) (sym none) tt

-- ---- edits that fit a screen

-- where none is begun, past and future matter
pub FitsTogether-unbegun : (edits : Edits) (screen : State) → IsNone edits.begun
    → AllByRecursion IsValidState (past edits screen) → AllByRecursion IsValidState (future edits screen)
    → FitsTogether edits screen
FitsTogether-unbegun edits screen none valid ahead = record {
  past = valid;
  at_begin = subst (λ (o : Option State). IfSome o IsValidState) (sym (at_begin-none edits screen none)) tt;
  future = ahead;
}

-- the same past fits as well, without a future
pub FitsTogether-same : (edits new : Edits) (before after : State) → IsNone new.begun
    → past new after ≡ past edits before → future new after ≡ [] → FitsTogether edits before → FitsTogether new after
FitsTogether-same edits new before after none same ahead fits =
    FitsTogether-unbegun new after none
    (subst (λ (l : List State). AllByRecursion IsValidState l) (sym same) fits.past) (no_future new after ahead)

pub FitsTogether-none : (edits : Edits) (screen : State) → IsNone edits.begun → edits.kept ≡ [] → edits.undone ≡ []
    → FitsTogether edits screen
FitsTogether-none edits screen none empty no_more =
    FitsTogether-unbegun edits screen none
    (subst (λ (l : List State). AllByRecursion IsValidState l) (sym (past-none edits screen empty)) tt)
    (no_future edits screen (future-none edits screen no_more))

-- by the states of each side
pub FitsTogether-sides : (edits : Edits) (screen : State) → IsNone edits.begun
    → AllByRecursion IsValidState (unwound_in_turn screen edits.kept)
    → AllByRecursion IsValidState (unwound_in_turn screen edits.undone) → FitsTogether edits screen
FitsTogether-sides edits screen none behind ahead =
    FitsTogether-unbegun edits screen none
    (subst (λ (l : List State). AllByRecursion IsValidState l) (sym (past-unbegun edits screen none)) behind)
    (subst (λ (l : List State). AllByRecursion IsValidState l) (sym (future-of edits screen)) ahead)

-- ---- an edit begun

pub at_begin-begin : (new : Edits) (screen : State) (old : OldValues) → new.begun ≡ Some old
    → unwound screen old ≡ screen → at_begin new screen ≡ Some screen
at_begin-begin new screen old begun same = at_begin-of new screen old begun ∙ ap (λ (s : State). Some s) same

pub past-begin : (edits new : Edits) (screen : State) (old : OldValues) → IsNone edits.begun
    → new.kept ≡ edits.kept → new.begun ≡ Some old → unwound screen old ≡ screen
    → past new screen ≡ past edits screen
past-begin edits new screen old none kept begun same =
    past-of new screen old begun
    ∙ ap (λ (s : State). unwound_in_turn s new.kept) same
    ∙ ap (unwound_in_turn screen) kept
    ∙ sym (past-unbegun edits screen none)

pub FitsTogether-begin : (edits new : Edits) (screen : State) → past new screen ≡ past edits screen
    → at_begin new screen ≡ Some screen → future new screen ≡ [] → FitsTogether edits screen → IsValidState screen
    → FitsTogether new screen
FitsTogether-begin edits new screen same begun ahead fits valid = record {
  past = subst (λ (l : List State). AllByRecursion IsValidState l) (sym same) fits.past;
  at_begin = subst (λ (o : Option State). IfSome o IsValidState) (sym begun) valid;
  future = no_future new screen ahead;
}

-- ---- a change noted in the edit that is begun

pub StaysBegun-noted : (edits new : Edits) (before after : State) (old noted : OldValues) → edits.begun ≡ Some old
    → new.begun ≡ Some noted → new.kept ≡ edits.kept → new.undone ≡ [] → unwound after noted ≡ unwound before old
    → FitsTogether edits before → StaysBegun edits before new after
StaysBegun-noted edits new before after old noted begun still kept none same fits =
    let past_same : past new after ≡ past edits before =
    past-of new after noted still
    ∙ ap (λ (s : State). unwound_in_turn s new.kept) same
    ∙ ap (unwound_in_turn (unwound before old)) kept
    ∙ sym (past-of edits before old begun) in
    let begin_same : at_begin new after ≡ at_begin edits before =
    at_begin-of new after noted still
    ∙ ap (λ (s : State). Some s) same
    ∙ sym (at_begin-of edits before old begun) in
    record {
      past = past_same;
      at_begin = begin_same;
      future = future-none new after none;
      begun = ap is_some still;
      fits = record {
        past = subst (λ (l : List State). AllByRecursion IsValidState l) (sym past_same) fits.past;
        at_begin = subst (λ (o : Option State). IfSome o IsValidState) (sym begin_same) fits.at_begin;
        future = no_future new after (future-none new after none);
      };
    }

-- ---- a change noted in the latest edit that is kept

pub past-noted : (edits new : Edits) (before after : State) (old noted : OldValues) (older : List OldValues)
    → IsNone edits.begun → IsNone new.begun → edits.kept ≡ old ∷ older → new.kept ≡ noted ∷ older
    → unwound after noted ≡ unwound before old → past new after ≡ past edits before
past-noted edits new before after old noted older none still kept now same =
    past-unbegun new after still
    ∙ ap (unwound_in_turn after) now
    ∙ first_in_turn after noted older
    ∙ ap (λ (s : State). s ∷ unwound_in_turn s older) same
    ∙ sym (first_in_turn before old older)
    ∙ sym (ap (unwound_in_turn before) kept)
    ∙ sym (past-unbegun edits before none)

-- ---- an edit kept

-- with an edit more
pub past-commit : (edits new : Edits) (old : OldValues) (n : ℕ) → edits.begun ≡ Some old
    → new.kept ≡ take n (old ∷ edits.kept) → IsNone new.begun → (screen before : State)
    → at_begin edits screen ≡ Some before → past new screen ≡ take n (before ∷ past edits screen)
past-commit edits new old n begun more none screen before at =
    let is : unwound screen old ≡ before = cc (at_begin-of edits screen old begun) in
    past-unbegun new screen none
    ∙ ap (unwound_in_turn screen) more
    ∙ take_in_turn n screen (old ∷ edits.kept)
    ∙ ap (take n) (first_in_turn screen old edits.kept)
    ∙ ap (λ (l : List State). take n (unwound screen old ∷ l)) (sym (past-of edits screen old begun))
    ∙ ap (λ (s : State). take n (s ∷ past edits screen)) is

pub FitsTogether-commit : (edits new : Edits) (old : OldValues) (n : ℕ) → edits.begun ≡ Some old
    → new.kept ≡ take n (old ∷ edits.kept) → IsNone new.begun → new.undone ≡ [] → (screen : State)
    → FitsTogether edits screen → FitsTogether new screen
FitsTogether-commit edits new old n begun more none no_more screen fits =
    let at = at_begin-of edits screen old begun in
    FitsTogether-unbegun new screen none
    (subst (λ (l : List State). AllByRecursion IsValidState l)
    (sym (past-commit edits new old n begun more none screen (unwound screen old) at))
    (take_valid n (unwound screen old ∷ past edits screen)
    (subst (λ (o : Option State). IfSome o IsValidState) at fits.at_begin, fits.past)))
    (no_future new screen (future-none new screen no_more))

-- ---- both sides as the code holds them

pub held_past : (held now : Edits) (screen : State) → held ≡ now → IsNone now.begun
    → unwound_in_turn screen held.kept ≡ past now screen
held_past held now screen view none =
    ap (λ (u : Edits). unwound_in_turn screen u.kept) view ∙ sym (past-unbegun now screen none)

pub held_future : (held now : Edits) (screen : State) → held ≡ now
    → unwound_in_turn screen held.undone ≡ future now screen
held_future held now screen view =
    ap (λ (u : Edits). unwound_in_turn screen u.undone) view ∙ sym (future-of now screen)

pub held_past_valid : (held now : Edits) (screen : State) → held ≡ now → IsNone now.begun → FitsTogether now screen
    → AllByRecursion IsValidState (unwound_in_turn screen held.kept)
held_past_valid held now screen view none fits =
    subst (λ (l : List State). AllByRecursion IsValidState l) (sym (held_past held now screen view none)) fits.past

pub held_future_valid : (held now : Edits) (screen : State) → held ≡ now → FitsTogether now screen
    → AllByRecursion IsValidState (unwound_in_turn screen held.undone)
held_future_valid held now screen view fits =
    subst (λ (l : List State). AllByRecursion IsValidState l) (sym (held_future held now screen view)) fits.future

pub still_none : (held now : Edits) → held ≡ now → IsNone now.begun → IsNone held.begun
still_none held now view none = subst (λ (u : Edits). IsNone u.begun) (sym view) none
