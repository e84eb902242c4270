-- An editor after one more edit line: where it stands, and the states to which undo leads.
use Rattle.std.proofs.Common.{◌≡◌, ℕ, zero, suc, ◌+◌, ◌-◌, ◌<◌, min, List, [], ◌∷◌, ◌++◌}
use Rattle.std.proofs.Common.{map, take, length, refl, sym, ap, subst, ◌∙◌, append-nil, arith}
use Rattle.std.proofs.lemmas.List.{take_all, take-append-le, length-append}
use Rattle.std.specs.List.{range_with_len, flat_map, AllByRecursion}
use Rattle.cept_codes.specs.Command.{IsValidCommand}
use Rattle.cept_codes.specs.declared.command.Command.{Command}
use Rattle.cept_profile.specs.State.{state}
use Rattle.cept_profile.specs.Valid.{AllValid}
use Rattle.cept_undo.specs.Past.{most_kept}
use Rattle.cept_editor.specs.Kept.{KeptEdits, none_kept, kept_after, remaining}
use Rattle.cept_editor.specs.Kept.{commands_of_edits, state_before_last, states_before, states_again}
use Rattle.cept_editor.specs.Kept.{EditorState, StandsAfter}
use Rattle.cept_editor.specs.Meaning.{Edit}
use Rattle.cept_editor.proofs.EditsInTurn.{remaining-edit, remaining-none, states_before-none, states_again-none}

-- ---- lists

pub AllByRecursion-append : {X : Type 0} (P : X → Type 0) (xs ys : List X) → AllByRecursion P xs → AllByRecursion P ys
    → AllByRecursion P (xs ++ ys)
AllByRecursion-append P [] ys all more = more
AllByRecursion-append P (x ∷ xs) ys all more = (all.0, AllByRecursion-append P xs ys all.1 more)

pub AllByRecursion-take : {X : Type 0} (P : X → Type 0) (n : ℕ) (xs : List X) → AllByRecursion P xs
    → AllByRecursion P (take n xs)
AllByRecursion-take P zero xs all = tt
AllByRecursion-take P (suc n) [] all = tt
AllByRecursion-take P (suc n) (x ∷ xs) all = (all.0, AllByRecursion-take P n xs all.1)

pub AllByRecursion-front : {X : Type 0} (P : X → Type 0) (xs ys : List X) → AllByRecursion P (xs ++ ys) → AllByRecursion P xs
AllByRecursion-front P [] ys all = tt
AllByRecursion-front P (x ∷ xs) ys all = (all.0, AllByRecursion-front P xs ys all.1)

pub AllByRecursion-back : {X : Type 0} (P : X → Type 0) (xs ys : List X) → AllByRecursion P (xs ++ ys) → AllByRecursion P ys
AllByRecursion-back P [] ys all = all
AllByRecursion-back P (x ∷ xs) ys all = AllByRecursion-back P xs ys all.1

-- numbers that go on by one
pub range_on : {X : Type 0} (f g : ℕ → X) → ((i : ℕ) → f (i + 1) ≡ g i) → (a n : ℕ)
    → map f (range_with_len (a + 1) n) ≡ map g (range_with_len a n)
range_on f g same a zero = refl
range_on f g same a (suc n) = λ i. same a i ∷ range_on f g same (a + 1) n i

first_of_range : {X : Type 0} (f : ℕ → X) (a n m : ℕ)
    → take m (map f (range_with_len a n)) ≡ map f (range_with_len a (min n m))
first_of_range f a n zero =
    let none : 0 ≡ min n 0 = omega arith in ap (λ c. map f (range_with_len a c)) none
first_of_range f a zero (suc m) =
    let none : 0 ≡ min 0 (suc m) = omega arith in ap (λ c. map f (range_with_len a c)) none
first_of_range f a (suc n) (suc m) =
    let more : suc (min n m) ≡ min (suc n) (suc m) = omega arith in
    (λ i. f a ∷ first_of_range f (a + 1) n m i) ∙ ap (λ c. map f (range_with_len a c)) more

-- a list has an edit's commands more than without it
pub fewer_commands : (n : ℕ) (edits : List (List Command)) → n < length edits
    → AllByRecursion (λ commands. 0 < length commands) edits
    → length (commands_of_edits (take n edits)) < length (commands_of_edits edits)
unfolding commands_of_edits
fewer_commands n [] below some = absurd (omega (arith, below))
fewer_commands zero (e ∷ edits) below some =
    omega (arith, some.0, length-append e (flat_map (λ (commands : List Command). commands) edits))
fewer_commands (suc n) (e ∷ edits) below some =
    omega (
      arith,
      fewer_commands n edits (omega (arith, below)) some.1,
      length-append e (flat_map (λ (commands : List Command). commands) edits),
      length-append e (flat_map (λ (commands : List Command). commands) (take n edits)),
    )

-- ---- the start

pub StandsAfter-start : (editor : EditorState) (page : List Command) → AllValid page → editor.screen ≡ state page
    → editor.past ≡ [] → editor.future ≡ [] → StandsAfter editor page none_kept
unfolding commands_of_edits
StandsAfter-start editor page valid screen past future = record {
  valid = subst AllValid (sym (remaining-none page)) valid;
  valid_again = tt;
  some = tt;
  within = omega arith;
  is = λ i. record {
    screen = (screen ∙ ap state (sym (remaining-none page))) i;
    past = (past ∙ sym (states_before-none page)) i;
    future = (future ∙ sym (states_again-none page)) i;
  };
}

-- ---- an edit more

-- the state before the last but i, with an edit more
one_later : (page : List Command) (k : KeptEdits) (commands : List Command) (i : ℕ)
    → state_before_last page (kept_after k (Edit commands)) (i + 1) ≡ state_before_last page k i
one_later page k commands i =
    let total : length (k.edits ++ commands ∷ []) - ((i + 1) + 1) ≡ length k.edits - (i + 1) =
    omega (arith, length-append k.edits (commands ∷ [])) in
    ap (λ n. state (page ++ commands_of_edits (take n (k.edits ++ commands ∷ [])))) total
    ∙ ap (λ l. state (page ++ commands_of_edits l))
    (take-append-le (length k.edits - (i + 1)) k.edits (commands ∷ []) (omega arith))

before_it : (page : List Command) (k : KeptEdits) (commands : List Command)
    → state_before_last page (kept_after k (Edit commands)) 0 ≡ state (remaining page k)
before_it page k commands =
    let total : length (k.edits ++ commands ∷ []) - (0 + 1) ≡ length k.edits =
    omega (arith, length-append k.edits (commands ∷ [])) in
    ap (λ n. state (page ++ commands_of_edits (take n (k.edits ++ commands ∷ [])))) total
    ∙ ap (λ l. state (page ++ commands_of_edits l))
    (take-append-le (length k.edits) k.edits (commands ∷ []) (omega arith) ∙ take_all (length k.edits) k.edits (omega arith))

all_before : (page : List Command) (k : KeptEdits) (commands : List Command)
    → state (remaining page k) ∷ states_before page k
    ≡ map (state_before_last page (kept_after k (Edit commands))) (range_with_len 0 (k.count + 1))
unfolding states_before
all_before page k commands =
    let more : suc k.count ≡ k.count + 1 = omega arith in
    (λ i. sym (before_it page k commands) i
    ∷ sym (range_on (state_before_last page (kept_after k (Edit commands))) (state_before_last page k)
    (one_later page k commands) 0 k.count) i)
    ∙ ap (λ c. map (state_before_last page (kept_after k (Edit commands))) (range_with_len 0 c)) more

pub states_before-edit : (page : List Command) (k : KeptEdits) (commands : List Command)
    → take most_kept (state (remaining page k) ∷ states_before page k) ≡ states_before page (kept_after k (Edit commands))
unfolding states_before
states_before-edit page k commands =
    ap (take most_kept) (all_before page k commands)
    ∙ first_of_range (state_before_last page (kept_after k (Edit commands))) 0 (k.count + 1) most_kept

pub states_again-edit : (page : List Command) (k : KeptEdits) (commands : List Command)
    → states_again page (kept_after k (Edit commands)) ≡ []
unfolding states_again
states_again-edit page k commands = refl

pub StandsAfter-edit : (old new : EditorState) (page : List Command) (k : KeptEdits) (commands : List Command)
    → StandsAfter old page k → AllValid commands → 0 < length commands
    → new.screen ≡ state (remaining page k ++ commands) → new.past ≡ take most_kept (old.screen ∷ old.past)
    → new.future ≡ [] → StandsAfter new page (kept_after k (Edit commands))
unfolding commands_of_edits
StandsAfter-edit old new page k commands stands valid some screen past future =
    let has_some = λ (c : List Command). 0 < length c in
    record {
      valid = subst AllValid (sym (remaining-edit page k commands))
          (AllByRecursion-append IsValidCommand (remaining page k) commands stands.valid valid);
      valid_again = tt;
      some = subst (AllByRecursion has_some) (sym (append-nil (k.edits ++ commands ∷ [])))
          (AllByRecursion-append has_some k.edits (commands ∷ [])
          (AllByRecursion-front has_some k.edits k.undone stands.some) (some, tt));
      within = omega (arith, stands.within, length-append k.edits (commands ∷ []));
      is = λ i. record {
        screen = (screen ∙ ap state (sym (remaining-edit page k commands))) i;
        past = (past ∙ ap (λ (e : EditorState). take most_kept (e.screen ∷ e.past)) stands.is
            ∙ states_before-edit page k commands) i;
        future = (future ∙ sym (states_again-edit page k commands)) i;
      };
    }
