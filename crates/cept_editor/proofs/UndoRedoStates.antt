-- An editor after one more undo or redo: it leaves all edits, and moves the place that parts the kept from the undone ones.
use Rattle.std.proofs.Common.{◌≡◌, ◌≢◌, ℕ, zero, suc, ◌+◌, ◌-◌, ◌<◌, ◌≤◌, ◌==◌, Bool, true, false, cond, List, [], ◌∷◌, ◌++◌}
use Rattle.std.proofs.Common.{map, take, drop, length, refl, sym, ap, subst, ◌∙◌, append_assoc, arith}
use Rattle.std.proofs.Math.Seq.{take-append-add, take-append_seam}
use Rattle.std.proofs.lemmas.List.{take-append-le, take-append-drop, length-take, length-drop, length-append}
use Rattle.std.proofs.lemmas.List.FromFn.{length-map-range_with_len}
use Rattle.std.proofs.lemmas.Grind.{flat_map-append}
use Rattle.std.proofs.lemmas.Bool.{eqb-true}
use Rattle.std.specs.List.{range_with_len, flat_map, AllByRecursion}
use Rattle.cept_codes.specs.Command.{IsValidCommand}
use Rattle.cept_codes.specs.declared.command.Command.{Command}
use Rattle.cept_profile.specs.State.{State, state}
use Rattle.cept_profile.specs.Valid.{AllValid}
use Rattle.cept_undo.specs.Past.{nearest, handed_on}
use Rattle.cept_editor.specs.Applying.{editor_after_undo_redo}
use Rattle.cept_editor.specs.Kept.{KeptEdits, finds_nothing, kept_after_undo_redo, kept_after, remaining}
use Rattle.cept_editor.specs.Kept.{commands_of_edits, state_before_last, states_before, state_after_first, states_again}
use Rattle.cept_editor.specs.Kept.{EditorState, editor_after, StandsAfter}
use Rattle.cept_editor.specs.Meaning.{UndoRedoKind, UndoRedo, Undo, Redo}
use Rattle.cept_editor.specs.Stepping.{states_ahead}
use Rattle.cept_editor.proofs.EditsInTurn.{some_of}
use Rattle.cept_editor.proofs.KeptStates.{AllByRecursion-append, AllByRecursion-take, AllByRecursion-front}
use Rattle.cept_editor.proofs.KeptStates.{AllByRecursion-back, range_on, fewer_commands}

-- all edits, the undone ones after the kept ones
abbrev pub all_edits : KeptEdits → List (List Command)
all_edits k = k.edits ++ k.undone

-- undo and redo leave them
all_stay : (k : KeptEdits) (which : UndoRedoKind) → all_edits (kept_after_undo_redo k which) ≡ all_edits k
all_stay k Undo =
    let n = length k.edits - 1 in
    sym (append_assoc (take n k.edits) (drop n k.edits) k.undone)
    ∙ ap (λ l. l ++ k.undone) (take-append-drop n k.edits)
all_stay k Redo =
    append_assoc k.edits (take 1 k.undone) (drop 1 k.undone)
    ∙ ap (λ l. k.edits ++ l) (take-append-drop 1 k.undone)

-- the state after the page and the first n edits
abbrev state_at : List Command → List (List Command) → ℕ → State
state_at page edits n = state (page ++ commands_of_edits (take n edits))

-- an editor after the first m of these edits, of which n can be undone, and of the others r can be redone
abbrev editor_at : List Command → List (List Command) → ℕ → ℕ → ℕ → EditorState
editor_at page edits m n r = record {
  screen = state_at page edits m;
  past = map (λ i. state_at page edits (m - (i + 1))) (range_with_len 0 n);
  future = map (λ i. state_at page edits (m + (i + 1))) (range_with_len 0 r);
}

range_same : {X : Type 0} (f g : ℕ → X) → ((i : ℕ) → f i ≡ g i) → (a n : ℕ)
    → map f (range_with_len a n) ≡ map g (range_with_len a n)
range_same f g same a zero = refl
range_same f g same a (suc n) = λ i. same a i ∷ range_same f g same (a + 1) n i

among_all : (page : List Command) (k : KeptEdits)
    → editor_after page k ≡ editor_at page (all_edits k) (length k.edits) k.count (length k.undone)
unfolding states_before states_again
among_all page k =
    let to : (l m : List (List Command)) → l ≡ m → state (page ++ commands_of_edits l) ≡ state (page ++ commands_of_edits m) =
    λ l m is. ap (λ (es : List (List Command)). state (page ++ commands_of_edits es)) is in
    λ j. record {
      screen = to k.edits (take (length k.edits) (all_edits k))
          (sym (take-append_seam k.edits k.undone)) j;
      past = range_same (state_before_last page k) (λ i. state_at page (all_edits k) (length k.edits - (i + 1)))
          (λ i. to (take (length k.edits - (i + 1)) k.edits) (take (length k.edits - (i + 1)) (all_edits k))
          (sym (take-append-le (length k.edits - (i + 1)) k.edits k.undone (omega arith)))) 0 k.count j;
      future = range_same (state_after_first page k) (λ i. state_at page (all_edits k) (length k.edits + (i + 1)))
          (λ i. to (k.edits ++ take (i + 1) k.undone) (take (length k.edits + (i + 1)) (all_edits k))
          (sym (take-append-add k.edits k.undone (i + 1)))) 0 (length k.undone) j;
    }

-- one back, and one on
one_back : (page : List Command) (edits : List (List Command)) (m n r : ℕ)
    → editor_after_undo_redo (editor_at page edits (suc m) (suc n) r) Undo ≡ editor_at page edits m n (suc r)
one_back page edits m n r =
    let at : (a b : ℕ) → a ≡ b → state_at page edits a ≡ state_at page edits b = λ a b is. ap (state_at page edits) is in
    λ j. record {
      screen = at (suc m - (0 + 1)) m (omega arith) j;
      past = range_on (λ i. state_at page edits (suc m - (i + 1))) (λ i. state_at page edits (m - (i + 1)))
          (λ i. at (suc m - ((i + 1) + 1)) (m - (i + 1)) (omega arith)) 0 n j;
      future = at (suc m) (m + (0 + 1)) (omega arith) j
          ∷ sym (range_on (λ i. state_at page edits (m + (i + 1))) (λ i. state_at page edits (suc m + (i + 1)))
          (λ i. at (m + ((i + 1) + 1)) (suc m + (i + 1)) (omega arith)) 0 r) j;
    }

one_on : (page : List Command) (edits : List (List Command)) (m n r : ℕ)
    → editor_after_undo_redo (editor_at page edits m n (suc r)) Redo ≡ editor_at page edits (suc m) (suc n) r
one_on page edits m n r =
    let at : (a b : ℕ) → a ≡ b → state_at page edits a ≡ state_at page edits b = λ a b is. ap (state_at page edits) is in
    λ j. record {
      screen = at (m + (0 + 1)) (suc m) (omega arith) j;
      past = at m (suc m - (0 + 1)) (omega arith) j
          ∷ sym (range_on (λ i. state_at page edits (suc m - (i + 1))) (λ i. state_at page edits (m - (i + 1)))
          (λ i. at (suc m - ((i + 1) + 1)) (m - (i + 1)) (omega arith)) 0 n) j;
      future = range_on (λ i. state_at page edits (m + (i + 1))) (λ i. state_at page edits (suc m + (i + 1)))
          (λ i. at (m + ((i + 1) + 1)) (suc m + (i + 1)) (omega arith)) 0 r j;
    }

-- the same where these are the numbers
editor_at-same : (page : List Command) (edits edits' : List (List Command)) (m m' n n' r r' : ℕ) → edits ≡ edits'
    → m ≡ m' → n ≡ n' → r ≡ r' → editor_at page edits m n r ≡ editor_at page edits' m' n' r'
editor_at-same page edits edits' m m' n n' r r' e a b c = λ j. editor_at page (e j) (a j) (b j) (c j)

-- an undo or a redo by its three parts
pub moved_as : (which : UndoRedoKind) (old new : EditorState) → new.screen ≡ (editor_after_undo_redo old which).screen
    → new.past ≡ (editor_after_undo_redo old which).past → new.future ≡ (editor_after_undo_redo old which).future
    → new ≡ editor_after_undo_redo old which
moved_as which old new screen past future = λ i. record { screen = screen i; past = past i; future = future i }

-- ---- what an undo or a redo finds

abbrev found : UndoRedoKind → KeptEdits → ℕ
found Undo k = k.count
found Redo k = length k.undone

finds-found : (which : UndoRedoKind) (k : KeptEdits) → finds_nothing which k ≡ (found which k == 0)
finds-found Undo k = refl
finds-found Redo k = refl

length-states_ahead : (page : List Command) (k : KeptEdits) (which : UndoRedoKind)
    → length (states_ahead (editor_after page k) which) ≡ found which k
unfolding states_before states_again
length-states_ahead page k Undo = length-map-range_with_len (state_before_last page k) 0 k.count
length-states_ahead page k Redo = length-map-range_with_len (state_after_first page k) 0 (length k.undone)

none_of : {X : Type 0} (xs : List X) (n : ℕ) → length xs ≡ n → (n == 0) ≡ true → xs ≡ []
none_of [] n is none = refl
none_of (x ∷ xs) n is none = absurd (omega (arith, is, eqb-true n 0 none))

-- it finds nothing exactly where no state lies ahead
pub none_ahead : (page : List Command) (k : KeptEdits) (which : UndoRedoKind) → finds_nothing which k ≡ true
    → states_ahead (editor_after page k) which ≡ []
none_ahead page k which is =
    none_of (states_ahead (editor_after page k) which) (found which k) (length-states_ahead page k which)
    (sym (finds-found which k) ∙ is)

pub finds_none : (page : List Command) (k : KeptEdits) (which : UndoRedoKind)
    → states_ahead (editor_after page k) which ≡ [] → finds_nothing which k ≡ true
finds_none page k which none =
    finds-found which k ∙ ap (λ (n : ℕ). n == 0) (sym (length-states_ahead page k which) ∙ ap length none)

pub finds_some : (page : List Command) (k : KeptEdits) (which : UndoRedoKind)
    → states_ahead (editor_after page k) which ≢ [] → finds_nothing which k ≡ false
finds_some page k which some = by_finding (finds_nothing which k) refl
  where
    by_finding : (none : Bool) → finds_nothing which k ≡ none → finds_nothing which k ≡ false
    by_finding true is = absurd (some (none_ahead page k which is))
    by_finding false is = is

pub kept-idle : (k : KeptEdits) (which : UndoRedoKind) → finds_nothing which k ≡ true → kept_after k (UndoRedo which) ≡ k
kept-idle k which is = ap (λ (b : Bool). cond b k (kept_after_undo_redo k which)) is

pub kept-moved : (k : KeptEdits) (which : UndoRedoKind) → finds_nothing which k ≡ false
    → kept_after k (UndoRedo which) ≡ kept_after_undo_redo k which
kept-moved k which is = ap (λ (b : Bool). cond b k (kept_after_undo_redo k which)) is

-- where it finds nothing it leaves the editor
pub idle_undo_redo : (e : EditorState) (which : UndoRedoKind) → states_ahead e which ≡ [] → editor_after_undo_redo e which ≡ e
idle_undo_redo e Undo none = λ i. record {
  screen = ap (λ l. nearest l e.screen) none i;
  past = (ap (drop 1) none ∙ sym none) i;
  future = ap (λ l. handed_on l e.screen e.future) none i;
}
idle_undo_redo e Redo none = λ i. record {
  screen = ap (λ l. nearest l e.screen) none i;
  past = ap (λ l. handed_on l e.screen e.past) none i;
  future = (ap (drop 1) none ∙ sym none) i;
}

-- ---- where it finds something

-- the commands of all edits are valid, and as many are kept as can be undone
pub record AreSound (page : List Command) (k : KeptEdits) : Type 0 where
  pub valid : AllValid (page ++ commands_of_edits (all_edits k))
  pub within : k.count ≤ length k.edits

commands_in_parts : (page : List Command) (edits others : List (List Command))
    → page ++ commands_of_edits (edits ++ others) ≡ (page ++ commands_of_edits edits) ++ commands_of_edits others
unfolding commands_of_edits
commands_in_parts page edits others =
    ap (λ l. page ++ l) (flat_map-append (λ (c : List Command). c) edits others)
    ∙ sym (append_assoc page (flat_map (λ (c : List Command). c) edits) (flat_map (λ (c : List Command). c) others))

-- by the commands that remain and those of the undone edits
pub sound_in_parts : (page : List Command) (k : KeptEdits) → AllValid (remaining page k)
    → AllValid (commands_of_edits k.undone) → k.count ≤ length k.edits → AreSound page k
sound_in_parts page k valid again within = assumption (subst AllValid (sym (commands_in_parts page k.edits k.undone)) (AllByRecursion-append IsValidCommand (remaining page k) (commands_of_edits k.undone) valid again))

pub remaining_sound : (page : List Command) (k : KeptEdits) → AreSound page k → AllValid (remaining page k)
remaining_sound page k sound =
    AllByRecursion-front IsValidCommand (remaining page k) (commands_of_edits k.undone)
    (subst AllValid (commands_in_parts page k.edits k.undone) sound.valid)

undone_sound : (page : List Command) (k : KeptEdits) → AreSound page k → AllValid (commands_of_edits k.undone)
undone_sound page k sound =
    AllByRecursion-back IsValidCommand (remaining page k) (commands_of_edits k.undone)
    (subst AllValid (commands_in_parts page k.edits k.undone) sound.valid)

pub AreSound-undo_redo : (page : List Command) (k : KeptEdits) (which : UndoRedoKind) → AreSound page k
    → finds_nothing which k ≡ false → AreSound page (kept_after_undo_redo k which)
AreSound-undo_redo page k which sound some = record {
  valid = subst (λ es. AllValid (page ++ commands_of_edits es)) (sym (all_stay k which)) sound.valid;
  within = as_many which some;
}
  where
    as_many : (which : UndoRedoKind) → finds_nothing which k ≡ false
        → (kept_after_undo_redo k which).count ≤ length (kept_after_undo_redo k which).edits
    as_many Undo some = omega (arith, sound.within, length-take (length k.edits - 1) k.edits)
    as_many Redo some =
        omega (arith, sound.within, some_of (length k.undone) some, length-append k.edits (take 1 k.undone), length-take 1 k.undone)

pub editor_moved : (page : List Command) (k : KeptEdits) (which : UndoRedoKind) → k.count ≤ length k.edits
    → finds_nothing which k ≡ false → editor_after_undo_redo (editor_after page k) which ≡ editor_after page (kept_after_undo_redo k which)
editor_moved page k Undo within some =
    let k' = kept_after_undo_redo k Undo in
    let edits : length k.edits ≡ suc (length k'.edits) =
    omega (arith, within, some_of k.count some, length-take (length k.edits - 1) k.edits) in
    let count : k.count ≡ suc k'.count = omega (arith, some_of k.count some) in
    let undone : suc (length k.undone) ≡ length k'.undone =
    omega (
      arith,
      within,
      some_of k.count some,
      length-append (drop (length k.edits - 1) k.edits) k.undone,
      length-drop (length k.edits - 1) k.edits,
    ) in
    ap (λ (e : EditorState). editor_after_undo_redo e Undo)
    (among_all page k
    ∙ editor_at-same page (all_edits k) (all_edits k) _ (suc (length k'.edits)) _ (suc k'.count) _ (length k.undone) refl
    edits count refl)
    ∙ one_back page (all_edits k) (length k'.edits) k'.count (length k.undone)
    ∙ editor_at-same page (all_edits k) (all_edits k') (length k'.edits) (length k'.edits) k'.count k'.count _ _
    (sym (all_stay k Undo)) refl refl undone
    ∙ sym (among_all page k')
editor_moved page k Redo within some =
    let k' = kept_after_undo_redo k Redo in
    let edits : suc (length k.edits) ≡ length k'.edits =
    omega (arith, some_of (length k.undone) some, length-append k.edits (take 1 k.undone), length-take 1 k.undone) in
    let count : suc k.count ≡ k'.count = omega arith in
    let undone : length k.undone ≡ suc (length k'.undone) =
    omega (arith, some_of (length k.undone) some, length-drop 1 k.undone) in
    ap (λ (e : EditorState). editor_after_undo_redo e Redo)
    (among_all page k
    ∙ editor_at-same page (all_edits k) (all_edits k) (length k.edits) (length k.edits) k.count k.count _
    (suc (length k'.undone)) refl refl refl undone)
    ∙ one_on page (all_edits k) (length k.edits) k.count (length k'.undone)
    ∙ editor_at-same page (all_edits k) (all_edits k') _ _ _ _ (length k'.undone) (length k'.undone)
    (sym (all_stay k Redo)) edits count refl
    ∙ sym (among_all page k')

pub StandsAfter-undo_redo : (old new : EditorState) (page : List Command) (k : KeptEdits) (which : UndoRedoKind)
    → StandsAfter old page k → finds_nothing which k ≡ false → new ≡ editor_after_undo_redo old which
    → StandsAfter new page (kept_after k (UndoRedo which))
StandsAfter-undo_redo old new page k which stands some is =
    let k' = kept_after_undo_redo k which in
    let sound = AreSound-undo_redo page k which (sound_in_parts page k stands.valid stands.valid_again stands.within) some in
    subst (λ (j : KeptEdits). StandsAfter new page j) (sym (kept-moved k which some)) (record {
      valid = remaining_sound page k' sound;
      valid_again = undone_sound page k' sound;
      some = subst (AllByRecursion (λ (c : List Command). 0 < length c)) (sym (all_stay k which)) stands.some;
      within = sound.within;
      is = is ∙ ap (λ (e : EditorState). editor_after_undo_redo e which) stands.is ∙ editor_moved page k which stands.within some;
    })

-- it leaves other commands
pub undo_redo_differs : (editor : EditorState) (page : List Command) (k : KeptEdits) (which : UndoRedoKind)
    → StandsAfter editor page k → finds_nothing which k ≡ false
    → remaining page (kept_after k (UndoRedo which)) ≢ remaining page k
undo_redo_differs editor page k Undo stands some same =
    let n = length k.edits - 1 in
    let has_some = λ (c : List Command). 0 < length c in
    let fewer = fewer_commands n k.edits (omega (arith, stands.within, some_of k.count some))
    (AllByRecursion-front has_some k.edits k.undone stands.some) in
    let left = ap (λ (j : KeptEdits). remaining page j) (kept-moved k Undo some) in
    omega (
      arith,
      fewer,
      ap length (sym left ∙ same),
      length-append page (commands_of_edits k.edits),
      length-append page (commands_of_edits (take n k.edits)),
    )
undo_redo_differs editor page k Redo stands some same =
    let edits = k.edits ++ take 1 k.undone in
    let has_some = λ (c : List Command). 0 < length c in
    let each = subst (AllByRecursion has_some) (take-append-add k.edits k.undone 1)
    (AllByRecursion-take has_some (length k.edits + 1) (all_edits k) stands.some) in
    let fewer = fewer_commands (length k.edits) edits
    (omega (arith, some_of (length k.undone) some, length-append k.edits (take 1 k.undone), length-take 1 k.undone)) each in
    let first = take-append_seam k.edits (take 1 k.undone) in
    let left = ap (λ (j : KeptEdits). remaining page j) (kept-moved k Redo some) in
    omega (
      arith,
      fewer,
      ap (λ (es : List (List Command)). length (commands_of_edits es)) first,
      ap length (sym left ∙ same),
      length-append page (commands_of_edits k.edits),
      length-append page (commands_of_edits edits),
    )
