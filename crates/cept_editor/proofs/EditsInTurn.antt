-- The edits that are kept after more edit lines, and the events of an edit line, each going on from the one before it.
use Rattle.std.proofs.Common.{◌≡◌, ℕ, zero, suc, ◌+◌, ◌-◌, ◌<◌, ◌≤◌, ◌==◌, Bool, true, false, cond, List, [], ◌∷◌, ◌++◌, map, take, drop, length, refl, sym, ap}
use Rattle.std.proofs.Common.{◌∙◌, append_assoc, append-nil, arith}
use Rattle.std.proofs.lemmas.Grind.{flat_map-append}
use Rattle.std.proofs.lemmas.List.{length-append, length-drop}
use Rattle.std.specs.List.{enumerate_from, flat_map}
use Rattle.cept_codes.specs.declared.command.Command.{Command}
use Rattle.cept_codes.specs.declared.look.Look.{Look}
use Rattle.cept_profile.specs.Changes.{grid_with_paints}
use Rattle.cept_profile.specs.Look.{grid}
use Rattle.cept_profile.proofs.Laws.{grid_with_paints-append}
use Rattle.cept_undo.specs.Past.{most_kept}
use Rattle.cept_editor.specs.Events.{Event, event_changes, paints}
use Rattle.cept_editor.specs.Kept.{KeptEdits, none_kept, finds_nothing, kept_after_undo_redo, kept_after, kept_after_all, kept}
use Rattle.cept_editor.specs.Kept.{remaining, states_before, states_again, commands_of_edits}
use Rattle.cept_editor.specs.Meaning.{Step, UndoRedoKind, UndoRedo, Undo, Redo, Edit}
use Rattle.cept_editor.specs.Stepping.{event_from, edit_events, line_events}
use Rattle.cept_editor.proofs.MadeEvents.{paints-append, paints-one, paints-none, no_paint, event_shown, nothing_event}

-- ---- kept edits

pub some_of : (n : ℕ) → (n == 0) ≡ false → 0 < n
some_of zero is = absurd cc
some_of (suc n) is = omega arith

kept_after_all-append : (k : KeptEdits) (steps : List Step) (step : Step)
    → kept_after_all k (steps ++ step ∷ []) ≡ kept_after (kept_after_all k steps) step
unfolding kept_after_all
kept_after_all-append k [] step = refl
kept_after_all-append k (first ∷ more) step = kept_after_all-append (kept_after k first) more step

pub kept-none : kept [] ≡ none_kept
unfolding kept_after_all
kept-none = refl

pub kept-more : (steps : List Step) (step : Step) → kept (steps ++ step ∷ []) ≡ kept_after (kept steps) step
kept-more steps step = kept_after_all-append none_kept steps step

pub remaining-none : (page : List Command) → remaining page none_kept ≡ page
unfolding commands_of_edits
remaining-none page = append-nil page

pub states_before-none : (page : List Command) → states_before page none_kept ≡ []
unfolding states_before
states_before-none page = refl

pub states_again-none : (page : List Command) → states_again page none_kept ≡ []
unfolding states_again
states_again-none page = refl

pub commands_of_edits-more : (edits : List (List Command)) (commands : List Command)
    → commands_of_edits (edits ++ commands ∷ []) ≡ commands_of_edits edits ++ commands
unfolding commands_of_edits
commands_of_edits-more edits commands =
    flat_map-append (λ (c : List Command). c) edits (commands ∷ [])
    ∙ ap (λ l. flat_map (λ (c : List Command). c) edits ++ l) (append-nil commands)

-- an edit's commands come after those that remain
pub remaining-edit : (page : List Command) (k : KeptEdits) (commands : List Command)
    → remaining page (kept_after k (Edit commands)) ≡ remaining page k ++ commands
remaining-edit page k commands =
    ap (λ l. page ++ l) (commands_of_edits-more k.edits commands)
    ∙ sym (append_assoc page (commands_of_edits k.edits) commands)

-- ---- how many can be undone and redone

one_more_few : (k : KeptEdits) (step : Step) → k.count + length k.undone ≤ most_kept
    → (kept_after k step).count + length (kept_after k step).undone ≤ most_kept
one_more_few k (Edit commands) few = omega arith
one_more_few k (UndoRedo which) few = moved which (finds_nothing which k) refl
  where
    moved : (which : UndoRedoKind) (none : Bool) → finds_nothing which k ≡ none
        → (cond none k (kept_after_undo_redo k which)).count + length (cond none k (kept_after_undo_redo k which)).undone ≤ most_kept
    moved which true is = few
    moved Undo false is =
        omega (
          arith,
          few,
          some_of k.count is,
          length-drop (length k.edits - 1) k.edits,
          length-append (drop (length k.edits - 1) k.edits) k.undone,
        )
    moved Redo false is = omega (arith, few, some_of (length k.undone) is, length-drop 1 k.undone)

all_few : (k : KeptEdits) (steps : List Step) → k.count + length k.undone ≤ most_kept
    → (kept_after_all k steps).count + length (kept_after_all k steps).undone ≤ most_kept
unfolding kept_after_all
all_few k [] few = few
all_few k (step ∷ more) few = all_few (kept_after k step) more (one_more_few k step few)

-- what can be undone and redone is no more than may be kept
pub kept-few : (steps : List Step) → (kept steps).count + length (kept steps).undone ≤ most_kept
kept-few steps = all_few none_kept steps (omega arith)

-- ---- the events of an edit

-- numbers that go on by one
numbered_on : (f g : ℕ × Command → Event) → ((n : ℕ) (c : Command) → f (n + 1, c) ≡ g (n, c)) → (n : ℕ)
    (cs : List Command) → map f (enumerate_from (n + 1) cs) ≡ map g (enumerate_from n cs)
numbered_on f g same n [] = refl
numbered_on f g same n (c ∷ cs) = λ i. same n c i ∷ numbered_on f g same (n + 1) cs i

further : (n : ℕ) (earlier : List Command) (c : Command) (cs : List Command)
    → earlier ++ take (n + 1) (c ∷ cs) ≡ (earlier ++ c ∷ []) ++ take n cs
further n earlier c cs =
    let more : n + 1 ≡ suc n = omega arith in
    ap (λ m. earlier ++ take m (c ∷ cs)) more ∙ sym (append_assoc earlier (c ∷ []) (take n cs))

one_further : (listed : Bool) (line : ℕ) (earlier : List Command) (c : Command) (cs : List Command) (n : ℕ)
    → event_from listed line (earlier ++ take (n + 1) (c ∷ cs)) (earlier ++ take ((n + 1) + 1) (c ∷ cs))
    ≡ event_from listed line ((earlier ++ c ∷ []) ++ take n cs) ((earlier ++ c ∷ []) ++ take (n + 1) cs)
one_further listed line earlier c cs n = λ i.
    event_from listed line (further n earlier c cs i) (further (n + 1) earlier c cs i)

pub edit_events-none : (listed : Bool) (line : ℕ) (earlier : List Command) → edit_events listed line earlier [] ≡ []
unfolding edit_events
edit_events-none listed line earlier = refl

-- the event of the first command, and then those of the others after it
pub edit_events-first : (listed : Bool) (line : ℕ) (earlier : List Command) (c : Command) (cs : List Command)
    → edit_events listed line earlier (c ∷ cs)
    ≡ event_from listed line earlier (earlier ++ c ∷ []) ∷ edit_events listed line (earlier ++ c ∷ []) cs
unfolding edit_events
edit_events-first listed line earlier c cs = λ i.
    event_from listed line (append-nil earlier i) (earlier ++ c ∷ [])
    ∷ numbered_on
    (λ numbered. event_from listed line (earlier ++ take numbered.0 (c ∷ cs)) (earlier ++ take (numbered.0 + 1) (c ∷ cs)))
    (λ numbered. event_from listed line ((earlier ++ c ∷ []) ++ take numbered.0 cs)
    ((earlier ++ c ∷ []) ++ take (numbered.0 + 1) cs))
    (λ n x. one_further listed line earlier c cs n) 0 cs i

-- the events of the first commands, and then that of the last one
pub edit_events-last : (listed : Bool) (line : ℕ) (earlier cs : List Command) (c : Command)
    → edit_events listed line earlier (cs ++ c ∷ [])
    ≡ edit_events listed line earlier cs
    ++ event_from listed line (earlier ++ cs) ((earlier ++ cs) ++ c ∷ []) ∷ []
edit_events-last listed line earlier [] c =
    edit_events-first listed line earlier c []
    ∙ (λ i. event_from listed line (sym (append-nil earlier) i) (sym (append-nil earlier) i ++ c ∷ [])
    ∷ edit_events-none listed line (earlier ++ c ∷ []) i)
    ∙ ap (λ l. l ++ event_from listed line (earlier ++ []) ((earlier ++ []) ++ c ∷ []) ∷ [])
    (sym (edit_events-none listed line earlier))
edit_events-last listed line earlier (first ∷ cs) c =
    edit_events-first listed line earlier first (cs ++ c ∷ [])
    ∙ ap (λ l. event_from listed line earlier (earlier ++ first ∷ []) ∷ l)
    (edit_events-last listed line (earlier ++ first ∷ []) cs c
    ∙ ap (λ h. edit_events listed line (earlier ++ first ∷ []) cs
    ++ event_from listed line h (h ++ c ∷ []) ∷ []) (append_assoc earlier (first ∷ []) cs))
    ∙ ap (λ l. l ++ event_from listed line (earlier ++ first ∷ cs) ((earlier ++ first ∷ cs) ++ c ∷ []) ∷ [])
    (sym (edit_events-first listed line earlier first cs))

-- the events of the first commands, and then those of the others after them
pub edit_events-append : (listed : Bool) (line : ℕ) (earlier xs ys : List Command)
    → edit_events listed line earlier (xs ++ ys)
    ≡ edit_events listed line earlier xs ++ edit_events listed line (earlier ++ xs) ys
edit_events-append listed line earlier [] ys =
    ap (λ h. edit_events listed line h ys) (sym (append-nil earlier))
    ∙ ap (λ l. l ++ edit_events listed line (earlier ++ []) ys) (sym (edit_events-none listed line earlier))
edit_events-append listed line earlier (c ∷ xs) ys =
    let e = event_from listed line earlier (earlier ++ c ∷ []) in
    edit_events-first listed line earlier c (xs ++ ys)
    ∙ ap (λ l. e ∷ l) (edit_events-append listed line (earlier ++ c ∷ []) xs ys
    ∙ ap (λ h. edit_events listed line (earlier ++ c ∷ []) xs ++ edit_events listed line h ys)
    (append_assoc earlier (c ∷ []) xs))
    ∙ ap (λ l. l ++ edit_events listed line (earlier ++ c ∷ xs) ys) (sym (edit_events-first listed line earlier c xs))

pub length-edit_events : (listed : Bool) (line : ℕ) (earlier commands : List Command)
    → length (edit_events listed line earlier commands) ≡ length commands
length-edit_events listed line earlier [] = ap length (edit_events-none listed line earlier)
length-edit_events listed line earlier (c ∷ cs) =
    let rest = length-edit_events listed line (earlier ++ c ∷ []) cs in
    let first = ap length (edit_events-first listed line earlier c cs) in
    omega (arith, first, rest)

-- ---- what the events of a line paint

-- one event, and others after it
then_shown : (g : List (List Look)) (e : Event) (events : List Event)
    → grid_with_paints g (paints (e ∷ events)) ≡ grid_with_paints (grid_with_paints g (event_changes e)) (paints events)
then_shown g e events =
    ap (grid_with_paints g) (paints-append (e ∷ []) events)
    ∙ grid_with_paints-append g (paints (e ∷ [])) (paints events)
    ∙ ap (λ l. grid_with_paints (grid_with_paints g l) (paints events)) (paints-one e)

one_shown : (e : Event) → grid_with_paints (grid e.before) (paints (e ∷ [])) ≡ grid e.after
one_shown e = ap (grid_with_paints (grid e.before)) (paints-one e) ∙ event_shown e

edit_shown : (listed : Bool) (line : ℕ) (earlier commands : List Command)
    → grid_with_paints (grid earlier) (paints (edit_events listed line earlier commands)) ≡ grid (earlier ++ commands)
edit_shown listed line earlier [] =
    ap (λ l. grid_with_paints (grid earlier) (paints l)) (edit_events-none listed line earlier)
    ∙ ap (grid_with_paints (grid earlier)) paints-none ∙ no_paint (grid earlier)
    ∙ ap grid (sym (append-nil earlier))
edit_shown listed line earlier (c ∷ cs) =
    let e = event_from listed line earlier (earlier ++ c ∷ []) in
    ap (λ l. grid_with_paints (grid earlier) (paints l)) (edit_events-first listed line earlier c cs)
    ∙ then_shown (grid earlier) e (edit_events listed line (earlier ++ c ∷ []) cs)
    ∙ ap (λ g. grid_with_paints g (paints (edit_events listed line (earlier ++ c ∷ []) cs))) (event_shown e)
    ∙ edit_shown listed line (earlier ++ c ∷ []) cs
    ∙ ap grid (append_assoc earlier (c ∷ []) cs)

either_before : (b : Bool) (x y : Event) (h : List Command) → x.before ≡ h → y.before ≡ h → (cond b x y).before ≡ h
either_before true x y h first second = first
either_before false x y h first second = second

either_after : (b : Bool) (x y : Event) (h : List Command) → (b ≡ true → x.after ≡ h) → y.after ≡ h
    → (cond b x y).after ≡ h
either_after true x y h first second = first refl
either_after false x y h first second = second

undo_redo_shown : (listed : Bool) (line : ℕ) (page : List Command) (k : KeptEdits) (which : UndoRedoKind)
    → grid_with_paints (grid (remaining page k)) (paints (line_events listed line page k (UndoRedo which)))
    ≡ grid (remaining page (kept_after k (UndoRedo which)))
undo_redo_shown listed line page k which =
    let none : Bool = finds_nothing which k in
    let left = remaining page (kept_after k (UndoRedo which)) in
    let nothing = nothing_event listed line (remaining page k) in
    let moved = event_from listed line (remaining page k) left in
    let e : Event = cond none nothing moved in
    let before : e.before ≡ remaining page k = either_before none nothing moved (remaining page k) refl refl in
    let after : e.after ≡ left =
    either_after none nothing moved left
    (λ is. ap (λ (b : Bool). remaining page (cond b k (kept_after_undo_redo k which))) (sym is)) refl in
    ap (λ h. grid_with_paints (grid h) (paints (e ∷ []))) (sym before) ∙ one_shown e ∙ ap grid after

pub line_shown : (listed : Bool) (line : ℕ) (page : List Command) (k : KeptEdits) (step : Step)
    → grid_with_paints (grid (remaining page k)) (paints (line_events listed line page k step))
    ≡ grid (remaining page (kept_after k step))
line_shown listed line page k (UndoRedo which) = undo_redo_shown listed line page k which
line_shown listed line page k (Edit commands) =
    edit_shown listed line (remaining page k) commands ∙ ap grid (sym (remaining-edit page k commands))
