-- The lines of phases, turn by turn.
use Rattle.std.proofs.Common.{◌≡◌, ℕ, ◌+◌, ◌-◌, ◌<◌, ◌%◌, List, [], ◌++◌, refl, sym, ◌∙◌, ap, subst, arith}
use Rattle.std.proofs.Common.{append_assoc, append-nil, Bool}
use Rattle.cept_codes.specs.declared.look.Look.{Look}
use Rattle.cept_codes.specs.Look.{blank_look}
use Rattle.cept_codes.specs.Table.{table}
use Rattle.cept_flash.specs.Flashing.{FlashingGrid}
use Rattle.cept_flash.specs.Phases.{frame, next_phase}
use Rattle.cept_outside.specs.SinkState.{SinkState, Gains, GainsPart}
use Rattle.cept_outside.proofs.Laws.{Gains-nil, Gains-append}
use Rattle.cept_profile.specs.Changes.{differences, changes_between, marked_looks}
use Rattle.cept_report.specs.Phases.{turn_lines, phase_lines}
use Rattle.cept_report.specs.Text.{change_lines}
use Rattle.cept_report.proofs.LinesPut.{Gains-part}
use Rattle.cept_report.proofs.TextsInPieces.{pieces, pieces-none, pieces-more, pieces-go_on}

-- the lines of the start
unfoldable pub start_lines : List (List Look) → List ℕ
start_lines g = change_lines 0 (changes_between (table (λ _ _. blank_look)) (frame g 0))

-- those of the start and of the first turns
unfoldable pub lines_so_far : List (List Look) → ℕ → List ℕ
lines_so_far g n = start_lines g ++ pieces (turn_lines g) 1 n

pub phase_lines-is : (g : List (List Look)) (turns : ℕ) → phase_lines g turns ≡ lines_so_far g turns
unfolding phase_lines lines_so_far start_lines pieces
phase_lines-is g turns = refl

so_far-none : (g : List (List Look)) → lines_so_far g 0 ≡ start_lines g
unfolding lines_so_far
so_far-none g = ap (λ l. start_lines g ++ l) (pieces-none (turn_lines g) 1) ∙ append-nil (start_lines g)

so_far-more : (g : List (List Look)) (n : ℕ) → lines_so_far g (n + 1) ≡ lines_so_far g n ++ turn_lines g (1 + n)
unfolding lines_so_far
so_far-more g n =
    ap (λ l. start_lines g ++ l) (pieces-more (turn_lines g) 1 n)
    ∙ sym (append_assoc (start_lines g) (pieces (turn_lines g) 1 n) (turn_lines g (1 + n)))

so_far-go_on : (g : List (List Look)) (n m : ℕ) → n < m
    → (rest : List ℕ) × (lines_so_far g m ≡ (lines_so_far g n ++ turn_lines g (1 + n)) ++ rest)
unfolding lines_so_far
so_far-go_on g n m h =
    let more = pieces-go_on (turn_lines g) 1 n m h in (
      more.0,
      ap (λ l. start_lines g ++ l) more.1
          ∙ sym (append_assoc (start_lines g) (pieces (turn_lines g) 1 n ++ turn_lines g (1 + n)) more.0)
          ∙ ap (λ l. l ++ more.0)
          (sym (append_assoc (start_lines g) (pieces (turn_lines g) 1 n) (turn_lines g (1 + n)))),
    )

-- the start's lines, and a turn's, by the marks and what is seen
pub start-is : (g : List (List Look)) (marks : List Bool) (b : FlashingGrid) → b.looks ≡ g → b.phase ≡ 0
    → marks ≡ differences (table (λ _ _. blank_look)) (frame g 0)
    → change_lines 0 (marked_looks marks (frame b.looks b.phase)) ≡ start_lines g
unfolding start_lines
start-is g marks b looks phase is i =
    change_lines 0 (marked_looks (is i) (frame (looks i) (phase i)))

-- the phase after so many turns, and one more
pub phase_after : (n k : ℕ) → k ≡ next_phase (n % 6) → k ≡ (1 + n) % 6
phase_after n k is = omega (arith, is)

pub turn-is : (g : List (List Look)) (marks : List Bool) (old new : FlashingGrid) (n label : ℕ) → label ≡ n + 1
    → old.looks ≡ g
    → old.phase ≡ n % 6 → new.looks ≡ old.looks → new.phase ≡ next_phase old.phase
    → marks ≡ differences (frame old.looks old.phase) (frame new.looks new.phase)
    → change_lines label (marked_looks marks (frame new.looks new.phase)) ≡ turn_lines g (1 + n)
unfolding turn_lines
turn-is g marks old new n label named looks phase stays next is =
    let before : old.phase ≡ ((1 + n) - 1) % 6 = phase ∙ ap (λ k. k % 6) (let e : n ≡ (1 + n) - 1 = omega arith in e) in
    let after : new.phase ≡ (1 + n) % 6 = phase_after n new.phase (next ∙ ap next_phase phase) in
    ap (λ k. change_lines k (marked_looks marks (frame new.looks new.phase)))
    (let e : label ≡ 1 + n = omega (arith, named) in e)
    ∙ ap (λ m. change_lines (1 + n) (marked_looks m (frame new.looks new.phase))) is
    ∙ (λ i. change_lines (1 + n) (marked_looks (differences (frame (looks i) (before i))
    (frame ((stays ∙ looks) i) (after i))) (frame ((stays ∙ looks) i) (after i))))

-- ---- what was put

pub Gains-start : (s t : SinkState) (g : List (List Look)) (text : List ℕ) → text ≡ start_lines g → Gains s text t
    → Gains s (lines_so_far g 0) t
Gains-start s t g text is gains = subst (λ (l : List ℕ). Gains s l t) (is ∙ sym (so_far-none g)) gains

pub Gains-start_failed : (s t : SinkState) (g : List (List Look)) (turns : ℕ) (text : List ℕ) → text ≡ start_lines g
    → GainsPart s text t → GainsPart s (phase_lines g turns) t
unfolding lines_so_far
Gains-start_failed s t g turns text is part =
    Gains-part s s t (phase_lines g turns) [] text (pieces (turn_lines g) 1 turns)
    (phase_lines-is g turns ∙ front) (Gains-nil s) part
  where
    front : lines_so_far g turns ≡ ([] ++ text) ++ pieces (turn_lines g) 1 turns
    front = ap (λ l. l ++ pieces (turn_lines g) 1 turns) (sym is)

pub Gains-turn : (s t u : SinkState) (g : List (List Look)) (n : ℕ) (text : List ℕ) → text ≡ turn_lines g (1 + n)
    → Gains s (lines_so_far g n) t → Gains t text u → Gains s (lines_so_far g (n + 1)) u
Gains-turn s t u g n text is before now =
    subst (λ (l : List ℕ). Gains s l u) (ap (λ l. lines_so_far g n ++ l) is ∙ sym (so_far-more g n))
    (Gains-append s t u (lines_so_far g n) text before now)

pub Gains-turn_failed : (s t u : SinkState) (g : List (List Look)) (n turns : ℕ) (text : List ℕ) → n < turns
    → text ≡ turn_lines g (1 + n) → Gains s (lines_so_far g n) t → GainsPart t text u
    → GainsPart s (phase_lines g turns) u
Gains-turn_failed s t u g n turns text h is before part =
    let more = so_far-go_on g n turns h in
    Gains-part s t u (phase_lines g turns) (lines_so_far g n) text more.0
    (phase_lines-is g turns ∙ more.1 ∙ ap (λ l. (lines_so_far g n ++ l) ++ more.0) (sym is)) before part

pub Gains-turns : (s t : SinkState) (g : List (List Look)) (n turns : ℕ) → n ≡ turns → Gains s (lines_so_far g n) t
    → Gains s (phase_lines g turns) t
Gains-turns s t g n turns e gains =
    subst (λ (l : List ℕ). Gains s l t) (ap (lines_so_far g) e ∙ sym (phase_lines-is g turns)) gains
