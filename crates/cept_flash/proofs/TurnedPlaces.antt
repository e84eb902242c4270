-- The places marked whose looks differ at two phases, where those that flash are gone through.
use Rattle.std.proofs.Common.{◌≡◌, ◌≢◌, ℕ, ◌+◌, ◌<◌, ◌≤◌, ◌&&◌, Bool, true, false, not, List, length, set, slice_index_or, refl, sym, ap, ◌∙◌}
use Rattle.std.proofs.Common.{inl, inr, arith}
use Rattle.std.proofs.lemmas.Bool.{and_parts, cases_eq, false_from_ne_true, true≢false}
use Rattle.std.proofs.Math.Bool.{not-not}
use Rattle.std.proofs.lemmas.List.{get_or-set_other, get_or-set_same, length-set}
use Rattle.std.proofs.lemmas.List.FromFn.{fill_by_all}
use Rattle.cept_codes.specs.declared.look.Look.{Look}
use Rattle.cept_codes.specs.Look.{blank_look}
use Rattle.cept_codes.specs.Place.{number, place_of}
use Rattle.cept_codes.specs.Same.{same_look}
use Rattle.cept_codes.specs.Table.{value_at}
use Rattle.cept_codes.proofs.Laws.{OnScreen-place_of, number-lt, number-place_of, place_of-number, value_at-table}
use Rattle.cept_flash.specs.declared.blink.Flashing.{Flashing}
use Rattle.cept_flash.specs.Flashing.{AreFlashing, IsFlashing, flashing_at}
use Rattle.cept_flash.specs.Phases.{frame, look_at_phase}
use Rattle.cept_flash.specs.SeenFlashing.{flashes_seen}
use Rattle.cept_flash.specs.inside.SeenFlashing.{turns}
use Rattle.cept_flash.proofs.MarkedInTurn.{is_marked-no_marks, length-no_marks}
use Rattle.cept_flash.proofs.TurningLooks.{same_at_phases}
use Rattle.cept_profile.specs.Changes.{differences, look_at}
use Rattle.cept_redraw.specs.Marks.{is_marked, no_marks}

-- the look of the place with this number differs at the phases
abbrev pub turns_at : List (List Look) → ℕ → ℕ → ℕ → Bool
turns_at looks k m n =
    flashes_seen (look_at looks (place_of n)) && turns (look_at looks (place_of n)).flash k m

-- only places that turn are marked, and of the first i that flash all that turn
pub record AreTurned (looks : List (List Look)) (k m : ℕ) (list : List Flashing) (marks : List Bool) (i : ℕ) : Type 0 where
  pub places : length marks ≡ 960
  pub only : (n : ℕ) → n < 960 → is_marked marks n ≡ true → turns_at looks k m n ≡ true
  pub each : (j : ℕ) (d : Flashing) → j < i → j < length list → turns (slice_index_or list j d).flash k m ≡ true
      → is_marked marks (number (slice_index_or list j d).at.row (slice_index_or list j d).at.column) ≡ true

pub AreTurned-none : (looks : List (List Look)) (k m : ℕ) (list : List Flashing) (marks : List Bool) → marks ≡ no_marks
    → AreTurned looks k m list marks 0
AreTurned-none looks k m list marks e = record {
  places = ap (λ (l : List Bool). length l) e ∙ length-no_marks;
  only = λ n below marked.
      absurd (true≢false (sym marked ∙ ap (λ (l : List Bool). is_marked l n) e ∙ is_marked-no_marks n));
  each = λ j d up within turn. absurd (omega (arith, up));
}

-- one place more, which turns
pub AreTurned-marked : {looks : List (List Look)} {k m : ℕ} {list : List Flashing} {marks : List Bool} (now : List Bool)
    (f : Flashing) (n i : ℕ) → AreTurned looks k m list marks i → IsFlashing looks f
    → ((d : Flashing) → slice_index_or list i d ≡ f) → n ≡ number f.at.row f.at.column → now ≡ set marks n true
    → turns f.flash k m ≡ true → AreTurned looks k m list now (i + 1)
AreTurned-marked {looks} {k} {m} {list} {marks} now f n i was is here en e turn =
    let below : n < 960 = omega (arith, en, number-lt f.at.row f.at.column is.on_screen) in
    let place : place_of n ≡ f.at = ap place_of en ∙ place_of-number f.at is.on_screen in
    let itself : is_marked now n ≡ true =
    ap (λ (l : List Bool). is_marked l n) e ∙ get_or-set_same marks n true false (omega (arith, was.places, below)) in
    record {
      places = ap (λ (l : List Bool). length l) e ∙ length-set marks n true ∙ was.places;
      only = λ j within marked. elim (cases_eq j n) [
        | inl same ↦
            let look : look_at looks (place_of j) ≡ look_at looks f.at = ap (look_at looks) (ap place_of same ∙ place) in
            (λ t. flashes_seen (look t) && turns (look t).flash k m)
            ∙ (λ t. is.seen t && turns (sym is.flash t) k m) ∙ turn
        | inr apart ↦
            was.only j within
            (sym (ap (λ (l : List Bool). is_marked l j) e ∙ get_or-set_other marks n j true false apart) ∙ marked)
      ];
      each = λ j d up within turning. elim (cases_eq (number (slice_index_or list j d).at.row
          (slice_index_or list j d).at.column) n) [
            | inl same ↦ ap (is_marked now) same ∙ itself
            | inr apart ↦
                let earlier : j ≢ i = λ same.
                apart (ap (λ (g : Flashing). number g.at.row g.at.column)
                (ap (λ t. slice_index_or list t d) same ∙ here d) ∙ sym en) in
                ap (λ (l : List Bool). is_marked l (number (slice_index_or list j d).at.row
                (slice_index_or list j d).at.column)) e
                ∙ get_or-set_other marks n (number (slice_index_or list j d).at.row (slice_index_or list j d).at.column)
                true false apart
                ∙ was.each j d (omega (arith, up, earlier)) within turning
          ];
    }

-- one that doesn't
pub AreTurned-left : {looks : List (List Look)} {k m : ℕ} {list : List Flashing} {marks : List Bool} (f : Flashing) (i : ℕ)
    → AreTurned looks k m list marks i → ((d : Flashing) → slice_index_or list i d ≡ f) → turns f.flash k m ≡ false
    → AreTurned looks k m list marks (i + 1)
AreTurned-left {looks} {k} {m} {list} {marks} f i was here stays = record {
  places = was.places;
  only = was.only;
  each = λ j d up within turning. elim (cases_eq j i) [
    | inl same ↦
        let found : slice_index_or list j d ≡ f = ap (λ t. slice_index_or list t d) same ∙ here d in
        absurd (true≢false (sym turning ∙ ap (λ (g : Flashing). turns g.flash k m) found ∙ stays))
    | inr apart ↦ was.each j d (omega (arith, up, apart)) within turning
  ];
}

-- the look of a place at a phase
pub look_at-frame : (looks : List (List Look)) (k n : ℕ) → n < 960
    → look_at (frame looks k) (place_of n) ≡ look_at_phase (look_at looks (place_of n)) k
unfolding frame
look_at-frame looks k n below =
    value_at-table (λ r c. look_at_phase (value_at blank_look looks r c) k) blank_look (place_of n).row
    (place_of n).column (OnScreen-place_of n below)

-- the marks that the differences have
differs_at : (looks : List (List Look)) (k m n : ℕ) → n < 960
    → not (same_look (look_at (frame looks k) (place_of n)) (look_at (frame looks m) (place_of n)))
    ≡ turns_at looks k m n
differs_at looks k m n below =
    (λ t. not (same_look (look_at-frame looks k n below t) (look_at-frame looks m n below t)))
    ∙ ap not (same_at_phases (look_at looks (place_of n)) k m) ∙ not-not (turns_at looks k m n)

pub AreTurned-all : {looks : List (List Look)} {k m : ℕ} {list : List Flashing} {marks : List Bool} (i : ℕ)
    → AreTurned looks k m list marks i → length list ≤ i → AreFlashing looks list 960
    → marks ≡ differences (frame looks k) (frame looks m)
unfolding differences
AreTurned-all {looks} {k} {m} {list} {marks} i was all flashing =
    fill_by_all (λ n. not (same_look (look_at (frame looks k) (place_of n)) (look_at (frame looks m) (place_of n))))
    marks 960 false was.places
    (λ n below. by_test n below (turns_at looks k m n) refl ∙ sym (differs_at looks k m n below))
  where
    by_test : (n : ℕ) → n < 960 → (x : Bool) → turns_at looks k m n ≡ x → is_marked marks n ≡ turns_at looks k m n
    by_test n below false t =
        false_from_ne_true (is_marked marks n) (λ marked. true≢false (sym (was.only n below marked) ∙ t)) ∙ sym t
    by_test n below true t =
        let l : Look = look_at looks (place_of n) in
        let parts = and_parts (flashes_seen l) (turns l.flash k m) t in
        let found = flashing.each n below parts.0 in
        let f : Flashing = flashing_at looks (place_of n) in
        let here : slice_index_or list found.0 f ≡ f = found.2 f in
        let marked = was.each found.0 f (omega (arith, all, found.1)) found.1
        (ap (λ (g : Flashing). turns g.flash k m) here ∙ parts.1) in
        sym (ap (λ (g : Flashing). is_marked marks (number g.at.row g.at.column)) here
        ∙ ap (is_marked marks) (number-place_of n)) ∙ marked ∙ sym t
