-- The places that aren't blank at the first phase.
use Rattle.std.proofs.Common.{◌≡◌, ℕ, ◌<◌, ◌≤◌, Bool, false, not, List, ap, ◌∙◌, sym, arith}
use Rattle.std.proofs.lemmas.List.FromFn.{fill_by_all}
use Rattle.cept_codes.specs.declared.look.Look.{Look}
use Rattle.cept_codes.specs.Look.{blank_look}
use Rattle.cept_codes.specs.Place.{place_of}
use Rattle.cept_codes.specs.Same.{same_look}
use Rattle.cept_codes.specs.Table.{table}
use Rattle.cept_codes.proofs.Laws.{OnScreen-place_of, value_at-table}
use Rattle.cept_flash.specs.Phases.{frame, look_at_phase}
use Rattle.cept_flash.proofs.MarkedInTurn.{AreMarkedBelow}
use Rattle.cept_flash.proofs.TurnedPlaces.{look_at-frame}
use Rattle.cept_flash.proofs.TurningLooks.{symmetric}
use Rattle.cept_profile.specs.Changes.{differences, look_at}

-- the look of the place with this number isn't blank at phase 0
abbrev pub is_shown : List (List Look) → ℕ → Bool
is_shown looks n = not (same_look (look_at_phase (look_at looks (place_of n)) 0) blank_look)

pub look_at-blank : (n : ℕ) → n < 960 → look_at (table (λ _ _. blank_look)) (place_of n) ≡ blank_look
look_at-blank n below =
    value_at-table (λ _ _. blank_look) blank_look (place_of n).row (place_of n).column (OnScreen-place_of n below)

pub shown_differ : (looks : List (List Look)) (marks : List Bool) (n : ℕ) → 960 ≤ n
    → AreMarkedBelow (is_shown looks) marks n → marks ≡ differences (table (λ _ _. blank_look)) (frame looks 0)
unfolding differences
shown_differ looks marks n high was =
    fill_by_all (λ k. not (same_look (look_at (table (λ _ _. blank_look)) (place_of k)) (look_at (frame looks 0) (place_of k))))
    marks 960 false was.places
    (λ k below.
    was.made k (omega (arith, high, below)) below
    ∙ ap not (symmetric (look_at_phase (look_at looks (place_of k)) 0) blank_look)
    ∙ (λ i. not (same_look (sym (look_at-blank k below) i) (sym (look_at-frame looks 0 k below) i))))
