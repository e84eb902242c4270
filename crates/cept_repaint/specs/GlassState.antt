-- Glasses (this project's own): what a glass shows, and the paints that it was given.
use Rattle.std.specs.Prelude.{◌≡◌, ℕ, Bool, false, Option, Some, List, [], ◌∷◌, ◌++◌, map, filter}
use Rattle.std.specs.List.{range_with_len}
use Rattle.cept_codes.specs.declared.look.Look.{Look}
use Rattle.cept_codes.specs.Look.{blank_look}
use Rattle.cept_codes.specs.Place.{Place}
use Rattle.cept_codes.specs.Table.{entry, value_at}
use Rattle.cept_profile.specs.Changes.{grid_with_paint, grid_with_paints}

-- the look at each place, and all paints in their order, where they are told
pub record GlassState : Type 0 where
  pub grid : List (List Look)
  pub paints : Option (List (Place × Look))

-- what is told afterwards is what was told before, with this list after it
pub record Lists (before : Option (List (Place × Look))) (list : List (Place
    × Look)) (after : Option (List (Place × Look))) : Type 0 where
  pub told : (now : List (Place × Look)) → after ≡ Some now
      → (former : List (Place × Look)) × (before ≡ Some former) × (now ≡ former ++ list)

-- one paint: this look at this place of the grid and at no other, and one more in the list
pub record Paints (old : GlassState) (place : Place) (shown : Look) (new : GlassState) : Type 0 where
  pub grid : new.grid ≡ grid_with_paint old.grid place shown
  pub listed : Lists old.paints ((place, shown) ∷ []) new.paints

-- the place in this row and column, with its look in a grid
abbrev pub place_with_look : List (List Look) → ℕ → ℕ → Place × Look
place_with_look g r c = (record { row = r; column = c }, value_at blank_look g r c)

-- the places of a row in its flagged columns, from the left, each with its look in a grid
unfoldable pub flagged_looks : List Bool → ℕ → List (List Look) → List (Place × Look)
flagged_looks flags r g =
    filter (λ x. entry false 1 flags x.0.column) (map (place_with_look g r) (range_with_len 1 40))

-- paints of a row: its looks in a grid at its flagged columns and at no other place, and these in the list, from the left
pub record PaintsRow (old : GlassState) (flags : List Bool) (r : ℕ) (shown : List (List Look)) (new : GlassState)
    : Type 0 where
  pub grid : new.grid ≡ grid_with_paints old.grid (flagged_looks flags r shown)
  pub listed : Lists old.paints (flagged_looks flags r shown) new.paints
