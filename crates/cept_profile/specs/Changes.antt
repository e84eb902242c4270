-- Changes (own): the places at which two grids of looks differ, and the painting of places.
use Rattle.std.specs.Prelude.{◌≡◌, ◌≢◌, ℕ, ◌<◌, ◌⊎◌, Bool, not, false, List, [], ◌∷◌, ◌++◌, map, filter, slice_index_or}
use Rattle.std.specs.Prelude.{if◌then◌else◌}
use Rattle.std.specs.List.{range_with_len, All, AllPairs, Contains}
use Rattle.cept_codes.specs.declared.command.Command.{Command}
use Rattle.cept_codes.specs.declared.look.Look.{Look}
use Rattle.cept_codes.specs.Look.{blank_look}
use Rattle.cept_codes.specs.Place.{Place, OnScreen, number, place_of}
use Rattle.cept_codes.specs.Same.{same_look}
use Rattle.cept_codes.specs.Table.{table, value_at}
use Rattle.cept_profile.specs.Cells.{is_at}
use Rattle.cept_profile.specs.Look.{grid}

-- the look of a grid at a place
abbrev pub look_at : List (List Look) → Place → Look
look_at g p = value_at blank_look g p.row p.column

-- for each place in reading order, whether the looks of g and of h differ there: the marks
unfoldable pub differences : List (List Look) → List (List Look) → List Bool
differences g h = map (λ n. not (same_look (look_at g (place_of n)) (look_at h (place_of n)))) (range_with_len 0 960)

-- the marked places in reading order, each with its look in g
unfoldable pub marked_looks : List Bool → List (List Look) → List (Place × Look)
marked_looks marks g =
    map (λ n. (place_of n, look_at g (place_of n)))
    (filter (λ n. slice_index_or marks n false) (range_with_len 0 960))

-- those of them whose numbers are below n
unfoldable pub marked_looks_below : List Bool → List (List Look) → ℕ → List (Place × Look)
marked_looks_below marks g n =
    map (λ k. (place_of k, look_at g (place_of k))) (filter (λ k. slice_index_or marks k false) (range_with_len 0 n))

-- the places at which g and h differ, in reading order, each with its look in h
abbrev pub changes_between : List (List Look) → List (List Look) → List (Place × Look)
changes_between g h = marked_looks (differences g h) h

-- a grid with one place painted
abbrev pub grid_with_paint : List (List Look) → Place → Look → List (List Look)
grid_with_paint g p l = table (λ r c. if is_at p r c then l else value_at blank_look g r c)

-- and with several painted one after the other
unfoldable pub grid_with_paints : List (List Look) → List (Place × Look) → List (List Look)
grid_with_paints g [] = g
grid_with_paints g (x ∷ xs) = grid_with_paints (grid_with_paint g x.0 x.1) xs

-- what one more command changes
abbrev pub changes : List Command → Command → List (Place × Look)
changes history command = changes_between (grid history) (grid (history ++ command ∷ []))

-- the place comes before the other in reading order
abbrev pub IsBefore : Place → Place → Type 0
IsBefore p q = number p.row p.column < number q.row q.column

-- the list names each place at which the looks of g and of h differ, with its look in h, and no other place; it names
-- each once, in reading order
pub record AreChanges (g h : List (List Look)) (xs : List (Place × Look)) : Type 0 where
  pub on_screen : All (λ x. OnScreen x.0.row x.0.column) xs
  pub new_looks : All (λ x. x.1 ≡ look_at h x.0) xs
  pub differ : All (λ x. look_at g x.0 ≢ look_at h x.0) xs
  pub in_order : AllPairs (λ x y. IsBefore x.0 y.0) xs
  pub each : (p : Place) → OnScreen p.row p.column → Contains xs (p, look_at h p) ⊎ (look_at g p ≡ look_at h p)
