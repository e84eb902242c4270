-- A list with room for two items.
use Rattle.std.proofs.Common.{◌≡◌, ◌+◌, ◌<◌, ◌≤◌, ℕ, List, [], ◌∷◌, ◌++◌, length, take, set, ap, ◌∙◌, arith}
use Rattle.std.proofs.lemmas.List.{length-take-le, take_more_set, take-set}
use Rattle.cept_codes.specs.declared.item.Item.{Item}

-- where fewer than two of them are taken, there is room
room_left : (is : List Item) (n : ℕ) → (n ≤ 2) × (length is ≡ 2) → length (take n is) < 2 → n < length is
room_left is n f l =
    let e : length (take n is) ≡ n = length-take-le n is (rw f.1 f.0) in
    omega (arith, f.1)

-- an item is put after those that are taken
pub one_more : (is v : List Item) (n : ℕ) (i : Item) → (n ≤ 2) × (length is ≡ 2) → take n is ≡ v → length v < 2
    → take (n + 1) (set is n i) ≡ v ++ i ∷ []
one_more is v n i f e l =
    take_more_set is n i (room_left is n f (rw e l)) ∙ ap (λ (w : List Item). w ++ i ∷ []) e

-- an item in the room after them changes nothing
pub no_more : (is v : List Item) (n : ℕ) (i : Item) → take n is ≡ v → take n (set is n i) ≡ v
no_more is v n i e = take-set is n i ∙ e
