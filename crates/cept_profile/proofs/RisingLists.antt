-- Lists in strictly rising order: the same elements make the same list.
use Rattle.std.proofs.Common.{◌≡◌, ℕ, ◌<◌, ◌⊎◌, zero, suc, List, [], ◌∷◌, refl, sym, ◌∙◌, ap, inl, inr, arith}
use Rattle.std.specs.List.{All, AllPairs, Contains}
use Rattle.std.proofs.lemmas.List.Elements.{All-contains, Contains-append_right}

-- an element is the first or a later one
Contains-cases : {X : Type 0} (y : X) (ys : List X) (x : X) → Contains (y ∷ ys) x → (y ≡ x) ⊎ Contains ys x
Contains-cases y ys x (zero, within, is) = inl is
Contains-cases y ys x (suc k, within, is) = inr (k, omega arith, is)

Contains-later : {X : Type 0} (y : X) (ys : List X) (x : X) → Contains ys x → Contains (y ∷ ys) x
Contains-later y ys x there = Contains-append_right (y ∷ []) ys x there

Contains-none : {X : Type 0} (x : X) → Contains [] x → ⊥
Contains-none x (k, within, is) = absurd (omega arith)

module _ {X : Type 0} (number : X → ℕ) where
  -- each number is below all later ones
  abbrev pub IsRising : List X → Type 0
  IsRising xs = AllPairs (λ x y. number x < number y) xs

  IsRising-tail : (x : X) (xs : List X) → IsRising (x ∷ xs) → IsRising xs
  IsRising-tail x xs up i j d lt within = up (suc i) (suc j) d (omega arith) (omega arith)

  IsRising-head : (x : X) (xs : List X) → IsRising (x ∷ xs) → All (λ y. number x < number y) xs
  IsRising-head x xs up k d within = up 0 (suc k) d (omega arith) (omega arith)

  -- the first of two such lists is the same
  same_first : (x : X) (xs : List X) (y : X) (ys : List X) → IsRising (x ∷ xs) → IsRising (y ∷ ys)
      → Contains (y ∷ ys) x → Contains (x ∷ xs) y → x ≡ y
  same_first x xs y ys up_x up_y x_there y_there = elim (Contains-cases y ys x x_there) [
    | inl same ↦ sym same
    | inr x_later ↦ elim (Contains-cases x xs y y_there) [
      | inl same ↦ same
      | inr y_later ↦
          let below_x : number y < number x = All-contains (λ z. number y < number z) ys x
          (IsRising-head y ys up_y) x_later in
          let below_y : number x < number y = All-contains (λ z. number x < number z) xs y
          (IsRising-head x xs up_x) y_later in
          absurd (omega arith)
    ]
  ]

  -- what stands after the first of one stands after the first of the other
  later_there : (x : X) (xs : List X) (y : X) (ys : List X) → IsRising (x ∷ xs) → x ≡ y
      → ((z : X) → Contains (x ∷ xs) z → Contains (y ∷ ys) z) → (z : X) → Contains xs z → Contains ys z
  later_there x xs y ys up same there z z_later = elim
      (Contains-cases y ys z (there z (Contains-later x xs z z_later))) [
        | inl first ↦
            let below : number x < number z = All-contains (λ w. number x < number w) xs z
            (IsRising-head x xs up) z_later in
            let equal : number x ≡ number z = ap number (same ∙ first) in
            absurd (omega arith)
        | inr later ↦ later
      ]

  pub same_rising : (xs ys : List X) → IsRising xs → IsRising ys → ((z : X) → Contains xs z → Contains ys z)
      → ((z : X) → Contains ys z → Contains xs z) → xs ≡ ys
  same_rising [] [] up_x up_y there back = refl
  same_rising [] (y ∷ ys) up_x up_y there back = absurd (Contains-none y (back y (0, omega arith, refl)))
  same_rising (x ∷ xs) [] up_x up_y there back = absurd (Contains-none x (there x (0, omega arith, refl)))
  same_rising (x ∷ xs) (y ∷ ys) up_x up_y there back =
      let same : x ≡ y = same_first x xs y ys up_x up_y (there x (0, omega arith, refl))
      (back y (0, omega arith, refl)) in
      let rest : xs ≡ ys = same_rising xs ys (IsRising-tail x xs up_x) (IsRising-tail y ys up_y)
      (later_there x xs y ys up_x same there) (later_there y ys x xs up_y (sym same) back) in
      λ i. same i ∷ rest i
