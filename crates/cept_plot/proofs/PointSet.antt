-- One point of a field set or unset.
use Rattle.std.proofs.Common.{◌≡◌, ◌≢◌, ℕ, ◌+◌, ◌*◌, ◌/◌, ◌<◌, ◌==◌, ◌&&◌, Bool, true, false, List, set, get_or, length, if◌then◌else◌}
use Rattle.std.proofs.Common.{refl, sym, ap, ◌∙◌, inl, inr, arith}
use Rattle.std.specs.Int.{bit_at}
use Rattle.std.proofs.lemmas.Bool.{and_parts, and_from, cases_eq, eqb-true, eq-eqb, true≢false}
use Rattle.std.proofs.lemmas.List.{get_or-set_other, get_or-set_same}
use Rattle.cept_codes.specs.Place.{number}
use Rattle.cept_plot.specs.Lit.{AreValues, is_lit}
use Rattle.cept_plot.specs.inside.Lit.{IsSet}
use Rattle.cept_plot.specs.Points.{block_of, column_of_point, has_weight, row_of_point}

pub AreValues-set : (was : List ℕ) (cell v : ℕ) → AreValues was → cell < length was → v < 64
    → AreValues (set was cell v)
AreValues-set was cell v small within below n = elim (cases_eq n cell) [
  | inl same ↦
      omega (arith, ap (λ k. get_or (set was cell v) k 0) same ∙ get_or-set_same was cell v 0 within, below)
  | inr apart ↦ omega (arith, get_or-set_other was cell n v 0 apart, small n)
]

-- the cell of a point takes a value that has or hasn't the weight of the point, and all other weights that it had
pub IsSet-point : (was : List ℕ) (a b cell v : ℕ) (lit : Bool) → a < 80 → b < 72 → length was ≡ 960
    → cell ≡ 40 * (b / 3) + a / 2 → has_weight v a b ≡ lit
    → ((k : ℕ) → k < 8 → k ≢ block_of a b → bit_at v k ≡ bit_at (get_or was cell 0) k)
    → IsSet was (set was cell v) lit (λ x y. (x == a) && (y == b))
IsSet-point was a b cell v lit across down places here same other x y on =
    by_test ((x == a) && (y == b)) refl
  where
    by_test : (t : Bool) → ((x == a) && (y == b)) ≡ t
        → is_lit (set was cell v) x y ≡ (if t then lit else is_lit was x y)
    by_test true t =
        let parts = and_parts (x == a) (y == b) t in
        let ex : x ≡ a = eqb-true x a parts.0 in
        let ey : y ≡ b = eqb-true y b parts.1 in
        let at : number (row_of_point y) (column_of_point x) ≡ cell = omega (arith, here, ex, ey) in
        ap (λ k. has_weight (get_or (set was cell v) k 0) x y) at
        ∙ ap (λ w. has_weight w x y) (get_or-set_same was cell v 0 (omega (arith, here, across, down, places)))
        ∙ (λ i. has_weight v (ex i) (ey i)) ∙ same
    by_test false t = elim (cases_eq (number (row_of_point y) (column_of_point x)) cell) [
      | inl at ↦
          let rows : y / 3 ≡ b / 3 = omega (arith, at, here, across, on.across) in
          let columns : x / 2 ≡ a / 2 = omega (arith, at, here, across, on.across) in
          let apart : block_of x y ≢ block_of a b = λ e.
          let ey : y ≡ b = omega (arith, e, rows) in
          let ex : x ≡ a = omega (arith, e, columns) in
          true≢false (sym (and_from (x == a) (y == b) (eq-eqb x a ex) (eq-eqb y b ey)) ∙ t) in
          ap (λ k. has_weight (get_or (set was cell v) k 0) x y) at
          ∙ ap (λ w. has_weight w x y) (get_or-set_same was cell v 0 (omega (arith, here, across, down, places)))
          ∙ ap (λ k. k == 1) (other (block_of x y) (omega arith) apart)
          ∙ ap (λ k. has_weight (get_or was k 0) x y) (sym at)
      | inr apart ↦
          ap (λ w. has_weight w x y)
          (get_or-set_other was cell (number (row_of_point y) (column_of_point x)) v 0 apart)
    ]
