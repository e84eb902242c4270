-- The points of a line set one after the other, by two coordinates that go on with a running error.
use Rattle.std.proofs.Common.{◌≡◌, ℕ, ◌+◌, ◌<◌, ◌==◌, ◌&&◌, ◌||◌, Bool, true, false, List, [], ◌∷◌, map}
use Rattle.std.proofs.Common.{if◌then◌else◌, refl, sym, ap, ◌∙◌, inl, inr, arith}
use Rattle.std.specs.List.{range_with_len}
use Rattle.std.proofs.lemmas.Bool.{cases_eq, eq-eqb, ne_eqb}
use Rattle.std.proofs.lemmas.List.Folds.{list_any-append}
use Rattle.std.proofs.lemmas.List.FromFn.{map-range_with_len_more}
use Rattle.cept_plot.specs.declared.coordinate.Coordinate.{Coordinate}
use Rattle.cept_plot.specs.declared.coordinate.Slope.{Slope}
use Rattle.cept_plot.specs.declared.figure.Point.{Point}
use Rattle.cept_plot.specs.Figures.{is_among, is_on_line, is_point, on_the_way, point_on_the_way, points_of_line}
use Rattle.cept_plot.specs.Figures.{steps_of_line}
use Rattle.cept_plot.specs.inside.Lit.{IsSet}
use Rattle.cept_plot.specs.inside.Rounding.{IsSlope, IsUnderWay}
use Rattle.cept_plot.proofs.RegionSet.{IsSet-more, IsSet-same}
use Rattle.cept_plot.proofs.RoundedWay.{IsUnderWay-start, rounded_at}

-- the points from p to that of step i on the way of n steps to q
abbrev pub points_to : Point → Point → ℕ → ℕ → List Point
points_to p q n i = map (point_on_the_way p q n) (range_with_len 0 (i + 1))

-- they are set, and both coordinates are there
pub record IsDrawnTo (was now : List ℕ) (p q : Point) (n i : ℕ) (x y : Coordinate) (across down : Slope) : Type 0 where
  pub steps : n ≡ steps_of_line p q
  pub slope_across : IsSlope across p.x q.x n
  pub slope_down : IsSlope down p.y q.y n
  pub at_x : 0 < n → IsUnderWay x p.x q.x n i
  pub at_y : 0 < n → IsUnderWay y p.y q.y n i
  pub set : IsSet was now true (is_among (points_to p q n i))

or_false : (t : Bool) → t ≡ (t || false)
or_false true = refl
or_false false = refl

-- the point of a step, by its coordinates
point_by_coordinates : (p q : Point) (n i : ℕ) (x y : Coordinate) → 0 < n → IsUnderWay x p.x q.x n i
    → IsUnderWay y p.y q.y n i → (let w : Point = record { x = x.at; y = y.at } in w) ≡ point_on_the_way p q n i
point_by_coordinates p q n i x y some ux uy =
    (λ j. record { x = rounded_at x p.x q.x n i ux j; y = rounded_at y p.y q.y n i uy j })
    ∙ ap (λ t. if t then p else record { x = on_the_way p.x q.x n i; y = on_the_way p.y q.y n i })
    (sym (ne_eqb n 0 (λ e. omega (arith, e, some))))

-- the first point
first_point : (p q : Point) (n : ℕ) → p ≡ point_on_the_way p q n 0
first_point p q n = elim (cases_eq n 0) [
  | inl none ↦ ap (λ t. if t then p else record { x = on_the_way p.x q.x n 0; y = on_the_way p.y q.y n 0 }) (sym (eq-eqb n 0 none))
  | inr some ↦
      let more : 0 < n = omega (arith, some) in
      let cx : Coordinate = record { at = p.x; rest = n } in
      let cy : Coordinate = record { at = p.y; rest = n } in
      point_by_coordinates p q n 0 cx cy more (IsUnderWay-start cx p.x q.x n refl refl more)
      (IsUnderWay-start cy p.y q.y n refl refl more)
]

pub IsDrawnTo-start : (was now : List ℕ) (p q : Point) (n : ℕ) (x y : Coordinate) (across down : Slope)
    → n ≡ steps_of_line p q → IsSlope across p.x q.x n → IsSlope down p.y q.y n → x.at ≡ p.x → x.rest ≡ n
    → y.at ≡ p.y → y.rest ≡ n → IsSet was now true (λ px py. (px == p.x) && (py == p.y))
    → IsDrawnTo was now p q n 0 x y across down
IsDrawnTo-start was now p q n x y across down steps sa sd ax rx ay ry one = record {
  steps = steps;
  slope_across = sa;
  slope_down = sd;
  at_x = λ some. IsUnderWay-start x p.x q.x n ax rx some;
  at_y = λ some. IsUnderWay-start y p.y q.y n ay ry some;
  set = IsSet-same was now true (λ px py. (px == p.x) && (py == p.y)) (is_among (points_to p q n 0)) one
      (λ px py on. ap (λ (w : Point). is_point w px py) (first_point p q n)
      ∙ or_false (is_point (point_on_the_way p q n 0) px py));
}

among_more : (p q : Point) (n i px py : ℕ) → is_among (points_to p q n (i + 1)) px py
    ≡ (is_among (points_to p q n i) px py || is_point (point_on_the_way p q n (i + 1)) px py)
among_more p q n i px py =
    ap (λ (l : List Point). is_among l px py)
    (map-range_with_len_more (point_on_the_way p q n) 0 (i + 1) (i + 1) (omega arith))
    ∙ list_any-append (λ (w : Point). is_point w px py) (points_to p q n i) (point_on_the_way p q n (i + 1) ∷ [])
    ∙ ap (λ t. is_among (points_to p q n i) px py || t)
    (sym (or_false (is_point (point_on_the_way p q n (i + 1)) px py)))

pub IsDrawnTo-more : (was mid now : List ℕ) (p q : Point) (n i : ℕ) (x y nx ny : Coordinate) (across down : Slope)
    → IsDrawnTo was mid p q n i x y across down → i < n → IsUnderWay nx p.x q.x n (i + 1)
    → IsUnderWay ny p.y q.y n (i + 1) → IsSet mid now true (λ px py. (px == nx.at) && (py == ny.at))
    → IsDrawnTo was now p q n (i + 1) nx ny across down
IsDrawnTo-more was mid now p q n i x y nx ny across down drawn below ux uy one =
    let some : 0 < n = omega (arith, below) in
    record {
      steps = drawn.steps;
      slope_across = drawn.slope_across;
      slope_down = drawn.slope_down;
      at_x = λ _. ux;
      at_y = λ _. uy;
      set = IsSet-more was mid now true (is_among (points_to p q n i)) (λ px py. (px == nx.at) && (py == ny.at))
          (is_among (points_to p q n (i + 1))) drawn.set one
          (λ px py on. among_more p q n i px py
          ∙ ap (λ (w : Point). is_among (points_to p q n i) px py || is_point w px py)
          (sym (point_by_coordinates p q n (i + 1) nx ny some ux uy)));
    }

pub IsDrawnTo-all : (was now : List ℕ) (p q : Point) (n i : ℕ) (x y : Coordinate) (across down : Slope)
    → IsDrawnTo was now p q n i x y across down → i ≡ n → IsSet was now true (is_on_line p q)
unfolding points_of_line
IsDrawnTo-all was now p q n i x y across down drawn end =
    IsSet-same was now true (is_among (points_to p q n i)) (is_on_line p q) drawn.set
    (λ px py on. ap (λ k. is_among (points_to p q n k) px py) end
    ∙ ap (λ k. is_among (points_to p q k k) px py) drawn.steps)
