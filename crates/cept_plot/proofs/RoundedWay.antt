-- A running error along a way: after each step it gives the number that is rounded by itself.
use Rattle.std.proofs.Common.{◌≡◌, ℕ, Bool, ◌+◌, ◌-◌, ◌*◌, ◌/◌, ◌<◌, ◌≤◌, true, false, nat_le, refl, sym, ap, ◌∙◌, arith, inl, inr}
use Rattle.std.proofs.lemmas.Bool.{cases_lt, leb-true, leb-false}
use Rattle.std.proofs.lemmas.Nat.{div-mul-add, mul-le}
use Rattle.std.proofs.Math.Nat.{mul_comm}
use Rattle.cept_plot.specs.declared.coordinate.Coordinate.{Coordinate}
use Rattle.cept_plot.specs.declared.coordinate.Slope.{Slope}
use Rattle.cept_plot.specs.Figures.{on_the_way}
use Rattle.cept_plot.specs.inside.Rounding.{IsSlope, IsUnderWay}

-- a step of a sum of shares
pub share_up : (m i a b : ℕ) → a ≤ b
    → 2 * ((m + 1) * a + i * b) + 2 * (b - a) ≡ 2 * (m * a + (i + 1) * b)
share_up m i a b up = omega arith

pub share_down : (m i a b : ℕ) → b ≤ a
    → 2 * ((m + 1) * a + i * b) ≡ 2 * (m * a + (i + 1) * b) + 2 * (a - b)
share_down m i a b down = omega arith

-- at the start
pub IsUnderWay-start : (c : Coordinate) (a b n : ℕ) → c.at ≡ a → c.rest ≡ n → 0 < n → IsUnderWay c a b n 0
IsUnderWay-start c a b n at rest some = record {
  sum = ap (λ k. 2 * n * k + c.rest) at ∙ (let e : 2 * n * a + c.rest ≡ 2 * (n * a + 0 * b) + n = omega (arith, rest) in e)
      ∙ ap (λ k. 2 * (k * a + 0 * b) + n) (let e : n ≡ n - 0 = omega arith in e);
  rest = omega (arith, rest, some);
}

-- the number is the one that is rounded by itself
pub rounded_at : (c : Coordinate) (a b n i : ℕ) → IsUnderWay c a b n i → c.at ≡ on_the_way a b n i
rounded_at c a b n i way =
    sym (div-mul-add c.at (2 * n) c.rest way.rest)
    ∙ ap (λ k. k / (2 * n)) (ap (λ k. k + c.rest) (mul_comm c.at (2 * n)) ∙ way.sum)

-- one step further, by how the sum goes on
pub IsUnderWay-next : (c d : Coordinate) (s : Slope) (a b n i : ℕ) → IsSlope s a b n → IsUnderWay c a b n i → i < n
    → (s.rises ≡ true → s.whole * d.at + d.rest ≡ s.whole * c.at + c.rest + s.part)
    → (s.rises ≡ false → s.whole * d.at + d.rest + s.part ≡ s.whole * c.at + c.rest)
    → d.rest < s.whole → IsUnderWay d a b n (i + 1)
IsUnderWay-next c d s a b n i slope way below up down rest = record {
  sum = by_way (nat_le a b) refl;
  rest = omega (arith, rest, slope.whole);
}
  where
    shares : (n - (i + 1)) + 1 ≡ n - i
    shares = omega (arith, below)

    by_way : (t : Bool) → nat_le a b ≡ t
        → 2 * n * d.at + d.rest ≡ 2 * ((n - (i + 1)) * a + (i + 1) * b) + n
    by_way true t =
        let le : a ≤ b = leb-true a b t in
        let part : s.part ≡ 2 * (b - a) = omega (arith, slope.part, le) in
        let step = share_up (n - (i + 1)) i a b le in
        let here = ap (λ k. 2 * (k * a + i * b)) shares in
        let goes = up (slope.rises ∙ t) in
        let now = ap (λ k. k * d.at) slope.whole in
        let was = ap (λ k. k * c.at) slope.whole in
        omega (arith, part, step, here, goes, now, was, way.sum)
    by_way false t =
        let le : b ≤ a = omega (arith, leb-false a b t) in
        let part : s.part ≡ 2 * (a - b) = omega (arith, slope.part, le) in
        let step = share_down (n - (i + 1)) i a b le in
        let here = ap (λ k. 2 * (k * a + i * b)) shares in
        let goes = down (slope.rises ∙ t) in
        let now = ap (λ k. k * d.at) slope.whole in
        let was = ap (λ k. k * c.at) slope.whole in
        omega (arith, part, step, here, goes, now, was, way.sum)

pub room_below : (c : Coordinate) (s : Slope) (a b n i : ℕ) → IsSlope s a b n → IsUnderWay c a b n i → i < n
    → s.rises ≡ false → c.rest < s.part → 0 < c.at
room_below c s a b n i slope way below falls under =
    let le : b ≤ a = omega (arith, leb-false a b (sym slope.rises ∙ falls)) in
    let part : s.part ≡ 2 * (a - b) = omega (arith, slope.part, le) in
    let shares : (n - (i + 1)) + 1 ≡ n - i = omega (arith, below) in
    let step = share_down (n - (i + 1)) i a b le in
    let here = ap (λ k. 2 * (k * a + i * b)) shares in
    elim (cases_lt 0 c.at) [
      | inl up ↦ up
      | inr none ↦
          let zero_at : c.at ≡ 0 = omega (arith, none) in
          let sum = ap (λ k. 2 * n * k) zero_at in
          absurd (omega (arith, part, step, here, way.sum, under, sum, below))
    ]

-- the number stays below a bound of both ends
pub at_below : (c : Coordinate) (a b n i bound : ℕ) → IsUnderWay c a b n i → i ≤ n → 0 < n → a ≤ bound → b ≤ bound
    → c.at ≤ bound
at_below c a b n i bound way below some first last =
    let m : ℕ = n - i in
    let shares : m + i ≡ n = omega (arith, below) in
    let left = mul-le m a m bound (omega arith) first in
    let right = mul-le i b i bound (omega arith) last in
    let all = ap (λ k. k * bound) shares in
    elim (cases_lt bound c.at) [
      | inl over ↦
          let more : bound + 1 ≤ c.at = omega (arith, over) in
          let high = mul-le n (bound + 1) n c.at (omega arith) more in
          absurd (omega (arith, left, right, all, high, way.sum, some))
      | inr within ↦ within
    ]
