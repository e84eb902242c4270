-- A coordinate on its way from one number to another in equal steps (this project's own).
use Rattle.std.specs.Prelude.{ℕ, ◌≡◌, ◌<◌, ◌+◌, ◌*◌, ◌-◌, nat_le}
use Rattle.cept_plot.specs.declared.coordinate.Coordinate.{Coordinate}
use Rattle.cept_plot.specs.declared.coordinate.Slope.{Slope}
use Rattle.cept_plot.specs.Figures.{distance}

-- how a coordinate goes on in each of n steps from a to b
pub record IsSlope (s : Slope) (a b n : ℕ) : Type 0 where
  pub whole : s.whole ≡ 2 * n
  pub part : s.part ≡ 2 * distance a b
  pub rises : s.rises ≡ nat_le a b

-- where it is after i of n steps from a to b: the rounded number, halves up, and the rest of the division that rounds
pub record IsUnderWay (c : Coordinate) (a b n i : ℕ) : Type 0 where
  pub sum : 2 * n * c.at + c.rest ≡ 2 * ((n - i) * a + i * b) + n
  pub rest : c.rest < 2 * n
