-- What private clauses say beside `Rendition` (this project's own).
use Rattle.std.specs.Prelude.{◌≡◌, ◌<◌, ℕ, List}
use Rattle.cept_charsets.specs.Rendition.{Row, point_in}

-- a code point that renders a code of a column, of the first plane
pub record IsPointIn (column : List Row) (code point : ℕ) : Type 0 where
  pub is : point ≡ point_in column code
  pub small : point < 0x1_0000
