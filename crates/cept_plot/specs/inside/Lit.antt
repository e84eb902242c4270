-- What private clauses say beside `Lit` (this project's own).
use Rattle.std.specs.Prelude.{ℕ, ◌≡◌, Bool, List, if◌then◌else◌}
use Rattle.cept_plot.specs.Points.{OnField}
use Rattle.cept_plot.specs.Lit.{is_lit}

-- the points that a test picks are in the field, or aren't, and all others are as they were
abbrev pub IsSet : List ℕ → List ℕ → Bool → (ℕ → ℕ → Bool) → Type 0
IsSet was now lit test = (x y : ℕ) → OnField x y → is_lit now x y ≡ (if test x y then lit else is_lit was x y)
