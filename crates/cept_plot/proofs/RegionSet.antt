-- Points of a field set or unset one after the other.
use Rattle.std.proofs.Common.{◌≡◌, ℕ, ◌||◌, Bool, true, false, List, if◌then◌else◌, refl, sym, ap, ◌∙◌}
use Rattle.cept_plot.specs.Lit.{is_lit}
use Rattle.cept_plot.specs.inside.Lit.{IsSet}
use Rattle.cept_plot.specs.Points.{OnField}

-- another test that picks the same points
pub IsSet-same : (was now : List ℕ) (lit : Bool) (f g : ℕ → ℕ → Bool) → IsSet was now lit f
    → ((x y : ℕ) → OnField x y → f x y ≡ g x y) → IsSet was now lit g
IsSet-same was now lit f g set same x y on =
    set x y on ∙ ap (λ t. if t then lit else is_lit was x y) (same x y on)

-- the points of one test and then those of another
pub IsSet-more : (was mid now : List ℕ) (lit : Bool) (f g h : ℕ → ℕ → Bool) → IsSet was mid lit f
    → IsSet mid now lit g → ((x y : ℕ) → OnField x y → h x y ≡ (f x y || g x y)) → IsSet was now lit h
IsSet-more was mid now lit f g h first second both x y on =
    second x y on ∙ by_tests (f x y) (g x y) (first x y on)
    ∙ sym (ap (λ t. if t then lit else is_lit was x y) (both x y on))
  where
    by_tests : (s t : Bool) → is_lit mid x y ≡ (if s then lit else is_lit was x y)
        → (if t then lit else is_lit mid x y) ≡ (if s || t then lit else is_lit was x y)
    by_tests true true e = refl
    by_tests true false e = e
    by_tests false true e = refl
    by_tests false false e = e
