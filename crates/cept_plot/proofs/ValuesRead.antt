-- The values of a screen's cells read one after the other, in reading order.
use Rattle.std.proofs.Common.{◌≡◌, ℕ, ◌<◌, List, get_or, length, replicate, ap, ◌∙◌, inl, inr, arith}
use Rattle.std.proofs.lemmas.Bool.{cases_lt}
use Rattle.std.proofs.lemmas.List.{get_or_past, get_or-replicate, length-replicate}
use Rattle.cept_codes.specs.Place.{place_of}
use Rattle.cept_profile.specs.State.{Core}
use Rattle.cept_plot.specs.Lit.{AreValues}
use Rattle.cept_plot.specs.Points.{value_in_core}

-- the cells with numbers below n have their values, and all values are valid
pub record AreReadBelow (k : Core) (values : List ℕ) (n : ℕ) : Type 0 where
  pub places : length values ≡ 960
  pub valid : AreValues values
  pub read : (m : ℕ) → m < n → get_or values m 0 ≡ value_in_core k (place_of m).row (place_of m).column

pub AreReadBelow-none : (k : Core) (values : List ℕ) → values ≡ replicate 960 0 → AreReadBelow k values 0
AreReadBelow-none k values e = record {
  places = long;
  valid = λ n. elim (cases_lt n 960) [
    | inl below ↦ omega (arith, ap (λ (l : List ℕ). get_or l n 0) e ∙ get_or-replicate {A = ℕ} 960 n 0 0 below)
    | inr past ↦
        omega (arith, get_or_past values n 0 (omega (arith, past, long)))
  ];
  read = λ m up. absurd (omega (arith, up));
}
  where
    long : length values ≡ 960
    long = ap (λ (l : List ℕ). length l) e ∙ length-replicate {A = ℕ} 960 0
