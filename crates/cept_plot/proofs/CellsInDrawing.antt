-- The cells while a set of points is drawn: each in its turn, and what is left of the beginning.
use Rattle.std.proofs.Common.{◌≡◌, ◌≢◌, ℕ, ◌+◌, ◌/◌, ◌%◌, ◌<◌, ◌≤◌, ◌==◌, Bool, true, false, not, ◌&&◌, cond}
use Rattle.std.proofs.Common.{leb, ltb, refl, ap, ◌∙◌, arith}
use Rattle.std.proofs.lemmas.Bool.{and_from, and_parts, eq-eqb, eqb-true, le-ltb, leb-true, lt-ltb}
use Rattle.std.proofs.lemmas.Bool.Decides.{nat_tests}
use Rattle.cept_codes.specs.declared.cell.Cell.{Cell}
use Rattle.cept_codes.specs.Place.{OnScreen, number, place_of}
use Rattle.cept_profile.specs.Cells.{is_at}
use Rattle.cept_profile.specs.State.{Core}
use Rattle.cept_plot.specs.Commands.{cell_in_core, is_written_anew, value_of_points}
use Rattle.cept_plot.specs.inside.Drawing.{cell_in_drawing, cell_of_value}
use Rattle.cept_plot.specs.Points.{value_in_core, value_of}

-- a test that fails fails with any other
pub and-false : (t : Bool) → (t && false) ≡ false
and-false true = refl
and-false false = refl

module _ (k : Core) (f : ℕ → ℕ → Bool) where
  -- the cell where it is written and its turn was, and where not
  abbrev cell_by : ℕ → ℕ → Bool → Cell
  cell_by r c t = cond t (cell_of_value (value_of_points f r c)) (cell_in_core k r c)

  -- one whose turn comes stands as it was
  pub cell_in_turn : (n r c : ℕ) → n ≤ number r c → cell_in_drawing k f n r c ≡ cell_in_core k r c
  cell_in_turn n r c above =
      ap (λ (t : Bool). cell_by r c (t && is_written_anew k f r c))
      (le-ltb (number r c) n above)

  -- one that isn't written stays as it was
  pub cell_unwritten : (n r c : ℕ) → is_written_anew k f r c ≡ false → cell_in_drawing k f n r c ≡ cell_in_core k r c
  cell_unwritten n r c stays =
      ap (λ (t : Bool). cell_by r c (ltb (number r c) n && t)) stays
      ∙ ap (cell_by r c) (and-false (ltb (number r c) n))

  -- one that is written, after its turn
  pub cell_written : (n r c : ℕ) → number r c < n → is_written_anew k f r c ≡ true
      → cell_in_drawing k f n r c ≡ cell_of_value (value_of_points f r c)
  cell_written n r c below anew =
      ap (λ (t : Bool). cell_by r c (t && is_written_anew k f r c))
      (lt-ltb (number r c) n below)
      ∙ ap (cell_by r c) anew

  -- one turn changes the cell of its number alone
  pub cell_of_other : (n r c : ℕ) → number r c ≢ n → cell_in_drawing k f (n + 1) r c ≡ cell_in_drawing k f n r c
  cell_of_other n r c apart =
      let same : ltb (number r c) (n + 1) ≡ ltb (number r c) n = grind (arith, nat_tests) in
      ap (λ (t : Bool). cell_by r c (t && is_written_anew k f r c)) same

  -- whether a cell is written depends on the rows of the format and on the cell itself
  pub written_by : (r c rows : ℕ) (cell : Cell) → rows ≡ k.rows → cell ≡ cell_in_core k r c
      → (leb r rows && not cell.protected && not (value_of cell.what == value_of_points f r c))
      ≡ is_written_anew k f r c
  written_by r c rows cell er ec =
      λ i. let now : Cell = ec i in
      leb r (er i) && not now.protected && not (value_of now.what == value_of_points f r c)

-- ---- what a test says

-- a cell that is written is within the format, and wasn't protected
pub record IsFree (k : Core) (r c : ℕ) : Type 0 where
  pub within : r ≤ k.rows
  pub free : (cell_in_core k r c).protected ≡ false

by_not : (t : Bool) → not t ≡ true → t ≡ false
by_not true e = absurd cc
by_not false e = refl

pub free_by : (k : Core) (f : ℕ → ℕ → Bool) (r c : ℕ) → is_written_anew k f r c ≡ true → IsFree k r c
free_by k f r c anew =
    let two = and_parts (leb r k.rows && not (cell_in_core k r c).protected)
    (not (value_in_core k r c == value_of_points f r c)) anew in
    let parts = and_parts (leb r k.rows) (not (cell_in_core k r c).protected) two.0 in
    record { within = leb-true r k.rows parts.0; free = by_not (cell_in_core k r c).protected parts.1 }

-- one that isn't written though it may be has the value
pub value_by : (k : Core) (f : ℕ → ℕ → Bool) (r c : ℕ) → leb r k.rows ≡ true → (cell_in_core k r c).protected ≡ false
    → is_written_anew k f r c ≡ false → value_in_core k r c ≡ value_of_points f r c
value_by k f r c within free stays =
    eqb-true (value_in_core k r c) (value_of_points f r c) (by_test (leb r k.rows) (cell_in_core k r c).protected
    (value_in_core k r c == value_of_points f r c) within free stays)
  where
    by_test : (a b t : Bool) → a ≡ true → b ≡ false → (a && not b && not t) ≡ false → t ≡ true
    by_test true false true ea eb e = refl
    by_test true false false ea eb e = absurd cc
    by_test true true t ea eb e = absurd cc
    by_test false b t ea eb e = absurd cc

-- ---- the place of a number

pub at_number : (n r c : ℕ) → OnScreen r c → number r c ≡ n → is_at (place_of n) r c ≡ true
at_number n r c on e =
    let row : n / 40 + 1 ≡ r = omega (arith, on, e) in
    let column : n % 40 + 1 ≡ c = omega (arith, on, e) in
    and_from (n / 40 + 1 == r) (n % 40 + 1 == c) (eq-eqb (n / 40 + 1) r row) (eq-eqb (n % 40 + 1) c column)

pub not_at_number : (n r c : ℕ) → number r c ≢ n → is_at (place_of n) r c ≡ false
not_at_number n r c apart = by_test (is_at (place_of n) r c) refl where
  by_test : (t : Bool) → is_at (place_of n) r c ≡ t → t ≡ false
  by_test false e = refl
  by_test true e =
      let parts = and_parts (n / 40 + 1 == r) (n % 40 + 1 == c) e in
      let row : n / 40 + 1 ≡ r = eqb-true (n / 40 + 1) r parts.0 in
      let column : n % 40 + 1 ≡ c = eqb-true (n % 40 + 1) c parts.1 in
      absurd (apart (omega (arith, row, column)))
