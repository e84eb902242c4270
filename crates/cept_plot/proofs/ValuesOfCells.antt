-- The value that the points of a field give a cell is the value that the field has there, and decides with the value in the
-- cell whether it is written.
use Rattle.std.proofs.Common.{◌≡◌, ℕ, ◌+◌, ◌-◌, ◌*◌, ◌/◌, ◌%◌, ◌^◌, ◌<◌, ◌≤◌, ◌==◌, ◌&&◌, not, Bool, false, List, if◌then◌else◌}
use Rattle.std.proofs.Common.{ap, sym, ◌∙◌, inl, inr, arith}
use Rattle.std.proofs.lemmas.Bool.{cases_eq, eq-eqb, le-leb, ne_eqb}
use Rattle.cept_codes.specs.Place.{OnScreen}
use Rattle.cept_profile.specs.State.{Core}
use Rattle.cept_plot.specs.Commands.{cell_in_core, is_written_anew, value_of_points, weight_if}
use Rattle.cept_plot.specs.Lit.{is_lit, value_in}
use Rattle.cept_plot.specs.Points.{block_of, column_of_point, row_of_point, value_in_core}

-- a weight so many times as its bit says
by_bit : (bit w : ℕ) → bit < 2 → weight_if (bit == 1) w ≡ w * bit
by_bit bit w below = elim (cases_eq bit 1) [
  | inl one ↦
      let whole : w ≡ w * 1 = omega arith in
      ap (λ t. if t then w else 0) (eq-eqb bit 1 one) ∙ whole ∙ ap (λ b. w * b) (sym one)
  | inr none ↦
      let zero_bit : 0 ≡ bit = omega (arith, below, none) in
      let nothing : 0 ≡ w * 0 = omega arith in
      ap (λ t. if t then w else 0) (ne_eqb bit 1 none) ∙ nothing ∙ ap (λ b. w * b) zero_bit
]

-- the weight of one point of a cell, where it is in the field
weight_of_point : (values : List ℕ) (r c x y w : ℕ) → row_of_point y ≡ r → column_of_point x ≡ c
    → 2 ^ block_of x y ≡ w → weight_if (is_lit values x y) w ≡ w * (value_in values r c / w % 2)
weight_of_point values r c x y w row column is =
    (λ i. weight_if (value_in values (row i) (column i) / is i % 2 == 1) w)
    ∙ by_bit (value_in values r c / w % 2) w (omega arith)

-- a value below 64 is the sum of the weights of its bits
sum_of_bits : (v : ℕ) → v < 64
    → 1 * (v / 1 % 2) + 2 * (v / 2 % 2) + 4 * (v / 4 % 2) + 8 * (v / 8 % 2) + 16 * (v / 16 % 2) + 32 * (v / 32 % 2) ≡ v
sum_of_bits v below =
    let a : v / 1 % 2 + 2 * (v / 2) ≡ v = omega arith in
    let b : v / 2 % 2 + 2 * (v / 4) ≡ v / 2 = omega arith in
    let c : v / 4 % 2 + 2 * (v / 8) ≡ v / 4 = omega arith in
    let d : v / 8 % 2 + 2 * (v / 16) ≡ v / 8 = omega arith in
    let e : v / 16 % 2 + 2 * (v / 32) ≡ v / 16 = omega arith in
    let f : v / 32 % 2 ≡ v / 32 = omega (arith, below) in
    omega (arith, a, b, c, d, e, f)

pub value_of_cell : (values : List ℕ) (r c : ℕ) → OnScreen r c → value_in values r c < 64
    → value_of_points (is_lit values) r c ≡ value_in values r c
value_of_cell values r c on below =
    let x = 2 * (c - 1) in
    let y = 3 * (r - 1) in
    let top : row_of_point y ≡ r = omega (arith, on.from_top) in
    let middle : row_of_point (y + 1) ≡ r = omega (arith, on.from_top) in
    let bottom : row_of_point (y + 2) ≡ r = omega (arith, on.from_top) in
    let left : column_of_point x ≡ c = omega (arith, on.from_left) in
    let right : column_of_point (x + 1) ≡ c = omega (arith, on.from_left) in
    let p = weight_of_point values r c x y 1 top left
    (let e : block_of x y ≡ 0 = omega arith in ap (λ k. 2 ^ k) e) in
    let q = weight_of_point values r c (x + 1) y 2 top right
    (let e : block_of (x + 1) y ≡ 1 = omega arith in ap (λ k. 2 ^ k) e) in
    let s = weight_of_point values r c x (y + 1) 4 middle left
    (let e : block_of x (y + 1) ≡ 2 = omega arith in ap (λ k. 2 ^ k) e) in
    let t = weight_of_point values r c (x + 1) (y + 1) 8 middle right
    (let e : block_of (x + 1) (y + 1) ≡ 3 = omega arith in ap (λ k. 2 ^ k) e) in
    let u = weight_of_point values r c x (y + 2) 16 bottom left
    (let e : block_of x (y + 2) ≡ 4 = omega arith in ap (λ k. 2 ^ k) e) in
    let v = weight_of_point values r c (x + 1) (y + 2) 32 bottom right
    (let e : block_of (x + 1) (y + 2) ≡ 5 = omega arith in ap (λ k. 2 ^ k) e) in
    (λ i. p i + q i + s i + t i + u i + v i) ∙ sum_of_bits (value_in values r c) below

-- a cell within the format that isn't protected is written where its two values differ
pub written_by_value : (k : Core) (f : ℕ → ℕ → Bool) (r c v w : ℕ) → r ≤ k.rows → (cell_in_core k r c).protected ≡ false
    → v ≡ value_in_core k r c → w ≡ value_of_points f r c → not (v == w) ≡ is_written_anew k f r c
written_by_value k f r c v w within free value points =
    let rows = sym (le-leb r k.rows within) in
    let open_to_signs = sym free in
    λ i. rows i && not (open_to_signs i) && not (value i == points i)
