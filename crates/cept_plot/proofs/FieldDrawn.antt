-- Where the cells of a page are those of a drawing, the set of points was drawn on it.
use Rattle.std.proofs.Common.{◌≡◌, ℕ, Bool, true, false, leb, refl, sym, ap, ◌∙◌, arith}
use Rattle.cept_codes.specs.declared.cell.Cell.{Cell}
use Rattle.cept_codes.specs.Cell.{blank_cell}
use Rattle.cept_codes.specs.Place.{OnScreen}
use Rattle.cept_codes.specs.Table.{value_at}
use Rattle.cept_codes.proofs.Laws.{number-lt}
use Rattle.cept_profile.specs.State.{Core, Page}
use Rattle.cept_plot.specs.Commands.{IsDrawnOn, cell_in_core, is_written_anew, value_of_points}
use Rattle.cept_plot.specs.inside.Drawing.{cell_in_drawing, cell_of_value}
use Rattle.cept_plot.specs.Points.{OnField, column_of_point, has_weight, row_of_point, value_of}
use Rattle.cept_plot.proofs.CellsInDrawing.{IsFree, cell_unwritten, cell_written, free_by, value_by}
use Rattle.cept_plot.proofs.ValuesWritten.{has_weight-value_of_points, value_of_points-lt, value_of_sign}

-- the cell of a point is on the screen
pub OnScreen-point : (x y : ℕ) → OnField x y → OnScreen (row_of_point y) (column_of_point x)
OnScreen-point x y on = record {
  from_top = omega arith;
  to_bottom = omega (arith, on);
  from_left = omega arith;
  to_right = omega (arith, on);
}

module _ (k : Core) (f : ℕ → ℕ → Bool) (p : Page)
    (cells : (r c : ℕ) → OnScreen r c → value_at blank_cell p.cells r c ≡ cell_in_drawing k f 960 r c) where
  -- each cell has had its turn
  of_written : (r c : ℕ) → OnScreen r c → is_written_anew k f r c ≡ true
      → value_at blank_cell p.cells r c ≡ cell_of_value (value_of_points f r c)
  of_written r c on anew = cells r c on ∙ cell_written k f 960 r c (number-lt r c on) anew

  of_left : (r c : ℕ) → OnScreen r c → is_written_anew k f r c ≡ false
      → value_at blank_cell p.cells r c ≡ cell_in_core k r c
  of_left r c on stays = cells r c on ∙ cell_unwritten k f 960 r c stays

  protection_by : (r c : ℕ) → OnScreen r c → (t : Bool) → is_written_anew k f r c ≡ t
      → (value_at blank_cell p.cells r c).protected ≡ (cell_in_core k r c).protected
  protection_by r c on true anew =
      let free : IsFree k r c = free_by k f r c anew in
      ap (λ (w : Cell). w.protected) (of_written r c on anew) ∙ sym free.free
  protection_by r c on false stays = ap (λ (w : Cell). w.protected) (of_left r c on stays)

  -- the value of each cell that may be written is that of the set of points
  value_is : (r c : ℕ) → OnScreen r c → leb r k.rows ≡ true → (cell_in_core k r c).protected ≡ false → (t : Bool)
      → is_written_anew k f r c ≡ t → value_of (value_at blank_cell p.cells r c).what ≡ value_of_points f r c
  value_is r c on within free true anew =
      ap (λ (w : Cell). value_of w.what) (of_written r c on anew)
      ∙ value_of_sign (value_of_points f r c) (value_of_points-lt f r c)
  value_is r c on within free false stays =
      ap (λ (w : Cell). value_of w.what) (of_left r c on stays) ∙ value_by k f r c within free stays

  pub field_drawn : p ≡ record (k.page) { cells = p.cells } → IsDrawnOn k f (record k { page = p })
  field_drawn same = record {
    points = λ x y on within free.
        ap (λ v. has_weight v x y) (value_is (row_of_point y) (column_of_point x) (OnScreen-point x y on) within free
        (is_written_anew k f (row_of_point y) (column_of_point x)) refl)
        ∙ has_weight-value_of_points f x y;
    others = of_left;
    protection = λ r c on. protection_by r c on (is_written_anew k f r c) refl;
    settings = ap (λ (q : Page). let now : Core = record k { page = q } in now) same;
  }
