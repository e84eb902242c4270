-- The commands of a drawing: each is valid, and they depend on the points of the field alone.
use Rattle.std.proofs.Common.{◌≡◌, ℕ, ◌+◌, ◌-◌, ◌*◌, ◌/◌, ◌%◌, ◌<◌, ◌≤◌, ◌==◌, ◌&&◌, not, nat_le, nat_lt, Bool, true, false, cond}
use Rattle.std.proofs.Common.{zero, suc, List, [], ◌∷◌, ◌++◌, refl, ap, inl, arith}
use Rattle.std.specs.List.{flat_map, range_with_len}
use Rattle.cept_codes.specs.declared.command.Command.{Command}
use Rattle.cept_codes.specs.declared.command.Command.TheVariants as commands
use Rattle.cept_codes.specs.Command.{IsGraphic}
use Rattle.cept_codes.specs.Place.{OnScreen}
use Rattle.cept_codes.proofs.Laws.{OnScreen-place_of}
use Rattle.cept_plot.specs.declared.figure.Figure.{Figure}
use Rattle.cept_plot.specs.Commands.{weight_if, value_of_points, code_of_value, value_commands, cell_in_core}
use Rattle.cept_plot.specs.Commands.{is_written_anew, cell_commands, cells_commands, opening, drawn}
use Rattle.cept_plot.specs.Drawings.{points_after_all}
use Rattle.cept_plot.specs.Figures.{is_of_figure, adds, points_after}
use Rattle.cept_plot.specs.Points.{OnField, value_in_core}
use Rattle.cept_profile.specs.State.{Core}
use Rattle.cept_profile.specs.Valid.{AllValid}
use Rattle.cept_plot.proofs.CommandsInTurn.{numbered_cell_commands}
use Rattle.cept_plot.proofs.PaintedInTurn.{AllValid-append}
use Rattle.cept_plot.proofs.ValuesWritten.{value_of_points-lt}

-- ---- each is valid

code_valid : (v : ℕ) → v < 64 → IsGraphic (code_of_value v)
code_valid v few = by_half (nat_lt v 32)
  where
    by_half : (low : Bool) → IsGraphic (cond low (0x20 + v) (0x40 + v))
    by_half true = inl (omega arith, omega (arith, few))
    by_half false = inl (omega arith, omega (arith, few))

value_valid : (v : ℕ) → v < 64 → AllValid (value_commands v)
value_valid v few = by_space (v == 0)
  where
    by_space : (space : Bool) → AllValid (cond space (commands.Graphic 0x20 ∷ [])
        (commands.LockLeft 1 ∷ commands.Graphic (code_of_value v) ∷ commands.LockLeft 0 ∷ []))
    by_space true = (inl (omega arith, omega arith), tt)
    by_space false = (omega arith, (code_valid v few, (omega arith, tt)))

cell_valid : (k : Core) (f : ℕ → ℕ → Bool) (r c : ℕ) → OnScreen r c → AllValid (cell_commands k f r c)
cell_valid k f r c on = by_need (is_written_anew k f r c)
  where
    by_need : (written : Bool)
        → AllValid (cond written (commands.Position r c ∷ value_commands (value_of_points f r c)) [])
    by_need true = (on, value_valid (value_of_points f r c) (value_of_points-lt f r c))
    by_need false = tt

cells_valid : (k : Core) (f : ℕ → ℕ → Bool) (n count : ℕ) → n + count ≤ 960
    → AllValid (flat_map (numbered_cell_commands k f) (range_with_len n count))
cells_valid k f n zero within = tt
cells_valid k f n (suc count) within =
    AllValid-append (numbered_cell_commands k f n) (flat_map (numbered_cell_commands k f) (range_with_len (n + 1) count))
    (cell_valid k f (n / 40 + 1) (n % 40 + 1) (OnScreen-place_of n (omega (arith, within))))
    (cells_valid k f (n + 1) count (omega (arith, within)))

pub drawn_valid : (k : Core) (f : ℕ → ℕ → Bool) → AllValid (drawn k f)
unfolding cells_commands
drawn_valid k f =
    let all : AllValid (cells_commands k f 960 ++ commands.Implicit k.implicit ∷ []) =
    AllValid-append (flat_map (numbered_cell_commands k f) (range_with_len 0 960)) (commands.Implicit k.implicit ∷ [])
    (cells_valid k f 0 960 (omega arith)) (tt, tt) in
    (tt, (tt, all))

-- ---- sets of points that are the same on the field have the same commands

module _ (k : Core) (f g : ℕ → ℕ → Bool) (same : (x y : ℕ) → OnField x y → f x y ≡ g x y) where
  value_same : (r c : ℕ) → OnScreen r c → value_of_points f r c ≡ value_of_points g r c
  value_same r c on =
      let x = 2 * (c - 1) in
      let y = 3 * (r - 1) in
      let at : (u v : ℕ) → u ≤ x + 1 → v ≤ y + 2 → f u v ≡ g u v = λ u v across down.
      same u v (record {
        across = omega (arith, on.to_right, on.from_left, across);
        down = omega (arith, on.to_bottom, on.from_top, down);
      }) in
      let top_left = at x y (omega arith) (omega arith) in
      let top_right = at (x + 1) y (omega arith) (omega arith) in
      let left = at x (y + 1) (omega arith) (omega arith) in
      let right = at (x + 1) (y + 1) (omega arith) (omega arith) in
      let bottom_left = at x (y + 2) (omega arith) (omega arith) in
      let bottom_right = at (x + 1) (y + 2) (omega arith) (omega arith) in
      λ i. weight_if (top_left i) 1 + weight_if (top_right i) 2 + weight_if (left i) 4 + weight_if (right i) 8
      + weight_if (bottom_left i) 16 + weight_if (bottom_right i) 32

  -- of a cell by its value
  abbrev commands_at : ℕ → ℕ → ℕ → List Command
  commands_at r c v =
      cond (nat_le r k.rows && not (cell_in_core k r c).protected && not (value_in_core k r c == v))
      (commands.Position r c ∷ value_commands v) []

  cell_same : (r c : ℕ) → OnScreen r c → cell_commands k f r c ≡ cell_commands k g r c
  cell_same r c on = ap (commands_at r c) (value_same r c on)

  cells_same : (n count : ℕ) → n + count ≤ 960
      → flat_map (numbered_cell_commands k f) (range_with_len n count)
      ≡ flat_map (numbered_cell_commands k g) (range_with_len n count)
  cells_same n zero within = refl
  cells_same n (suc count) within =
      let first = cell_same (n / 40 + 1) (n % 40 + 1) (OnScreen-place_of n (omega (arith, within))) in
      let others = cells_same (n + 1) count (omega (arith, within)) in
      λ i. first i ++ others i

  pub drawn_same : drawn k f ≡ drawn k g
  unfolding cells_commands
  drawn_same =
      ap (λ (l : List Command). opening ++ (l ++ commands.Implicit k.implicit ∷ [])) (cells_same 0 960 (omega arith))

-- ---- what figures leave of a point depends on that point alone

pub point_after : (f g : ℕ → ℕ → Bool) (figures : List Figure) (x y : ℕ) → f x y ≡ g x y
    → points_after_all f figures x y ≡ points_after_all g figures x y
point_after f g [] x y same = same
point_after f g (figure ∷ more) x y same =
    point_after (points_after f figure) (points_after g figure) more x y
    (ap (λ b. cond (is_of_figure figure x y) (adds figure) b) same)
