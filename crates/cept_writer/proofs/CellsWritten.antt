-- The commands of a cell put it once and leave control at rest, and so do those of all cells, each in its turn.
use Rattle.std.proofs.Common.{◌≡◌, ℕ, ◌≤◌, ◌<◌, ◌⊎◌, Bool, true, false, None, List, [], ◌∷◌, ◌++◌, flat_map, min}
use Rattle.std.proofs.Common.{refl, ap, subst, inl, inr, arith}
use Rattle.std.specs.List.{range_with_len}
use Rattle.cept_codes.specs.declared.attribute.Pen.{Pen}
use Rattle.cept_codes.specs.declared.cell.Cell.{Cell}
use Rattle.cept_codes.specs.declared.cell.What.{What}
use Rattle.cept_codes.specs.declared.cell.What.TheVariants as whats
use Rattle.cept_codes.specs.declared.command.C1Set.TheVariants as c1sets
use Rattle.cept_codes.specs.declared.command.Command.TheVariants as commands
use Rattle.cept_codes.specs.declared.stroke.Stroke.{Stroke}
use Rattle.cept_codes.specs.declared.stroke.Stroke.TheVariants as strokes
use Rattle.cept_codes.specs.Attribute.{unset_pen}
use Rattle.cept_codes.specs.Cell.{IsValidWhat, blank_cell}
use Rattle.cept_codes.specs.Place.{Place, OnScreen, place_of}
use Rattle.cept_codes.specs.Table.{value_at}
use Rattle.cept_profile.specs.Control.{control_after, initial_sets}
use Rattle.cept_writer.specs.AttributeCommands.{attributes_of, pen_commands}
use Rattle.cept_writer.specs.CellCommands.{cell_commands, content_commands, glyph_commands, marker_commands}
use Rattle.cept_writer.specs.CellCommands.{protected_commands}
use Rattle.cept_writer.specs.PageCommands.{cell_numbered}
use Rattle.cept_writer.proofs.AttributesSet.{attributes_take, hand_under_parallel}
use Rattle.cept_writer.proofs.Drawing.{Draws, draws_joined, draws_one, draws_silent}
use Rattle.cept_writer.proofs.MarkersLeft.{marker_leaves, hand_under_serial}
use Rattle.cept_writer.proofs.PenAttributes.{attributes-all}
use Rattle.cept_writer.proofs.Resting.{AlwaysRests, Fixed, Hand, Rests, control_in_cell, rests_none, control_at_rest}
use Rattle.cept_writer.proofs.SignsWritten.{glyph_puts, hand_without_run}

-- the strokes of a cell
abbrev pub cell_strokes : Place → Bool → What → List Stroke
cell_strokes p protected whats.Blank = []
cell_strokes p protected what = strokes.Put p (record { what = what; protected = protected }) ∷ []

-- the hand at a position
abbrev pub hand_at : Hand → Place → Hand
hand_at v p = record v { row = p.row; column = p.column; run = false; step = 1; pen = unset_pen; fast = 0 }

-- a position within the format
pub position-hand_at : (fixed : Fixed) (v : Hand) (p : Place) → p.row ≤ fixed.rows
    → control_after (control_at_rest fixed v) (commands.Position p.row p.column) ≡ control_at_rest fixed (hand_at v p)
position-hand_at fixed v p within =
    let row : min p.row fixed.rows ≡ p.row = omega (arith, within) in
    ap (λ (r : ℕ). control_at_rest fixed (record (hand_at v p) { row = r })) row

-- what stands in a cell
record Fills (fixed : Fixed) (protect : Bool) (v : Hand) (p : Place) (what : What) : Type 0 where
  hand : Hand
  draws : Draws (control_in_cell fixed initial_sets None protect (hand_at v p)) (content_commands what)
      (strokes.Put p (record { what = what; protected = protect }) ∷ []) (control_in_cell fixed initial_sets None protect hand)

fills : (fixed : Fixed) (protect : Bool) (v : Hand) (p : Place) (what : What) → IsValidWhat what
    → (what ≡ whats.Blank → ⊥) → Fills fixed protect v p what
fills fixed protect v p whats.Blank is some = elim (some refl) [ ]
fills fixed protect v p (whats.Serial g) is some =
    let there = glyph_puts fixed protect (hand_under_serial (hand_at v p)) g is in
    record {
      hand = there.hand;
      draws = draws_silent _ (control_in_cell fixed initial_sets None protect (hand_without_run (hand_under_serial (hand_at v p)))) _
          (commands.DesignateC1 c1sets.Serial) (glyph_commands g) _ refl refl there.draws;
    }
fills fixed protect v p (whats.Parallel g pen) is some =
    let taken = attributes_take fixed protect (hand_at v p) (attributes_of pen) in
    let next : Hand = record (hand_under_parallel (hand_at v p)) { table = taken.table; fast = taken.fast; pen = pen } in
    let there = glyph_puts fixed protect next g is.0 in
    let pens : Draws (control_in_cell fixed initial_sets None protect (hand_under_parallel (hand_at v p)))
    (pen_commands (λ n. commands.C1 n) pen) [] (control_in_cell fixed initial_sets None protect next) =
    subst (λ (q : Pen). Draws (control_in_cell fixed initial_sets None protect (hand_under_parallel (hand_at v p)))
    (pen_commands (λ n. commands.C1 n) pen) [] (control_in_cell fixed initial_sets None protect (record next { pen = q })))
    (attributes-all pen) taken.draws in
    record {
      hand = there.hand;
      draws = draws_silent _ (control_in_cell fixed initial_sets None protect (hand_under_parallel (hand_at v p))) _
          (commands.DesignateC1 c1sets.Parallel) (pen_commands (λ n. commands.C1 n) pen ++ glyph_commands g) _ refl refl
          (draws_joined _ _ _ (pen_commands (λ n. commands.C1 n) pen) (glyph_commands g) [] _ pens there.draws);
    }
fills fixed protect v p (whats.Marker m) is some =
    let there = marker_leaves fixed protect (hand_at v p) m in
    record {
      hand = there.hand;
      draws = draws_silent _ (control_in_cell fixed initial_sets None protect (hand_under_serial (hand_at v p))) _
          (commands.DesignateC1 c1sets.Serial) (marker_commands m) _ refl refl there.draws;
    }

-- with protection before and after it
shielded : (fixed : Fixed) (v : Hand) (p : Place) (what : What) (protect : Bool) → p.row ≤ fixed.rows
    → Fills fixed protect v p what
    → Rests fixed v (commands.Position p.row p.column ∷ protected_commands protect (content_commands what))
    (strokes.Put p (record { what = what; protected = protect }) ∷ [])
shielded fixed v p what true within filled = record {
  hand = filled.hand;
  draws = draws_silent _ (control_at_rest fixed (hand_at v p)) _ (commands.Position p.row p.column) _ _
      (position-hand_at fixed v p within) refl
      (draws_silent _ (control_in_cell fixed initial_sets None true (hand_at v p)) _ (commands.Protect true) _ _ refl refl
      (draws_joined _ _ _ (content_commands what) (commands.Protect false ∷ []) _ [] filled.draws
      (draws_one _ _ (commands.Protect false) [] refl refl)));
}
shielded fixed v p what false within filled = record {
  hand = filled.hand;
  draws = draws_silent _ (control_at_rest fixed (hand_at v p)) _ (commands.Position p.row p.column) _ _
      (position-hand_at fixed v p within) refl filled.draws;
}

-- any valid cell within the format, or blank
pub cell_rests : (fixed : Fixed) (p : Place) (protected : Bool) (what : What)
    → (p.row ≤ fixed.rows) ⊎ (what ≡ whats.Blank) → IsValidWhat what
    → AlwaysRests fixed (cell_commands p protected what) (cell_strokes p protected what)
cell_rests fixed p protected whats.Blank within is v = rests_none fixed v
cell_rests fixed p protected (whats.Serial g) (inl within) is v =
    shielded fixed v p (whats.Serial g) protected within
    (fills fixed protected v p (whats.Serial g) is (λ e. absurd cc))
cell_rests fixed p protected (whats.Serial g) (inr e) is v = absurd cc
cell_rests fixed p protected (whats.Parallel g pen) (inl within) is v =
    shielded fixed v p (whats.Parallel g pen) protected within
    (fills fixed protected v p (whats.Parallel g pen) is (λ e. absurd cc))
cell_rests fixed p protected (whats.Parallel g pen) (inr e) is v = absurd cc
cell_rests fixed p protected (whats.Marker m) (inl within) is v =
    shielded fixed v p (whats.Marker m) protected within
    (fills fixed protected v p (whats.Marker m) is (λ e. absurd cc))
cell_rests fixed p protected (whats.Marker m) (inr e) is v = absurd cc

-- the strokes of the first n cells
unfoldable pub puts_below : List (List Cell) → ℕ → List Stroke
puts_below cells n =
    flat_map (λ m. cell_strokes (place_of m) (cell_numbered cells m).protected (cell_numbered cells m).what)
    (range_with_len 0 n)

-- valid cells, blank past the format
pub record AreValidCells (rows : ℕ) (cells : List (List Cell)) : Type 0 where
  pub valid : (r c : ℕ) → OnScreen r c → IsValidWhat (value_at blank_cell cells r c).what
  pub past : (r c : ℕ) → OnScreen r c → rows < r → value_at blank_cell cells r c ≡ blank_cell
