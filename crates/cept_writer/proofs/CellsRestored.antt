-- The strokes of a written page put each cell at its place, and no other.
use Rattle.std.proofs.Common.{◌≡◌, ℕ, Bool, true, false, not, cond, eqb, ◌&&◌, List, ◌∷◌}
use Rattle.std.proofs.Common.{refl, sym, ap, ◌∙◌, inl, inr, arith}
use Rattle.std.proofs.lemmas.Bool.{and_parts, cases_Bool, eqb-true}
use Rattle.std.proofs.lemmas.Bool.Decides.{nat_tests}
use Rattle.cept_codes.specs.declared.cell.Cell.{Cell}
use Rattle.cept_codes.specs.declared.cell.What.{What}
use Rattle.cept_codes.specs.declared.cell.What.TheVariants as whats
use Rattle.cept_codes.specs.declared.stroke.Stroke.{Stroke}
use Rattle.cept_codes.specs.declared.stroke.Stroke.TheVariants as strokes
use Rattle.cept_codes.specs.Cell.{blank_cell}
use Rattle.cept_codes.specs.Place.{OnScreen, Place, number, place_of}
use Rattle.cept_codes.specs.Table.{value_at}
use Rattle.cept_codes.proofs.Laws.{number-place_of, place_of-number, number-lt}
use Rattle.cept_profile.specs.Cells.{cell_after, is_at}
use Rattle.cept_profile.specs.PageParts.{left_by}
use Rattle.cept_writer.specs.PageCommands.{cell_numbered}
use Rattle.cept_writer.proofs.CellsWritten.{cell_strokes, puts_below}
use Rattle.cept_writer.proofs.StrokesByPart.{AllOf, IsWritten, KeepsValue, IsKeptByOthers, all_range, value_after, kind_of, only_one}
use Rattle.cept_writer.proofs.StrokesByPart.Kind.{Cells}

-- the cell of one place after a stroke that moves none
abbrev pub cell_step : ℕ → ℕ → Stroke → Cell → Cell
cell_step r c s x = cell_after s (λ _ _. x) r c

-- the cell of a place after the strokes, the last first
abbrev pub cell_back : List Stroke → ℕ → ℕ → Cell
cell_back strokes = left_by cell_after (λ r c. blank_cell) strokes

pub cell_more : (r c : ℕ) (s : Stroke) (earlier : List Stroke) → IsWritten s
    → cell_back (s ∷ earlier) r c ≡ cell_step r c s (cell_back earlier r c)
cell_more r c (strokes.Shift first last way) earlier written = elim (written refl) [ ]
cell_more r c (strokes.Carry first last way) earlier written = elim (written refl) [ ]
cell_more r c _ earlier written = refl

pub cell_left : (r c : ℕ) → IsKeptByOthers (cell_step r c) Cells
cell_left r c (strokes.Put p cell) x own reset other = elim (own refl) [ ]
cell_left r c (strokes.Erase row from) x own reset other = elim (other refl) [ ]
cell_left r c strokes.Wipe x own reset other = elim (reset refl) [ ]
cell_left r c (strokes.Shift first last way) x own reset other = elim (other refl) [ ]
cell_left r c (strokes.Carry first last way) x own reset other = elim (other refl) [ ]
cell_left r c _ x own reset other = refl

pub puts_cell : (cells : List (List Cell)) (n : ℕ) → AllOf Cells (puts_below cells n)
unfolding puts_below
puts_cell cells n =
    all_range (λ s. kind_of s ≡ Cells)
    (λ m. cell_strokes (place_of m) (cell_numbered cells m).protected (cell_numbered cells m).what) 0 n
    (λ j low high. each (place_of j) (cell_numbered cells j).protected (cell_numbered cells j).what) 0 n (omega arith)
    (omega arith) where
      each : (p : Place) (protected : Bool) (what : What) → AllOf Cells (cell_strokes p protected what)
      each p protected whats.Blank = tt
      each p protected (whats.Serial g) = (refl, tt)
      each p protected (whats.Parallel g pen) = (refl, tt)
      each p protected (whats.Marker m) = (refl, tt)

-- another number is another place
elsewhere : (r c j : ℕ) → (j ≡ number r c → ⊥) → is_at (place_of j) r c ≡ false
elsewhere r c j apart = elim (cases_Bool (is_at (place_of j) r c)) [
  | inl there ↦
      let parts = and_parts (eqb (place_of j).row r) (eqb (place_of j).column c) there in
      let row = eqb-true (place_of j).row r parts.0 in
      let column = eqb-true (place_of j).column c parts.1 in
      elim (apart (sym (number-place_of j) ∙ ap (λ (q : ℕ). number q (place_of j).column) row ∙ ap (number r) column)) [ ]
  | inr away ↦ away
]

put_elsewhere : (r c : ℕ) (p : Place) (protected : Bool) (what : What) → is_at p r c ≡ false
    → KeepsValue (cell_step r c) (cell_strokes p protected what)
put_elsewhere r c p protected whats.Blank away x = refl
put_elsewhere r c p protected (whats.Serial g) away x =
    ap (λ (t : Bool). cond (t && not x.protected) (record { what = whats.Serial g; protected = protected }) x) away
put_elsewhere r c p protected (whats.Parallel g pen) away x =
    ap (λ (t : Bool). cond (t && not x.protected) (record { what = whats.Parallel g pen; protected = protected }) x) away
put_elsewhere r c p protected (whats.Marker m) away x =
    ap (λ (t : Bool). cond (t && not x.protected) (record { what = whats.Marker m; protected = protected }) x) away

-- a cell at its own place, where nothing stood
abbrev here : ℕ → ℕ → Place
here r c = record { row = r; column = c }

at_itself : (r c : ℕ) → is_at (here r c) r c ≡ true
at_itself r c =
    let row : eqb r r ≡ true = grind (arith, nat_tests) in
    let column : eqb c c ≡ true = grind (arith, nat_tests) in
    rw (row, column) refl

put_here : (r c : ℕ) (protected : Bool) (what : What) → (what ≡ whats.Blank → protected ≡ false)
    → value_after (cell_step r c) blank_cell (cell_strokes (here r c) protected what)
    ≡ record { what = what; protected = protected }
put_here r c protected whats.Blank free =
    ap (λ (b : Bool). let cell : Cell = record { what = whats.Blank; protected = b } in cell) (sym (free refl))
put_here r c protected (whats.Serial g) free =
    ap (λ (t : Bool). cond (t && true) (record { what = whats.Serial g; protected = protected }) blank_cell) (at_itself r c)
put_here r c protected (whats.Parallel g pen) free =
    ap (λ (t : Bool). cond (t && true) (record { what = whats.Parallel g pen; protected = protected }) blank_cell)
    (at_itself r c)
put_here r c protected (whats.Marker m) free =
    ap (λ (t : Bool). cond (t && true) (record { what = whats.Marker m; protected = protected }) blank_cell) (at_itself r c)

pub cells_made : (cells : List (List Cell)) (r c : ℕ) → OnScreen r c
    → ((value_at blank_cell cells r c).what ≡ whats.Blank → (value_at blank_cell cells r c).protected ≡ false)
    → value_after (cell_step r c) blank_cell (puts_below cells 960) ≡ value_at blank_cell cells r c
unfolding puts_below
cells_made cells r c on free =
    only_one (cell_step r c)
    (λ m. cell_strokes (place_of m) (cell_numbered cells m).protected (cell_numbered cells m).what) (number r c)
    (λ j apart. put_elsewhere r c (place_of j) (cell_numbered cells j).protected (cell_numbered cells j).what
    (elsewhere r c j apart)) blank_cell 0 960 (omega arith) (let below = number-lt r c on in omega (arith, below))
    ∙ ap (λ (p : Place). value_after (cell_step r c) blank_cell
    (cell_strokes p (value_at blank_cell cells p.row p.column).protected (value_at blank_cell cells p.row p.column).what))
    (place_of-number (here r c) on)
    ∙ put_here r c (value_at blank_cell cells r c).protected (value_at blank_cell cells r c).what free
