-- Old values noted before strokes (own): those of the locations that each may change.
use Rattle.std.specs.Prelude.{ℕ, Bool, true, ◌==◌, ◌&&◌, nat_le, List, [], ◌∷◌}
use Rattle.cept_codes.specs.declared.command.Command.{Command}
use Rattle.cept_codes.specs.declared.stroke.Stroke.{Stroke}
use Rattle.cept_codes.specs.declared.stroke.Stroke.TheVariants as strokes
use Rattle.cept_codes.specs.Cell.{blank_cell}
use Rattle.cept_codes.specs.Table.{value_at}
use Rattle.cept_profile.specs.Cells.{is_at, moves}
use Rattle.cept_profile.specs.OldValues.{OldValues, with_cells, with_control, with_dclut, with_paints, with_patterns}
use Rattle.cept_profile.specs.OldValues.{with_row_pens, with_screen_pen}
use Rattle.cept_profile.specs.PageParts.{dclut_in, paint_in, pattern_in, row_pen_in}
use Rattle.cept_profile.specs.State.{Page, State, page_after}
use Rattle.cept_profile.specs.Strokes.{strokes_of}

-- the values of these cells of a page
abbrev pub with_cells_of : Page → (ℕ → ℕ → Bool) → OldValues → OldValues
with_cells_of p these old = with_cells these (value_at blank_cell p.cells) old

-- of the attributes of these rows
abbrev pub with_row_pens_of : Page → (ℕ → Bool) → OldValues → OldValues
with_row_pens_of p these old = with_row_pens these (row_pen_in p.row_pens) old

-- of these colour entries
abbrev pub with_paints_of : Page → (ℕ → Bool) → OldValues → OldValues
with_paints_of p these old = with_paints these (paint_in p.paints) old

-- of these entries of the DCLUT
abbrev pub with_dclut_of : Page → (ℕ → Bool) → OldValues → OldValues
with_dclut_of p these old = with_dclut these (dclut_in p.dclut) old

-- of the patterns of these codes
abbrev pub with_patterns_of : Page → (ℕ → Bool) → OldValues → OldValues
with_patterns_of p these old = with_patterns these (pattern_in p.patterns) old

-- old values after those that a stroke may change on a page are noted
abbrev pub with_stroke : Page → Stroke → OldValues → OldValues
with_stroke p (strokes.Put place cell) old = with_cells_of p (is_at place) old
with_stroke p (strokes.Erase row from) old = with_cells_of p (λ r c. row == r && nat_le from c) old
with_stroke p strokes.Wipe old = with_row_pens_of p (λ r. true) (with_cells_of p (λ r c. true) old)
with_stroke p (strokes.Shift first last way) old = with_cells_of p (λ r c. moves (strokes.Shift first last way) r) old
with_stroke p (strokes.Carry first last way) old =
    with_row_pens_of p (moves (strokes.Carry first last way))
    (with_cells_of p (λ r c. moves (strokes.Carry first last way) r) old)
with_stroke p (strokes.RowAttr row attr) old = with_row_pens_of p (λ r. row == r) old
with_stroke p (strokes.ScreenAttr attr) old = with_screen_pen p.screen_pen old
with_stroke p strokes.ScreenClear old = with_screen_pen p.screen_pen old
with_stroke p (strokes.Colour i paint) old = with_paints_of p (λ j. i == j) old
with_stroke p (strokes.Dclut i v) old = with_dclut_of p (λ j. i == j) old
with_stroke p strokes.ColourDefaults old = with_dclut_of p (λ i. true) (with_paints_of p (λ i. true) old)
with_stroke p strokes.DrcsClear old = with_patterns_of p (λ d. true) old
with_stroke p (strokes.Drcs code pattern) old = with_patterns_of p (λ d. code == d) old
with_stroke p (strokes.Format rows) old = old

-- and after several, each noted before it is drawn
unfoldable pub with_strokes : Page → List Stroke → OldValues → OldValues
with_strokes p [] old = old
with_strokes p (stroke ∷ more) old = with_strokes (page_after p (stroke ∷ [])) more (with_stroke p stroke old)

-- old values after those that a command may change in a state are noted, and control's
abbrev pub with_command : State → Command → OldValues → OldValues
with_command s command old = with_strokes s.page (strokes_of s.control command) (with_control s.control old)
