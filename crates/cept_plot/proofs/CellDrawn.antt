-- The commands of a cell put it once, and leave control as it is while a set of points is drawn.
use Rattle.std.proofs.Common.{◌≡◌, ℕ, ◌+◌, ◌/◌, ◌%◌, ◌<◌, ◌≤◌, ◌==◌, Bool, true, false, cond, List, [], ◌∷◌}
use Rattle.std.proofs.Common.{refl, ap, ◌∙◌, inl, arith}
use Rattle.cept_codes.specs.declared.cell.Cell.{Cell}
use Rattle.cept_codes.specs.declared.command.Command.{Command}
use Rattle.cept_codes.specs.declared.command.Command.TheVariants as commands
use Rattle.cept_codes.specs.declared.glyph.Glyph.{Glyph}
use Rattle.cept_codes.specs.declared.glyph.SetId.TheVariants as sets
use Rattle.cept_codes.specs.declared.cell.What.TheVariants as whats
use Rattle.cept_codes.specs.Attribute.{unset_pen}
use Rattle.cept_codes.specs.Place.{OnScreen, Place}
use Rattle.cept_profile.specs.Sets.{initial_sets, sign}
use Rattle.cept_profile.specs.State.{Core, Page, State, state_after}
use Rattle.cept_profile.specs.Valid.{AllValid, IsValidPage}
use Rattle.cept_plot.specs.Commands.{code_of_value, is_written_anew, value_commands}
use Rattle.cept_plot.specs.Commands.{value_of_points}
use Rattle.cept_plot.proofs.CommandsInTurn.{numbered_cell_commands}
use Rattle.cept_plot.specs.inside.Drawing.{cell_of_value}
use Rattle.cept_repaint.specs.InTurn.{state_after_all}
use Rattle.cept_plot.proofs.ControlInDrawing.{Hand, control_at, hand_after, hand_at, mosaic_gives, mosaic_sets}
use Rattle.cept_plot.proofs.ControlInDrawing.{position-control, sign-control, sign-strokes, space_gives}
use Rattle.cept_plot.proofs.PutOnPage.{page_with, puts_one, silent, state_of}
use Rattle.cept_plot.proofs.ValuesWritten.{code_of_value-range, value_of_points-lt}

-- one command before others
pub first_of_all : (s t : State) (command : Command) (more : List Command) → state_after s command ≡ t
    → state_after_all s (command ∷ more) ≡ state_after_all t more
unfolding state_after_all
first_of_all s t command more after = ap (λ (u : State). state_after_all u more) after

pub none_of_all : (s : State) → state_after_all s [] ≡ s
unfolding state_after_all
none_of_all s = refl

-- a sign without pen or protection
abbrev pub cell_of_sign : Glyph → Cell
cell_of_sign g = record { what = whats.Parallel g unset_pen; protected = false }

-- a page on which a cell was put, and control as it is while a set of points is drawn
pub record IsPut (k : Core) (p : Page) (at : Place) (cell : Cell) (now : State) : Type 0 where
  pub hand : Hand
  pub is : now ≡ state_of (page_with p at cell) (control_at k initial_sets hand)

module _ (k : Core) (p : Page) (v : Hand) (at : Place) (is : IsValidPage p) (within : at.row ≤ k.rows) where
  -- before the position and after it
  abbrev before : State
  before = state_of p (control_at k initial_sets v)

  abbrev placed : State
  placed = state_of p (control_at k initial_sets (hand_at at v))

  position : state_after before (commands.Position at.row at.column) ≡ placed
  position =
      silent p (control_at k initial_sets v) (control_at k initial_sets (hand_at at v))
      (commands.Position at.row at.column) (position-control k v at within) refl

  space : IsPut k p at (cell_of_sign (sign sets.P 0x20))
      (state_after_all before (commands.Position at.row at.column ∷ commands.Graphic 0x20 ∷ []))
  space =
      let g : Glyph = sign sets.P 0x20 in
      let w : Hand = hand_at at v in
      let last : Hand = hand_after k initial_sets w g in
      let after : State = state_of (page_with p at (cell_of_sign g)) (control_at k initial_sets last) in
      record {
        hand = last;
        is = first_of_all before placed (commands.Position at.row at.column) (commands.Graphic 0x20 ∷ []) position
            ∙ first_of_all placed after (commands.Graphic 0x20) []
            (puts_one p (control_at k initial_sets w) (control_at k initial_sets last) (commands.Graphic 0x20) at
            (cell_of_sign g) is (sign-control k initial_sets w 0x20 g space_gives)
            (sign-strokes k initial_sets w 0x20 g space_gives))
            ∙ none_of_all after;
      }

  mosaic : (code : ℕ) → 0x21 ≤ code → code ≤ 0x7F → IsPut k p at (cell_of_sign (sign sets.M code))
      (state_after_all before
      (commands.Position at.row at.column ∷ commands.LockLeft 1 ∷ commands.Graphic code ∷ commands.LockLeft 0 ∷ []))
  mosaic code low high =
      let g : Glyph = sign sets.M code in
      let w : Hand = hand_at at v in
      let last : Hand = hand_after k mosaic_sets w g in
      let page : Page = page_with p at (cell_of_sign g) in
      let locked : State = state_of p (control_at k mosaic_sets w) in
      let written : State = state_of page (control_at k mosaic_sets last) in
      let after : State = state_of page (control_at k initial_sets last) in
      record {
        hand = last;
        is = first_of_all before placed (commands.Position at.row at.column)
            (commands.LockLeft 1 ∷ commands.Graphic code ∷ commands.LockLeft 0 ∷ []) position
            ∙ first_of_all placed locked (commands.LockLeft 1) (commands.Graphic code ∷ commands.LockLeft 0 ∷ [])
            (silent p (control_at k initial_sets w) (control_at k mosaic_sets w) (commands.LockLeft 1) refl refl)
            ∙ first_of_all locked written (commands.Graphic code) (commands.LockLeft 0 ∷ [])
            (puts_one p (control_at k mosaic_sets w) (control_at k mosaic_sets last) (commands.Graphic code) at
            (cell_of_sign g) is (sign-control k mosaic_sets w code g (mosaic_gives code low high))
            (sign-strokes k mosaic_sets w code g (mosaic_gives code low high)))
            ∙ first_of_all written after (commands.LockLeft 0) []
            (silent page (control_at k mosaic_sets last) (control_at k initial_sets last) (commands.LockLeft 0) refl
            refl)
            ∙ none_of_all after;
      }

  -- any value
  pub value_put : (value : ℕ) → value < 64 → IsPut k p at (cell_of_value value)
      (state_after_all (state_of p (control_at k initial_sets v))
      (commands.Position at.row at.column ∷ value_commands value))
  value_put value below = by_test (value == 0) refl where
    by_test : (t : Bool) → (value == 0) ≡ t
        → IsPut k p at (cell_of_sign (cond t (sign sets.P 0x20) (sign sets.M (code_of_value value))))
        (state_after_all (state_of p (control_at k initial_sets v)) (commands.Position at.row at.column ∷ cond t
        (commands.Graphic 0x20 ∷ [])
        (commands.LockLeft 1 ∷ commands.Graphic (code_of_value value) ∷ commands.LockLeft 0 ∷ [])))
    by_test true none = space
    by_test false some =
        let range = code_of_value-range value below some in mosaic (code_of_value value) range.0 range.1

-- ---- the commands of a number

module _ (k : Core) (f : ℕ → ℕ → Bool) (n : ℕ) where
  -- by whether it is written
  commands_by : Bool → List Command
  commands_by t = cond t (commands.Position (n / 40 + 1) (n % 40 + 1)
      ∷ value_commands (value_of_points f (n / 40 + 1) (n % 40 + 1))) []

  pub commands_written : is_written_anew k f (n / 40 + 1) (n % 40 + 1) ≡ true → numbered_cell_commands k f n
      ≡ commands.Position (n / 40 + 1) (n % 40 + 1) ∷ value_commands (value_of_points f (n / 40 + 1) (n % 40 + 1))
  unfolding commands_by
  commands_written anew = ap commands_by anew

  pub commands_none : is_written_anew k f (n / 40 + 1) (n % 40 + 1) ≡ false → numbered_cell_commands k f n ≡ []
  unfolding commands_by
  commands_none stays = ap commands_by stays

-- they are valid
value_valid : (v : ℕ) → v < 64 → AllValid (value_commands v)
value_valid v below = by_value (v == 0) refl where
  by_value : (t : Bool) → (v == 0) ≡ t → AllValid (cond t (commands.Graphic 0x20 ∷ [])
      (commands.LockLeft 1 ∷ commands.Graphic (code_of_value v) ∷ commands.LockLeft 0 ∷ []))
  by_value true none = (inl (omega arith, omega arith), tt)
  by_value false some =
      let range = code_of_value-range v below some in
      (omega arith, (inl (omega (arith, range.0), range.1), (omega arith, tt)))

pub commands_valid : (f : ℕ → ℕ → Bool) (r c : ℕ) → OnScreen r c
    → AllValid (commands.Position r c ∷ value_commands (value_of_points f r c))
commands_valid f r c on = (on, value_valid (value_of_points f r c) (value_of_points-lt f r c))
