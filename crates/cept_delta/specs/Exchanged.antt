-- Old values exchanged with those of a state (this project's own): the state takes the old ones, and at the same locations
-- its values are noted. So the old values lead on from one of two states, and then back.
use Rattle.std.specs.Prelude.{ℕ, ◌≡◌, ◌≤◌, ◌<◌, Option, Some, None, is_some}
use Rattle.cept_codes.specs.Cell.{blank_cell}
use Rattle.cept_codes.specs.Place.{OnScreen}
use Rattle.cept_codes.specs.Table.{table, value_at}
use Rattle.cept_profile.specs.OldValues.{OldValues, old_cell, old_dclut, old_paint, old_pattern, old_row_pen}
use Rattle.cept_profile.specs.PageParts.{dclut_in, list_of_codes, list_of_colours, list_of_dclut, list_of_rows}
use Rattle.cept_profile.specs.PageParts.{paint_in, pattern_in, row_pen_in}
use Rattle.cept_profile.specs.State.{Page, State}

-- what is noted of a location with this value in place of an old one: the value where there is one, else nothing
abbrev pub noted_instead : {X : Type 0} → Option X → X → Option X
noted_instead None now = None
noted_instead (Some old) now = Some now

-- the values that a page has where old ones are noted, and what is noted of control
abbrev pub page_exchanged : Page → OldValues → OldValues
page_exchanged now old = record {
  cells = table (λ r c. noted_instead (old_cell old r c) (value_at blank_cell now.cells r c));
  row_pens = list_of_rows (λ r. noted_instead (old_row_pen old r) (row_pen_in now.row_pens r));
  screen_pen = noted_instead old.screen_pen now.screen_pen;
  paints = list_of_colours (λ i. noted_instead (old_paint old i) (paint_in now.paints i));
  dclut = list_of_dclut (λ i. noted_instead (old_dclut old i) (dclut_in now.dclut i));
  patterns = list_of_codes (λ d. noted_instead (old_pattern old d) (pattern_in now.patterns d));
  control = old.control;
}

-- the values that a state has where old ones are noted, and nothing elsewhere
abbrev pub exchanged : State → OldValues → OldValues
exchanged now old = record (page_exchanged now.page old) { control = noted_instead old.control now.control }

-- values are noted of the same locations
pub record HasSameLocations (old new : OldValues) : Type 0 where
  pub cells : (r c : ℕ) → OnScreen r c → is_some (old_cell new r c) ≡ is_some (old_cell old r c)
  pub row_pens : (r : ℕ) → 1 ≤ r → r ≤ 24 → is_some (old_row_pen new r) ≡ is_some (old_row_pen old r)
  pub screen_pen : is_some new.screen_pen ≡ is_some old.screen_pen
  pub paints : (i : ℕ) → i < 32 → is_some (old_paint new i) ≡ is_some (old_paint old i)
  pub dclut : (i : ℕ) → i < 4 → is_some (old_dclut new i) ≡ is_some (old_dclut old i)
  pub patterns : (d : ℕ) → 0x21 ≤ d → d ≤ 0x7E → is_some (old_pattern new d) ≡ is_some (old_pattern old d)
  pub control : is_some new.control ≡ is_some old.control
