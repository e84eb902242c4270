use Rattle.std.proofs.Common.{◌≡◌, ℕ, ◌+◌, ◌<◌, ◌≤◌, None, Option, length, slice_index_or}
use Rattle.cept_codes.specs.declared.attribute.Full.{Full}
use Rattle.cept_codes.specs.declared.glyph.Glyph.{Glyph}
use Rattle.cept_profile.specs.Serial.{held_sign, row_in, serial_attributes}
use Rattle.cept_profile.specs.Influence.{influence}
use Rattle.cept_attrs.specs.Walk.{influence_with_sign_at}
use Rattle.cept_attrs.proofs.serial.serial_cells.Given as goal

-- with the sign of the cell to the left, what is carried is what looking back finds; the cells left of here are done
abbrev pub invariant-loop-i : goal.invariant-loop-i
invariant-loop-i l = record {
  influence : influence (row_in l.cells) l.row l.screen l.i ≡ influence_with_sign_at (row_in l.cells) l.i l.influence;
  full : (k : ℕ) (d : Full) → k < l.i → slice_index_or l.full k d
      ≡ serial_attributes (row_in l.cells) l.row l.screen (k + 1);
  held : (k : ℕ) (d : Option Glyph) → k < l.i → slice_index_or l.held k d ≡ held_sign (row_in l.cells) (k + 1);
  none_held : (k : ℕ) (d : Option Glyph) → l.i ≤ k → k < 40 → slice_index_or l.held k d ≡ None;
  full_columns : length l.full ≡ 40;
  held_columns : length l.held ≡ 40;
}
