-- What a rack of files tells as a shelf. This project's own.
use Rattle.std.specs.Prelude.{◌≡◌, ℕ, List, drop, Option, Some, false}
use Rattle.cept_outside.specs.declared.rack.Rack.{Rack}
use Rattle.cept_outside.specs.Files.{bytes_of, chosen_bytes, chosen_name}
use Rattle.cept_outside.specs.ShelfState.{ShelfState}

-- the name that is selected, if one is
abbrev pub name_of : Rack → Option (List ℕ)
name_of rack = chosen_name rack.files.items rack.selected

-- the selected bytes that weren't taken
abbrev pub left_of : Rack → List ℕ
left_of rack = drop rack.at (chosen_bytes rack.files.items rack.selected)

-- a shelf that tells all, with these counts
abbrev pub rack_state : Rack → ℕ → ℕ → ShelfState
rack_state rack missed faults = record {
  files = Some (bytes_of rack.files.items);
  selected = Some (name_of rack);
  left = Some (left_of rack);
  taken = rack.at;
  ended = rack.ended;
  missed = missed;
  faults = faults;
}

-- the files stay, and of none of them anything is taken
pub record BeginsAnew (before after : Rack) : Type 0 where
  pub files : after.files.items ≡ before.files.items
  pub start : after.at ≡ 0
  pub ended : after.ended ≡ false
