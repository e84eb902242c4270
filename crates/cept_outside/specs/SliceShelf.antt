-- A shelf over a caller's slices, that fails only where an unknown name is selected. This project's own.
use Rattle.std.specs.Prelude.{drop, Some, option_map}
use Rattle.cept_outside.specs.declared.slice_shelf.SliceFile.{SliceFile}
use Rattle.cept_outside.specs.declared.slice_shelf.SliceShelf.{SliceShelf}
use Rattle.cept_outside.specs.ShelfState.{ShelfState}
use Rattle.cept_outside.specs.Slices.{bytes_in, chosen_bytes_in}

-- it tells all; its faults are the files missed
abbrev pub slice_shelf_state : SliceShelf → ShelfState
slice_shelf_state shelf = record {
  files = Some (bytes_in shelf.files.now);
  selected = Some (option_map (λ (file : SliceFile). file.name.now) shelf.chosen);
  left = Some (drop shelf.at (chosen_bytes_in shelf.chosen));
  taken = shelf.at;
  ended = shelf.ended;
  missed = shelf.missed;
  faults = shelf.missed;
}
