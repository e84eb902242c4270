-- A shelf in memory that fails only where an unknown name is selected. This project's own.
use Rattle.cept_outside.specs.declared.plain_shelf.PlainShelf.{PlainShelf}
use Rattle.cept_outside.specs.Rack.{rack_state}
use Rattle.cept_outside.specs.ShelfState.{ShelfState}

-- it tells all; its faults are the files missed
abbrev pub plain_shelf_state : PlainShelf → ShelfState
plain_shelf_state shelf = rack_state shelf.rack shelf.missed shelf.missed
