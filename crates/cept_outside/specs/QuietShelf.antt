-- A shelf in memory that never fails. This project's own.
use Rattle.cept_outside.specs.declared.quiet_shelf.QuietShelf.{QuietShelf}
use Rattle.cept_outside.specs.Rack.{rack_state}
use Rattle.cept_outside.specs.ShelfState.{ShelfState}

-- it tells all, and counts no file missed and no fault
abbrev pub quiet_shelf_state : QuietShelf → ShelfState
quiet_shelf_state shelf = rack_state shelf.rack 0 0
