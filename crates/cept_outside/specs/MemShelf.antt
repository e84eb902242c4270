-- A shelf in memory, whose calls fail where they are told to and at unknown names. This project's own.
use Rattle.std.specs.Prelude.{◌≡◌, ℕ, ◌+◌, ◌-◌, ◌^◌, min, List}
use Rattle.cept_outside.specs.declared.mem_shelf.MemShelf.{MemShelf}
use Rattle.cept_outside.specs.Calls.{faults_of}
use Rattle.cept_outside.specs.PlainShelf.{plain_shelf_state}
use Rattle.cept_outside.specs.ShelfState.{ShelfState}

-- how many calls were made
abbrev pub mem_shelf_count : MemShelf → ℕ
mem_shelf_count shelf = shelf.calls.count

-- the numbers of the calls that are to fail
abbrev pub mem_shelf_numbers : MemShelf → List ℕ
mem_shelf_numbers shelf = shelf.calls.numbers.items

-- it tells all; its faults are the numbers that are reached, and the files missed
abbrev pub mem_shelf_state : MemShelf → ShelfState
mem_shelf_state shelf = record (plain_shelf_state shelf.files) {
  faults = faults_of shelf.calls.numbers.items shelf.calls.count shelf.files.missed;
}

-- a select or a take: it is counted, and what the shelf was told stays
pub record IsCountedTake (before after : MemShelf) : Type 0 where
  pub count : mem_shelf_count after ≡ min (mem_shelf_count before + 1) (2 ^ 64 - 1)
  pub numbers : mem_shelf_numbers after ≡ mem_shelf_numbers before
