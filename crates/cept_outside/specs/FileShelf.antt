-- A shelf of files of the machine. This project's own.
use Rattle.std.specs.Prelude.{ℕ, Bool, None}
use Rattle.cept_outside.specs.ShelfState.{ShelfState}

-- a shelf that tells no bytes and counts no file missed, with these counts and this knowledge of the end
abbrev pub untold_shelf : ℕ → Bool → ℕ → ShelfState
untold_shelf taken ended faults = record {
  files = None;
  selected = None;
  left = None;
  taken = taken;
  ended = ended;
  missed = 0;
  faults = faults;
}
