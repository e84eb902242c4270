-- Old values put back at some of their locations (this project's own).
use Rattle.std.specs.Prelude.{ℕ, Bool, Option, List, unwrap_or, if◌then◌else◌}
use Rattle.cept_codes.specs.declared.cell.Cell.{Cell}
use Rattle.cept_codes.specs.Cell.{blank_cell}
use Rattle.cept_codes.specs.Table.{entry, list_by_index, table, value_at}

-- a value, or the old one in its place where this is one of the locations and there is an old one
abbrev pub value_back : {X : Type 0} → Bool → Option X → X → X
value_back here old value = if here then unwrap_or old value else value

-- cells after the old ones are put back at these places
abbrev pub cells_back : (ℕ → ℕ → Bool) → (ℕ → ℕ → Option Cell) → List (List Cell) → List (List Cell)
cells_back these old cells = table (λ r c. value_back (these r c) (old r c) (value_at blank_cell cells r c))

-- a list of so many entries, by an index that starts at `from`, after the old ones are put back at these indexes
abbrev pub entries_back : {X : Type 0} → X → ℕ → ℕ → (ℕ → Bool) → (ℕ → Option X) → List X → List X
entries_back default from count these old list =
    list_by_index from count (λ k. value_back (these k) (old k) (entry default from list k))
