-- What private clauses say beside `Cut` (this project's own).
use Rattle.std.specs.Prelude.{ℕ, ◌==◌, List, [], Option, Some, None}
use Rattle.std.specs.Borrow.{Bor}
use Rattle.std.specs.List.{slice_split}

-- the parts of what stands after a mark, if one does
abbrev pub parts_after : ℕ → Option (Bor (List ℕ)) → List (List ℕ)
parts_after mark None = []
parts_after mark (Some rest) = slice_split (λ a. a == mark) rest.now
