use Rattle.std.proofs.Common.{◌≡◌, take}
use Rattle.std.specs.List.{list_any, range_with_len}
use Rattle.cept_rows.proofs.RowsSearched.{has_some_code}
use Rattle.cept_rows.proofs.naming.RowNames.has_some_code.Given as goal

abbrev pub invariant-loop-k : goal.invariant-loop-k
invariant-loop-k l = l.found ≡ list_any (has_some_code l.self) (take l.k (range_with_len 1 40))
