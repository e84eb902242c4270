use Rattle.std.proofs.Common.{◌≡◌, take}
use Rattle.std.specs.List.{list_any, range_with_len}
use Rattle.cept_rows.proofs.RowsSearched.{has_code}
use Rattle.cept_rows.proofs.naming.RowNames.has_code.Given as goal

abbrev pub invariant-loop-k : goal.invariant-loop-k
invariant-loop-k l = l.found ≡ list_any (has_code l.self l.fn.code) (take l.k (range_with_len 1 40))
