use Rattle.std.proofs.Common.{◌||◌, false}
use Rattle.cept_codes.specs.Table.{HasMadeEntries, entry}
use Rattle.cept_rows.proofs.RowsSearched.{has_some_code}
use Rattle.cept_rows.proofs.naming.RowNames.flag_codes.Given as goal

abbrev pub invariant-loop-k : goal.invariant-loop-k
invariant-loop-k l =
    HasMadeEntries false 1 40 (λ c. entry false 1 l.initial.flags c || has_some_code l.self c)
    (entry false 1 l.initial.flags) l.flags l.k
