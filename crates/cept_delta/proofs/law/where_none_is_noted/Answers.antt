use Rattle.cept_delta.proofs.NoneNoted.{entry_none, unnoted}
use Rattle.cept_delta.proofs.UnnotedRows.{cell_stays, pen_stays}
use Rattle.cept_delta.proofs.law.where_none_is_noted.Goals as goal

pub returns-clause-entries : goal.returns-clause-entries
returns-clause-entries g c = entry_none

pub returns-clause-rows : goal.returns-clause-rows
returns-clause-rows g c = unnoted

pub returns-clause-cells : goal.returns-clause-cells
returns-clause-cells g c = cell_stays

pub returns-clause-attributes : goal.returns-clause-attributes
returns-clause-attributes g c = pen_stays
