use Rattle.cept_codes.proofs.Laws
use Rattle.cept_codes.proofs.law.tables.tables_are_by_row.Goals as goal

pub returns-clause-row : goal.returns-clause-row
returns-clause-row g c = Laws.row_of-list_by_index

pub returns-clause-rows : goal.returns-clause-rows
returns-clause-rows g c = Laws.table-list_by_index

pub returns-clause-all : goal.returns-clause-all
returns-clause-all g c = Laws.rows_are

pub returns-clause-replaced : goal.returns-clause-replaced
returns-clause-replaced g c = Laws.set_row_is
