use Rattle.cept_codes.proofs.Laws
use Rattle.cept_codes.proofs.law.tables.tables_are_by_place.Goals as goal

pub returns-clause-read : goal.returns-clause-read
returns-clause-read g c = Laws.value_at-table

pub returns-clause-whole : goal.returns-clause-whole
returns-clause-whole g c = Laws.IsTable-table

pub returns-clause-alike : goal.returns-clause-alike
returns-clause-alike g c = Laws.same_table

pub returns-clause-same : goal.returns-clause-same
returns-clause-same g c = Laws.same_tables

pub returns-clause-back : goal.returns-clause-back
returns-clause-back g c = Laws.table-value_at

pub returns-clause-written : goal.returns-clause-written
returns-clause-written g c = Laws.set-value_at

pub returns-clause-written_by_index : goal.returns-clause-written_by_index
returns-clause-written_by_index g c = Laws.set_is
