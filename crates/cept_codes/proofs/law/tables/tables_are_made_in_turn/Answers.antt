use Rattle.cept_codes.proofs.Laws
use Rattle.cept_codes.proofs.law.tables.tables_are_made_in_turn.Goals as goal

pub returns-clause-none : goal.returns-clause-none
returns-clause-none g c = Laws.HasMadeRows-none

pub returns-clause-more : goal.returns-clause-more
returns-clause-more g c = Laws.HasMadeRows-more

pub returns-clause-kept : goal.returns-clause-kept
returns-clause-kept g c = Laws.HasMadeRows-kept

pub returns-clause-all : goal.returns-clause-all
returns-clause-all g c = Laws.HasMadeRows-all
