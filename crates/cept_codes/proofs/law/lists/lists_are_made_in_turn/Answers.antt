use Rattle.cept_codes.proofs.Laws
use Rattle.cept_codes.proofs.law.lists.lists_are_made_in_turn.Goals as goal

pub returns-clause-empty : goal.returns-clause-empty
returns-clause-empty g c = Laws.indexed_none

pub returns-clause-added : goal.returns-clause-added
returns-clause-added g c = Laws.indexed_more

pub returns-clause-none : goal.returns-clause-none
returns-clause-none g c = Laws.HasMadeEntries-none

pub returns-clause-more : goal.returns-clause-more
returns-clause-more g c = Laws.HasMadeEntries-more

pub returns-clause-all : goal.returns-clause-all
returns-clause-all g c = Laws.HasMadeEntries-all
