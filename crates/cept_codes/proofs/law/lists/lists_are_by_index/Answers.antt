use Rattle.cept_codes.proofs.Laws
use Rattle.cept_codes.proofs.law.lists.lists_are_by_index.Goals as goal

pub returns-clause-count : goal.returns-clause-count
returns-clause-count g c = Laws.length-list_by_index

pub returns-clause-read : goal.returns-clause-read
returns-clause-read g c = Laws.entry-list_by_index

pub returns-clause-at : goal.returns-clause-at
returns-clause-at g c = Laws.entry_from

pub returns-clause-below : goal.returns-clause-below
returns-clause-below g c = Laws.entry_below

pub returns-clause-past : goal.returns-clause-past
returns-clause-past g c = Laws.entry_past

pub returns-clause-same : goal.returns-clause-same
returns-clause-same g c = Laws.same_lists

pub returns-clause-back : goal.returns-clause-back
returns-clause-back g c = Laws.list_by_index-entry

pub returns-clause-alike : goal.returns-clause-alike
returns-clause-alike g c = Laws.same_indexed

pub returns-clause-written : goal.returns-clause-written
returns-clause-written g c = Laws.set-entry
