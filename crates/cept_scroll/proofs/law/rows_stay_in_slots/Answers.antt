use Rattle.cept_scroll.proofs.RowsInOrder.{AreInSlots-set, AreInSlots-turned}
use Rattle.cept_scroll.proofs.law.rows_stay_in_slots.Goals as goal

pub returns-clause-written : goal.returns-clause-written
returns-clause-written g c = λ order kept are. AreInSlots-set are

pub returns-clause-turned : goal.returns-clause-turned
returns-clause-turned g c = λ order kept are. AreInSlots-turned are
