use Rattle.cept_scroll.proofs.Orders.{by_row-first, by_row-with_slot}
use Rattle.cept_scroll.proofs.SlotsHeld.{slot_held}
use Rattle.cept_scroll.proofs.law.slots_hold_one_row.Goals as goal

pub returns-clause-first : goal.returns-clause-first
returns-clause-first g c = by_row-first

pub returns-clause-held : goal.returns-clause-held
returns-clause-held g c = slot_held

pub returns-clause-written : goal.returns-clause-written
returns-clause-written g c = by_row-with_slot
