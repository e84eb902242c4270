use Rattle.cept_rows.proofs.cell_look.take_up.Goals as goal

pub returns-else-not-holds : goal.returns-else-not-holds
returns-else-not-holds c = record { held = c.holds.ensures c.if-not-holds.false; is = c.requires.brush }
