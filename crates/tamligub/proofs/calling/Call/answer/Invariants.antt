use Rattle.tamligub.proofs.calling.Call.answer.Given as goal

-- the slice that is lent
abbrev pub ghosts-fill : goal.ghosts-fill
ghosts-fill a = record { name = a.out.ghost_name; before = a.out.now }
