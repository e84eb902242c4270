use Rattle.cept_run.proofs.run.report_drawn.Given as goal

-- the ledger of the blank that is handed on
abbrev pub ghosts-report_stored : goal.ghosts-report_stored
ghosts-report_stored g a = record { name = a.blank.name; parts = a.blank.parts }
