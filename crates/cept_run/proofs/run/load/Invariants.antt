use Rattle.cept_run.proofs.run.load.Given as goal

-- the ledger of the blank that is handed on
abbrev pub ghosts-report_generated : goal.ghosts-report_generated
ghosts-report_generated g a = record { name = a.blank.name; parts = a.blank.parts }
