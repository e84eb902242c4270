use Rattle.cept_live.proofs.restore.bring_back.Given as goal

-- the ledger of the blank that is handed on
abbrev pub ghosts-read_into : goal.ghosts-read_into
ghosts-read_into a = record { name = a.blank.name; parts = a.blank.parts }
