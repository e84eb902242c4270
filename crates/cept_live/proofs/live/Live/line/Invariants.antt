use Rattle.cept_live.proofs.live.Live.line.Given as goal

-- the ledger of the blank that is handed on
abbrev pub ghosts-undo_redo_by : goal.ghosts-undo_redo_by
ghosts-undo_redo_by a = record { name = a.blank.name; parts = a.blank.parts }

abbrev pub ghosts-edit_by : goal.ghosts-edit_by
ghosts-edit_by a = record { name = a.blank.name; parts = a.blank.parts }
