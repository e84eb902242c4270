use Rattle.cept_screen_tests.proofs.undo.a_redo_brings_an_edit_back.Given as goal

abbrev pub ghosts-undone_and_redone : goal.ghosts-undone_and_redone
ghosts-undone_and_redone g a = record { name = a.blank.name; parts = a.blank.parts }
