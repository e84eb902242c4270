use Rattle.cept_screen_tests.proofs.editor.an_undo_and_a_redo_bring_back_the_pen.Given as goal

abbrev pub ghosts-make_edits : goal.ghosts-make_edits
ghosts-make_edits g a = record { name = a.blank.name; parts = a.blank.parts }
