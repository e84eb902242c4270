use Rattle.cept_screen_tests.proofs.repaint.what_was_noted_is_put_back.Given as goal

abbrev pub ghosts-put_back : goal.ghosts-put_back
ghosts-put_back g a = record { name = a.blank.name; parts = a.blank.parts }
