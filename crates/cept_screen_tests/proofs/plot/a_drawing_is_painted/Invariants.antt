use Rattle.cept_screen_tests.proofs.plot.a_drawing_is_painted.Given as goal

abbrev pub ghosts-painted : goal.ghosts-painted
ghosts-painted g a = record { name = a.blank.name; parts = a.blank.parts }

abbrev pub ghosts-draw : goal.ghosts-draw
ghosts-draw g a = record { name = a.blank.name; parts = a.blank.parts }
