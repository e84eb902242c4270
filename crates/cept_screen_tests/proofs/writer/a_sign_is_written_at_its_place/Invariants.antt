use Rattle.cept_screen_tests.proofs.writer.a_sign_is_written_at_its_place.Given as goal

abbrev pub ghosts-painted : goal.ghosts-painted
ghosts-painted g a = record { name = a.blank.name; parts = a.blank.parts }
