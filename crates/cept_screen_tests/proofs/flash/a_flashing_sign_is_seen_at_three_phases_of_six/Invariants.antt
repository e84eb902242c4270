use Rattle.cept_screen_tests.proofs.flash.a_flashing_sign_is_seen_at_three_phases_of_six.Given as goal

abbrev pub ghosts-painted : goal.ghosts-painted
ghosts-painted g a = record { name = a.blank.name; parts = a.blank.parts }
