use Rattle.cept_screen_tests.proofs.report.a_painted_sign_is_shown_and_reported.Given as goal

abbrev pub ghosts-painted : goal.ghosts-painted
ghosts-painted g a = record { name = a.blank.name; parts = a.blank.parts }
