-- What an attribute is written for: signs, a row or the screen, each with codes of its own (the C1 codes of signs are after
-- T/CD 6-1; the forms for a row and for the screen are this profile's own).
use Rattle.std.specs.Prelude.{ℕ, List, [], ◌∷◌}
use Rattle.cept_codes.specs.declared.command.Command.{Command}
use Rattle.cept_codes.specs.declared.command.Command.TheVariants as commands
use Rattle.cept_writer.specs.declared.list.Reach.{Reach}
use Rattle.cept_writer.specs.declared.list.Reach.TheVariants as reaches

-- the code of this number
abbrev pub code_of : Reach → ℕ → Command
code_of reaches.Signs n = commands.C1 n
code_of reaches.Row n = commands.FullRow n
code_of reaches.Screen n = commands.FullScreen n

-- commands after their header; none where it stands alone
abbrev pub after_header : List Command → List Command
after_header [] = []
after_header (header ∷ []) = []
after_header (header ∷ (first ∷ more)) = header ∷ (first ∷ more)
