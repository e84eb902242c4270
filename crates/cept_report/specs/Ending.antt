-- The fields of a look that stand after its shape, and how a line ends with them. This project's own.
use Rattle.std.specs.Prelude.{ℕ, ◌+◌, List, [], ◌∷◌, ◌++◌}
use Rattle.cept_codes.specs.declared.look.Look.{Look}
use Rattle.cept_report.specs.Ascii.{ascii}
use Rattle.cept_report.specs.Text.{fields_text}

-- how a line ends after the shape of a look
abbrev pub ending_text : Look → List ℕ
ending_text l = ascii " " ∷ fields_text l ++ ascii "\n" ∷ []
