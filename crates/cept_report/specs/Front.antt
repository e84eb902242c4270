-- The parts of the line of a place. This project's own.
use Rattle.std.specs.Prelude.{ℕ, List, [], ◌∷◌, ◌++◌, decimal}
use Rattle.cept_codes.specs.declared.look.Look.{Look}
use Rattle.cept_codes.specs.Place.{Place}
use Rattle.cept_report.specs.Ascii.{ascii}
use Rattle.cept_report.specs.Text.{line_of, look_text}

-- the row and the column, with a space after each
abbrev pub place_text : Place → List ℕ
place_text p = decimal p.row ++ ascii " " ∷ decimal p.column ++ ascii " " ∷ []

-- a label and a place, with a space after each number
abbrev pub front_text : List ℕ → Place → List ℕ
front_text label p = label ++ ascii " " ∷ place_text p

-- what stands after a label: the row, the column and the look
abbrev pub cell_line : Place → Look → List ℕ
cell_line p l = line_of (decimal p.row ∷ decimal p.column ∷ look_text l ∷ [])
