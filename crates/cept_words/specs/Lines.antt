-- Lines and words of scripts and drawings (this project's own), and the numbers that words are.
use Rattle.std.specs.Prelude.{ℕ, ◌&&◌, List, [], ◌∷◌, ◌==◌, Option, Some, None, if◌then◌else◌}
use Rattle.std.specs.List.{slice_split}
use Rattle.cept_parser.specs.Bytes.{is_empty, is_digit, digit, two_digits}

-- the parts between line feeds as lines: a last one without a byte is no line
abbrev pub lines_of_parts : List (List ℕ) → List (List ℕ)
lines_of_parts [] = []
lines_of_parts (part ∷ []) = if is_empty part then [] else part ∷ []
lines_of_parts (part ∷ next ∷ parts) = part ∷ lines_of_parts (next ∷ parts)

-- the lines of bytes
abbrev pub lines : List ℕ → List (List ℕ)
lines bytes = lines_of_parts (slice_split (λ a. a == 0x0A) bytes)

-- the words of a line, cut at each single space
abbrev pub words : List ℕ → List (List ℕ)
words line = slice_split (λ a. a == 0x20) line

-- the number of a word: one or two digits
abbrev pub number : List ℕ → Option ℕ
number (a ∷ []) = if is_digit a then Some (digit a) else None
number (a ∷ b ∷ []) = if is_digit a && is_digit b then Some (two_digits a b) else None
number _ = None
