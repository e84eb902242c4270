-- What private clauses say beside `Fit` (this project's own).
use Rattle.std.specs.Prelude.{ℕ, List, [], ◌∷◌, if◌then◌else◌}
use Rattle.cept_codes.specs.declared.item.Reason.TheVariants.{BadParameter}
use Rattle.cept_codes.specs.declared.item.Said.TheVariants.{Refused}
use Rattle.cept_parser.specs.declared.context.Context.{Context}
use Rattle.cept_parser.specs.declared.context.Mode.TheVariants.{Skip}
use Rattle.cept_parser.specs.declared.context.Outcome.{Outcome}
use Rattle.cept_parser.specs.declared.fit.Fit.{Fit}
use Rattle.cept_parser.specs.Bytes.{contains, outcome}
use Rattle.cept_parser.specs.Grammar.{standing}

-- the word for how these bytes stand to the grammar
abbrev pub word : Context → List ℕ → Fit
word x u = (standing x u).fit

-- the bytes after an optional part, if it is there
abbrev pub bytes_after : List ℕ → List ℕ → List ℕ
bytes_after part [] = []
bytes_after part (a ∷ u) = if contains part a then u else a ∷ u

-- a plain byte that can't begin or continue the unit of its run
abbrev pub misplacement : Context → Outcome
misplacement x = outcome x Skip (Refused BadParameter)

-- the optional parts of 1F 26 20: the kind, the form of the colours, and the form of one byte
abbrev pub colour_parts : List (List ℕ)
colour_parts = (0x20 ∷ 0x22 ∷ []) ∷ (0x34 ∷ []) ∷ (0x40 ∷ []) ∷ []

-- the optional parts of 1F 2D: the rows, and whether positions wrap
abbrev pub format_parts : List (List ℕ)
format_parts = (0x41 ∷ 0x42 ∷ []) ∷ (0x70 ∷ 0x71 ∷ []) ∷ []
