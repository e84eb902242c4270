-- What private clauses say beside `EntryPieces` (this project's own).
use Rattle.std.specs.Prelude.{ℕ, ◌+◌, Bool, false, List, [], ◌∷◌, ◌==◌, Option, Some, None}
use Rattle.std.specs.Prelude.{if◌then◌else◌}
use Rattle.cept_codes.specs.declared.command.Command.{Command}
use Rattle.cept_codes.specs.declared.command.Command.TheVariants as commands
use Rattle.cept_codes.specs.declared.command.Form.{Form}
use Rattle.cept_codes.specs.Same.{same_form}
use Rattle.cept_parser.specs.Spelling.{form_of}
use Rattle.cept_writer.specs.declared.last.LastPattern.{LastPattern}
use Rattle.cept_writer.specs.CompactCommands.{CodedPattern, NumberedColour}
use Rattle.cept_writer.specs.EntryPieces.{headed_piece}

-- ---- by what is kept of the last one

-- the number after that of the last entry, none where there is no last one
abbrev pub number_after : List NumberedColour → Option ℕ
number_after [] = None
number_after (d ∷ more) = Some (d.number + 1)

-- this number comes directly after that of the last entry
abbrev pub is_next_number : Option ℕ → ℕ → Bool
is_next_number None i = false
is_next_number (Some next) i = next == i

-- an entry by that number
abbrev pub entry_after : Option ℕ → NumberedColour → List Command
entry_after next e =
    if is_next_number next e.number then commands.Entry e.number e.colour ∷ []
    else commands.ColourStart e.number ∷ commands.Entry e.number e.colour ∷ []

-- none or one of them, by that number
abbrev pub entries_after : Option ℕ → List NumberedColour → List Command
entries_after next [] = []
entries_after next (e ∷ more) = entry_after next e

-- the number after that of the last entry then
abbrev pub number_then : Option ℕ → List NumberedColour → Option ℕ
number_then next [] = next
number_then next (e ∷ more) = number_after (e ∷ more)

-- what is kept of the last pattern, none where there is no last one
abbrev pub last_pattern : List CodedPattern → Option LastPattern
last_pattern [] = None
last_pattern (c ∷ more) = Some (record { form = form_of c.pattern; next = c.code + 1 })

-- the last pattern has this form
abbrev pub has_form : Option LastPattern → Form → Bool
has_form None form = false
has_form (Some last) form = same_form last.form form

-- this code comes directly after that of the last pattern
abbrev pub is_code_next : Option LastPattern → ℕ → Bool
is_code_next None code = false
is_code_next (Some last) code = last.next == code

-- a pattern by what is kept of the last one
abbrev pub pattern_after : Option LastPattern → CodedPattern → List Command
pattern_after last d =
    if has_form last (form_of d.pattern) then (if is_code_next last d.code then commands.DrcsPattern d.code d.pattern ∷ []
    else commands.DrcsStart d.code ∷ commands.DrcsPattern d.code d.pattern ∷ [])
    else headed_piece d

-- none or one of them, by what is kept of the last one
abbrev pub patterns_after : Option LastPattern → List CodedPattern → List Command
patterns_after last [] = []
patterns_after last (d ∷ more) = pattern_after last d

-- what is kept of the last pattern then
abbrev pub last_then : Option LastPattern → List CodedPattern → Option LastPattern
last_then last [] = last
last_then last (d ∷ more) = last_pattern (d ∷ more)
