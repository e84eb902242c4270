-- The order in which a page is put (own): its colour entries and patterns, a piece for each, by the last one before it.
-- `CompactCommands` defines the page. Private clauses alone cite what stands from "by what is kept of the last one" on.
use Rattle.std.specs.Prelude.{ℕ, zero, suc, ◌+◌, false, List, [], ◌∷◌, flat_map, Option}
use Rattle.std.specs.Prelude.{if◌then◌else◌}
use Rattle.std.specs.List.{range_with_len}
use Rattle.cept_codes.specs.declared.command.Command.{Command}
use Rattle.cept_codes.specs.declared.command.Command.TheVariants as commands
use Rattle.cept_codes.specs.declared.look.Paint.{Paint}
use Rattle.cept_codes.specs.declared.look.Pattern.{Pattern}
use Rattle.cept_parser.specs.Spelling.{form_of}
use Rattle.cept_profile.specs.PageParts.{paint_in, pattern_in}
use Rattle.cept_writer.specs.CompactCommands.{CodedPattern, NumberedColour, changed_entry, coded_pattern, is_next_code}
use Rattle.cept_writer.specs.CompactCommands.{is_next_entry, is_of_same_form}

-- ---- what stands for each number

-- the later one of two, none where there is none
abbrev pub later_of : {X : Type 0} → List X → List X → List X
later_of [] earlier = earlier
later_of (x ∷ more) earlier = x ∷ []

-- the last of what stands for the first n numbers
unfoldable pub last_below : {X : Type 0} → (ℕ → List X) → ℕ → List X
last_below of_number zero = []
last_below of_number (suc n) = later_of (of_number n) (last_below of_number n)

-- the piece of what stands there, by the last one before it
abbrev pub piece_after : {X : Type 0} → (List X → X → List Command) → List X → List X → List Command
piece_after piece last [] = []
piece_after piece last (x ∷ more) = piece last x

-- the pieces of the first n numbers
unfoldable pub pieces_in_turn : {X : Type 0} → (List X → X → List Command) → (ℕ → List X) → ℕ → List Command
pieces_in_turn piece of_number n =
    flat_map (λ j. piece_after piece (last_below of_number j) (of_number j)) (range_with_len 0 n)

-- ---- colour entries

-- an entry, after its number where none is before it or it isn't the next one
abbrev pub entry_piece : List NumberedColour → NumberedColour → List Command
entry_piece [] e = commands.ColourStart e.number ∷ commands.Entry e.number e.colour ∷ []
entry_piece (d ∷ more) e =
    if is_next_entry d e then commands.Entry e.number e.colour ∷ []
    else commands.ColourStart e.number ∷ commands.Entry e.number e.colour ∷ []

-- the entry of a number where it differs
abbrev pub entry_numbered : List Paint → ℕ → List NumberedColour
entry_numbered defined n = changed_entry n (paint_in defined n)

-- ---- patterns

-- a pattern after its header and its code
abbrev pub headed_piece : CodedPattern → List Command
headed_piece d =
    commands.DrcsHeader false (form_of d.pattern) ∷ commands.DrcsStart d.code ∷ commands.DrcsPattern d.code d.pattern ∷ []

-- a pattern, after its header and its code where none is before it or its form is another one, and after its code where
-- it isn't the next one
abbrev pub pattern_piece : List CodedPattern → CodedPattern → List Command
pattern_piece [] d = headed_piece d
pattern_piece (c ∷ more) d =
    if is_of_same_form c d then (if is_next_code c d then commands.DrcsPattern d.code d.pattern ∷ []
    else commands.DrcsStart d.code ∷ commands.DrcsPattern d.code d.pattern ∷ [])
    else headed_piece d

-- the pattern of the code with this number, from 2/1 on
abbrev pub pattern_numbered : List (Option Pattern) → ℕ → List CodedPattern
pattern_numbered patterns n = coded_pattern (0x21 + n) (pattern_in patterns (0x21 + n))
