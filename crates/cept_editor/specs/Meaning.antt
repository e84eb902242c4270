-- What a line of a script means (this project's own): nothing, a step, or the reason for which it is outside the
-- grammar.
use Rattle.std.specs.Prelude.{ℕ, ◌+◌, ◌*◌, ◌<◌, Bool, ◌==◌, List, [], ◌∷◌, map, length, drop, Option, Some, None}
use Rattle.std.specs.Prelude.{Result, Ok, Err, if◌then◌else◌}
use Rattle.std.specs.List.{list_all, list_any, AllByRecursion}
use Rattle.std.specs.Option.{option_map, option_transpose, option_zip}
use Rattle.hex.specs.Hex.{hex_digit_value}
use Rattle.cept_codes.specs.Command.{IsValidCommand}
use Rattle.cept_codes.specs.declared.command.Command.{Command}
use Rattle.cept_codes.specs.declared.command.Command.TheVariants.{LockLeft, Graphic}
use Rattle.cept_codes.specs.declared.line_reason.LineReason.{LineReason}
use Rattle.cept_codes.specs.declared.line_reason.LineReason.TheVariants as reasons
use Rattle.cept_parser.specs.Bytes.{is_between}
use Rattle.cept_parser.specs.Items.{is_refusal, closed_items, commands}
use Rattle.cept_words.specs.Lines.{number, words}
pub use Rattle.cept_editor.specs.declared.undo_redo.UndoRedo.{UndoRedo as UndoRedoKind}
pub use Rattle.cept_editor.specs.declared.undo_redo.UndoRedo.TheVariants.{Undo, Redo}
use Rattle.cept_editor.specs.Table.{Row, row_of, Alone, One, Two, Four, Text, Raw, UndoRedo as UndoRedoRow}

-- what an edit line does: it is an undo or a redo, or an edit of these commands
pub data Step : Type 0 where
  UndoRedo : UndoRedoKind → Step
  Edit : List Command → Step

-- each command of a step is valid
abbrev pub IsValidStep : Step → Type 0
IsValidStep (UndoRedo which) = Unit {0}
IsValidStep (Edit cs) = AllByRecursion IsValidCommand cs

-- an edit has a command
abbrev pub HasCommand : Step → Type 0
HasCommand (UndoRedo which) = Unit {0}
HasCommand (Edit cs) = 0 < length cs

-- how many commands an edit has; an undo or a redo counts as one
abbrev pub command_count : Step → ℕ
command_count (UndoRedo which) = 1
command_count (Edit cs) = length cs

-- what a number decides, where the word is one
abbrev pub given : Option ℕ → (ℕ → Result Step LineReason) → Result Step LineReason
given (Some a) decide = decide a
given None decide = Err reasons.BadNumber

-- a command, where its numbers are in their ranges
abbrev pub ranged : Bool → Command → Result Step LineReason
ranged fits c = if fits then Ok (Edit (c ∷ [])) else Err reasons.BadNumber

-- a step without a word after it
abbrev pub alone : Step → List (List ℕ) → Result Step LineReason
alone step [] = Ok step
alone step (v ∷ more) = Err reasons.WrongCount

-- a command of one number
abbrev pub one : (ℕ → Bool) → (ℕ → Command) → List (List ℕ) → Result Step LineReason
one fits command (v ∷ []) = given (number v) (λ a. ranged (fits a) (command a))
one fits command _ = Err reasons.WrongCount

-- a command of two numbers
abbrev pub two : (ℕ → ℕ → Bool) → (ℕ → ℕ → Command) → List (List ℕ) → Result Step LineReason
two fits command (v ∷ w ∷ []) =
    given (number v) (λ a. given (number w) (λ b. ranged (fits a b) (command a b)))
two fits command _ = Err reasons.WrongCount

-- a command of four numbers
abbrev pub four : (ℕ → ℕ → ℕ → ℕ → Bool) → (ℕ → ℕ → ℕ → ℕ → Command) → List (List ℕ)
    → Result Step LineReason
four fits command (u ∷ v ∷ w ∷ x ∷ []) =
    given (number u) (λ a. given (number v) (λ b. given (number w) (λ c. given (number x) (λ d.
    ranged (fits a b c d) (command a b c d)))))
four fits command _ = Err reasons.WrongCount

-- the signs after the word and one space, at least one, each of 2/0 to 7/14: G0 is locked to the left bytes, and then each
-- sign is written
abbrev pub text : List ℕ → Result Step LineReason
text [] = Err reasons.WrongCount
text (a ∷ more) =
    if list_all (is_between 0x20 0x7E) (a ∷ more) then Ok (Edit (LockLeft 0 ∷ map Graphic (a ∷ more)))
    else Err reasons.BadText

-- the byte of two hexadecimal digits, the high one first
abbrev pub byte_of : Option ℕ → Option ℕ → Option ℕ
byte_of (Some high) (Some low) = Some (high * 16 + low)
byte_of _ _ = None

-- the bytes of pairs of hexadecimal digits of either case
unfoldable pub hex_bytes : List ℕ → Option (List ℕ)
hex_bytes [] = Some []
hex_bytes (high ∷ []) = None
hex_bytes (high ∷ low ∷ more) =
    option_map (λ read. read.0 ∷ read.1)
    (option_zip (byte_of (hex_digit_value high) (hex_digit_value low)) (hex_bytes more))

-- the edit of at least one byte, read by a parser from its start to its end, which refuses none of its items
abbrev pub bytes_step : Option (List ℕ) → Result Step LineReason
bytes_step (Some (a ∷ more)) =
    if list_any (λ i. is_refusal i.what) (closed_items (a ∷ more)) then Err reasons.BadBytes else Ok (Edit (commands (a ∷ more)))
bytes_step _ = Err reasons.BadHex

-- the edit of one word of hexadecimal digits
abbrev pub raw : List (List ℕ) → Result Step LineReason
raw (v ∷ []) = bytes_step (hex_bytes v)
raw _ = Err reasons.WrongCount

-- what the words after the first mean, and what stands after it and one space, by the row of the table
abbrev pub step_by : Option Row → List (List ℕ) → List ℕ → Result Step LineReason
step_by None more rest = Err reasons.UnknownWord
step_by (Some (Alone c)) more rest = alone (Edit (c ∷ [])) more
step_by (Some (One fits command)) more rest = one fits command more
step_by (Some (Two fits command)) more rest = two fits command more
step_by (Some (Four fits command)) more rest = four fits command more
step_by (Some Text) more rest = text rest
step_by (Some Raw) more rest = raw more
step_by (Some (UndoRedoRow which)) more rest = alone (UndoRedo which) more

-- what an edit line means, cut into words
abbrev pub step_of_words : List (List ℕ) → List ℕ → Result Step LineReason
step_of_words [] line = Err reasons.UnknownWord
step_of_words (word ∷ more) line = step_by (row_of word) more (drop (length word + 1) line)

-- what a line means: an empty line and one that begins with 2/3 stand for nothing
unfoldable pub line_meaning : List ℕ → Result (Option Step) LineReason
line_meaning [] = Ok None
line_meaning (a ∷ more) =
    if a == 0x23 then Ok None else option_transpose (Some (step_of_words (words (a ∷ more)) (a ∷ more)))
