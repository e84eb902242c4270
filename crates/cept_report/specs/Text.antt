-- The texts of a report, as bytes. They are this project's own. Numbers are decimal without leading zeros, and each
-- line ends with a line feed.
use Rattle.std.specs.Prelude.{ℕ, ◌+◌, ◌-◌, ◌*◌, ◌/◌, ◌%◌, ◌^◌, Bool, List, [], ◌∷◌, ◌++◌, codes, decimal, map, take}
use Rattle.std.specs.Prelude.{nat_lt, ◌==◌, if◌then◌else◌}
use Rattle.std.specs.Int.{div_ceil}
use Rattle.std.specs.List.{flat_map, join_with_byte, range_with_len}
use Rattle.cept_codes.specs.declared.attribute.Flash.{Flash}
use Rattle.cept_codes.specs.declared.attribute.Flash.TheVariants as flashes
use Rattle.cept_codes.specs.declared.glyph.Glyph.{Glyph}
use Rattle.cept_codes.specs.declared.glyph.SetId.{SetId}
use Rattle.cept_codes.specs.declared.glyph.SetId.TheVariants as sets
use Rattle.cept_codes.specs.declared.item.Reason.{Reason}
use Rattle.cept_codes.specs.declared.item.Reason.TheVariants as reasons
use Rattle.cept_codes.specs.declared.line_reason.LineReason.{LineReason}
use Rattle.cept_codes.specs.declared.line_reason.LineReason.TheVariants as line_reasons
use Rattle.cept_codes.specs.declared.look.Inks.{Inks}
use Rattle.cept_codes.specs.declared.look.Look.{Look}
use Rattle.cept_codes.specs.declared.look.Paint.{Paint}
use Rattle.cept_codes.specs.declared.look.Paint.TheVariants as paints
use Rattle.cept_codes.specs.declared.look.Pattern.{Pattern}
use Rattle.cept_codes.specs.declared.look.Shape.{Shape}
use Rattle.cept_codes.specs.declared.look.Shape.TheVariants as shapes
use Rattle.cept_codes.specs.Place.{Place}
use Rattle.cept_report.specs.Ascii.{ascii}

-- a hexadecimal digit in upper case
abbrev pub hex_digit : ℕ → ℕ
hex_digit n = if nat_lt n 10 then ascii "0" + n else ascii "A" - 10 + n

-- a byte as two hexadecimal digits
abbrev pub hex_byte : ℕ → List ℕ
hex_byte n = hex_digit (n / 16) ∷ hex_digit (n % 16) ∷ []

-- a word of 64 bits as sixteen hexadecimal digits, the highest first
unfoldable pub hex_word : ℕ → List ℕ
hex_word n = map (λ k. hex_digit (n / 16 ^ (15 - k) % 16)) (range_with_len 0 16)

-- the letter of a set
abbrev pub set_letter : SetId → ℕ
set_letter sets.P = ascii "P"
set_letter sets.S = ascii "S"
set_letter sets.M = ascii "M"
set_letter sets.N = ascii "N"
set_letter sets.D = ascii "D"

-- the set's letter and the code, and where there is an accent a plus and its code
abbrev pub sign_text : Glyph → List ℕ
sign_text g = set_letter g.set ∷ hex_byte g.code ++ (if g.accent == 0 then [] else ascii "+" ∷ hex_byte g.accent)

-- red, green and blue as a digit each, or three minus signs for the picture behind
abbrev pub paint_text : Paint → List ℕ
paint_text (paints.Ink c) = hex_digit c.r ∷ hex_digit c.g ∷ hex_digit c.b ∷ []
paint_text paints.Video = codes "---"

-- the width, the height and the number of planes of patterns
abbrev pub form_text : ℕ → ℕ → ℕ → List ℕ
form_text w h planes = join_with_byte (ascii "x") (decimal w ∷ decimal h ∷ decimal planes ∷ [])

-- a percent sign, the form, and the words of 64 bits that the pixels of all planes need
unfoldable pub pattern_text : Pattern → List ℕ
pattern_text p =
    ascii "%" ∷ form_text p.w p.h p.planes ++ ascii "/" ∷ flat_map hex_word (take (div_ceil (p.w * p.h * p.planes) 64) p.bits)

-- the paints of all inks, where a pattern has more than one plane
unfoldable pub ink_texts : ℕ → Inks → List ℕ
ink_texts planes inks =
    if planes == 1 then [] else ascii "/" ∷ flat_map paint_text (take inks.count inks.paints)

-- a minus for a space, a sign, or a pattern and its inks
unfoldable pub shape_text : Shape → List ℕ
shape_text shapes.Space = codes "-"
shape_text (shapes.Char g) = sign_text g
shape_text (shapes.Drcs pattern inks) = pattern_text pattern ++ ink_texts pattern.planes inks

-- height, width, a full stop, how far down and how far right, a digit each
abbrev pub part_text : Look → List ℕ
part_text l =
    (ascii "0" + l.h) ∷ (ascii "0" + l.w) ∷ ascii "." ∷ (ascii "0" + l.dy) ∷ (ascii "0" + l.dx) ∷ []

-- the letter of a flash, or the digit of a fast one
abbrev pub flash_letter : Flash → ℕ
flash_letter flashes.Steady = ascii "S"
flash_letter flashes.Plain = ascii "F"
flash_letter flashes.Inverted = ascii "I"
flash_letter flashes.Reduced = ascii "R"
flash_letter flashes.Fast1 = ascii "1"
flash_letter flashes.Fast2 = ascii "2"
flash_letter flashes.Fast3 = ascii "3"

-- a letter where the flag is set, else a minus
abbrev pub flag_letter : ℕ → Bool → ℕ
flag_letter letter flag = if flag then letter else ascii "-"

-- the flash, and c for concealed, l for lined, b for boxed
abbrev pub signs_text : Look → List ℕ
signs_text l =
    flash_letter l.flash ∷ flag_letter (ascii "c") l.conceal ∷ flag_letter (ascii "l") l.lined
    ∷ flag_letter (ascii "b") l.boxed ∷ []

-- words with a space between any two
abbrev pub spaced : List (List ℕ) → List ℕ
spaced words = join_with_byte (ascii " ") words

-- the fields after the shape: part, foreground, background, and the four signs
abbrev pub fields_text : Look → List ℕ
fields_text l = spaced (part_text l ∷ paint_text l.fore ∷ paint_text l.back ∷ signs_text l ∷ [])

-- five fields: shape, part, foreground, background, and the four signs
abbrev pub look_text : Look → List ℕ
look_text l = spaced (shape_text l.shape ∷ part_text l ∷ paint_text l.fore ∷ paint_text l.back ∷ signs_text l ∷ [])

-- words as a line
abbrev pub line_of : List (List ℕ) → List ℕ
line_of words = spaced words ++ ascii "\n" ∷ []

-- the label, the row, the column and the look
abbrev pub change_line : ℕ → Place → Look → List ℕ
change_line label p l = line_of (decimal label ∷ decimal p.row ∷ decimal p.column ∷ look_text l ∷ [])

-- a line for each changed place
unfoldable pub change_lines : ℕ → List (Place × Look) → List ℕ
change_lines label [] = []
change_lines label (x ∷ xs) = change_line label x.0 x.1 ++ change_lines label xs

-- the number and the name of a reason
unfoldable pub named_reason : Reason → ℕ × List ℕ
named_reason reasons.UnassignedControl = (1, codes "UnassignedControl")
named_reason reasons.UnknownEscape = (2, codes "UnknownEscape")
named_reason reasons.UnknownCsi = (3, codes "UnknownCsi")
named_reason reasons.UnknownUnit = (4, codes "UnknownUnit")
named_reason reasons.BadParameter = (5, codes "BadParameter")
named_reason reasons.Interrupted = (6, codes "Interrupted")
named_reason reasons.Truncated = (7, codes "Truncated")

-- an exclamation mark, the place, the length, and the reason's number and name
abbrev pub refusal_line : ℕ → ℕ → Reason → List ℕ
refusal_line place size reason =
    line_of (codes "!" ∷ decimal place ∷ decimal size ∷ decimal (named_reason reason).0 ∷ (named_reason reason).1 ∷ [])

-- how many items there are, and how many of them are refused
abbrev pub check_line : ℕ → ℕ → List ℕ
check_line items refused = line_of (codes "items" ∷ decimal items ∷ codes "refused" ∷ decimal refused ∷ [])

-- the line of an undo where no edit can be undone, or of a redo where none is undone: its number and a word
abbrev pub nothing_line : ℕ → List ℕ
nothing_line line = line_of (decimal line ∷ codes "nothing" ∷ [])

-- the number and the name of a reason of a script's line
unfoldable pub named_line_reason : LineReason → ℕ × List ℕ
named_line_reason line_reasons.UnknownWord = (1, codes "UnknownWord")
named_line_reason line_reasons.WrongCount = (2, codes "WrongCount")
named_line_reason line_reasons.BadNumber = (3, codes "BadNumber")
named_line_reason line_reasons.BadText = (4, codes "BadText")
named_line_reason line_reasons.BadHex = (5, codes "BadHex")
named_line_reason line_reasons.BadBytes = (6, codes "BadBytes")

-- the number of the script's line that is outside the grammar, a colon, and the reason's number and name
abbrev pub script_fault_line : ℕ → LineReason → List ℕ
script_fault_line line reason =
    line_of (codes "script" ∷ codes "line" ∷ (decimal line ++ ascii ":" ∷ []) ∷ decimal (named_line_reason reason).0
    ∷ (named_line_reason reason).1 ∷ [])

-- how many bytes a page has, how many items, and how many places its commands change, one command after the other
abbrev pub load_line : ℕ → ℕ → ℕ → List ℕ
load_line bytes items paints =
    line_of (codes "bytes" ∷ decimal bytes ∷ codes "items" ∷ decimal items ∷ codes "paints" ∷ decimal paints ∷ [])
