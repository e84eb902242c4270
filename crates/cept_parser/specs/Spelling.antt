-- How a written page spells its commands, one spelling each, and the context after each (that these are the commands of
-- a written page, and which of several spellings each has there, is this project's own). Codes are written column/row.
use Rattle.std.specs.Prelude.{◌≡◌, ◌≤◌, ℕ, ◌+◌, ◌*◌, ◌/◌, ◌%◌, Bool, true, false, not, ◌&&◌, ◌||◌, List, [], ◌∷◌, ◌++◌}
use Rattle.std.specs.Prelude.{if◌then◌else◌, ◌==◌}
use Rattle.std.specs.List.{AllByRecursion, flat_map, range_with_len}
use Rattle.cept_codes.specs.declared.command.C1Set.{C1Set}
use Rattle.cept_codes.specs.declared.command.C1Set.TheVariants.{Serial, Parallel}
use Rattle.cept_codes.specs.declared.command.Command.{Command}
use Rattle.cept_codes.specs.declared.command.Command.TheVariants as command
use Rattle.cept_codes.specs.declared.command.Form.{Form}
use Rattle.cept_codes.specs.declared.glyph.SetId.{SetId}
use Rattle.cept_codes.specs.declared.glyph.SetId.TheVariants.{P, S, M, N, D}
use Rattle.cept_codes.specs.declared.look.Pattern.{Pattern}
use Rattle.cept_codes.specs.declared.look.Rgb.{Rgb}
use Rattle.cept_codes.specs.Command.{IsValidCommand, IsValidForm}
use Rattle.cept_codes.specs.Look.{pixel, IsValidPattern}
use Rattle.cept_codes.specs.Place.{OnScreen}
use Rattle.cept_parser.specs.declared.context.Mode.TheVariants.{Text, TableRun, DclutRun, DrcsRun, Skip}
use Rattle.cept_parser.specs.declared.context.ColourKind.TheVariants.{ColourTable, LookUpTable}
use Rattle.cept_parser.specs.declared.context.Context.{Context}
use Rattle.cept_parser.specs.Context.{start_context, with_mode}
use Rattle.cept_parser.specs.Runs.{bit}
use Rattle.cept_parser.specs.Units.{last_place, run_from}
use Rattle.cept_parser.specs.ReadsAs.{begins_anew}

-- ---- parts of spellings

-- the two digits of a number below 100
abbrev pub tens_byte : ℕ → ℕ
tens_byte n = 0x30 + n / 10

abbrev pub ones_byte : ℕ → ℕ
ones_byte n = 0x30 + n % 10

-- two bits each of red, green and blue as one byte: from the highest of the six low bits on the bits k + 1 of red,
-- green and blue, and then their bits k
abbrev pub colour_byte : ℕ → Rgb → ℕ
colour_byte k c =
    0x40 + (32 * bit (k + 1) c.r + 16 * bit (k + 1) c.g + 8 * bit (k + 1) c.b)
    + (4 * bit k c.r + 2 * bit k c.g + bit k c.b)

-- the byte of the size of patterns: 3/6 12x12, 3/7 12x10, 3/10 6x12, 3/11 6x10, 3/12 6x5, 3/15 6x6
abbrev pub size_byte : Form → ℕ
size_byte f =
    if f.w == 12 && f.h == 12 then 0x36 else
    if f.w == 12 then 0x37 else
    if f.h == 12 then 0x3A else
    if f.h == 10 then 0x3B else
    if f.h == 5 then 0x3C else
    0x3F

-- the bytes that name a set in its designation
abbrev pub set_bytes : SetId → List ℕ
set_bytes P = 0x40 ∷ []
set_bytes S = 0x62 ∷ []
set_bytes M = 0x63 ∷ []
set_bytes N = 0x64 ∷ []
set_bytes D = 0x20 ∷ 0x40 ∷ []

-- the byte that names a C1 set there
abbrev pub c1_set_byte : C1Set → ℕ
c1_set_byte Serial = 0x40
c1_set_byte Parallel = 0x41

-- ---- patterns

-- the form of a pattern
abbrev pub form_of : Pattern → Form
form_of t = record { w = t.w; h = t.h; planes = t.planes }

-- six pixels of line y of plane p, from column x on: the left one stands in the highest of the six low bits
unfoldable pub half_line_byte : Pattern → ℕ → ℕ → ℕ → ℕ
half_line_byte t p y x =
    0x40 + (32 * pixel t p y x + 16 * pixel t p y (x + 1) + 8 * pixel t p y (x + 2))
    + (4 * pixel t p y (x + 3) + 2 * pixel t p y (x + 4) + pixel t p y (x + 5))

-- a line: its left half and its right half, where it is 12 pixels wide
unfoldable pub line_bytes : Pattern → ℕ → ℕ → List ℕ
line_bytes t p y =
    if t.w == 12 then half_line_byte t p y 0 ∷ half_line_byte t p y 6 ∷ [] else
    half_line_byte t p y 0 ∷ []

-- a plane: its opener, and all its lines from the top
unfoldable pub plane_bytes : Pattern → ℕ → List ℕ
plane_bytes t p = (0x30 + p) ∷ flat_map (line_bytes t p) (range_with_len 0 t.h)

-- all planes, ascending
unfoldable pub pattern_bytes : Pattern → List ℕ
pattern_bytes t = flat_map (plane_bytes t) (range_with_len 0 t.planes)

-- ---- commands

-- the bytes of a command, none of those that a written page doesn't have
unfoldable pub spelling : Command → List ℕ
spelling (command.FullDefaults Serial) = 0x1F ∷ 0x2F ∷ 0x41 ∷ []
spelling (command.FullDefaults Parallel) = 0x1F ∷ 0x2F ∷ 0x42 ∷ []
spelling (command.Revision revision) = 0x1F ∷ 0x2F ∷ (if revision == 2 then 0x45 else 0x46) ∷ []
spelling (command.Format rows wrap) =
    0x1F ∷ 0x2D ∷ (if rows == 20 then 0x42 else 0x41) ∷ (if wrap then 0x70 else 0x71) ∷ []
spelling (command.ColourHeader dclut) = 0x1F ∷ 0x26 ∷ 0x20 ∷ (if dclut then 0x22 else 0x20) ∷ []
spelling (command.ColourStart i) = 0x1F ∷ 0x26 ∷ tens_byte i ∷ ones_byte i ∷ []
spelling (command.Entry i c) = colour_byte 2 c ∷ colour_byte 0 c ∷ []
spelling (command.Dclut i v) = (0x40 + v) ∷ []
spelling (command.DrcsHeader false f) =
    0x1F ∷ 0x23 ∷ 0x20 ∷ 0x20 ∷ 0x40 ∷ size_byte f ∷ (0x40 + f.planes) ∷ []
spelling (command.DrcsStart c) = 0x1F ∷ 0x23 ∷ c ∷ []
spelling (command.DrcsPattern c t) = pattern_bytes t
spelling (command.Table k) = 0x9B ∷ (0x30 + k) ∷ 0x40 ∷ []
spelling (command.C1 n) = (0x80 + n) ∷ []
spelling (command.FlashMode k) = 0x9B ∷ (0x30 + k) ∷ 0x41 ∷ []
spelling command.StopConceal = 0x9B ∷ 0x42 ∷ []
spelling (command.FullScreen n) = 0x1B ∷ 0x23 ∷ 0x20 ∷ (0x40 + n) ∷ []
spelling (command.FullRow n) = 0x1B ∷ 0x23 ∷ 0x21 ∷ (0x40 + n) ∷ []
spelling (command.Position r c) = 0x1F ∷ (0x40 + r) ∷ (0x40 + c) ∷ []
spelling (command.Protect on) = 0x9B ∷ 0x31 ∷ (if on then 0x50 else 0x51) ∷ []
spelling (command.DesignateC1 set) = 0x1B ∷ 0x22 ∷ c1_set_byte set ∷ []
spelling (command.Graphic b) = b ∷ []
spelling (command.LockLeft g) = (if g == 0 then 0x0F else 0x0E) ∷ []
spelling (command.Designate g set) = 0x1B ∷ (0x28 + g) ∷ set_bytes set
spelling (command.Single g) = (if g == 2 then 0x19 else 0x1D) ∷ []
spelling (command.Repeat n) = 0x12 ∷ (0x40 + n) ∷ []
spelling (command.AreaCreate a b) =
    0x9B ∷ tens_byte a ∷ ones_byte a ∷ 0x3B ∷ tens_byte b ∷ ones_byte b ∷ 0x55 ∷ []
spelling (command.Implicit on) = 0x9B ∷ (if on then 0x32 else 0x33) ∷ 0x60 ∷ []
spelling _ = []

-- the context after a command that is spelled in this context
unfoldable pub context_after : Context → Command → Context
context_after x (command.FullDefaults set) = start_context
context_after x (command.ColourHeader dclut) =
    record { mode = Skip; kind = (if dclut then LookUpTable else ColourTable); form = x.form }
context_after x (command.ColourStart i) = with_mode x (run_from x.kind i)
context_after x (command.Entry i c) = with_mode x (TableRun (i + 1))
context_after x (command.Dclut i v) = with_mode x (DclutRun (i + 1))
context_after x (command.DrcsHeader deleted f) = record { mode = Skip; kind = x.kind; form = f }
context_after x (command.DrcsStart c) = with_mode x (DrcsRun c)
context_after x (command.DrcsPattern c t) = with_mode x (DrcsRun (c + 1))
context_after x command = with_mode x Text

-- a written page may have the command in this context: a sign in mode Text, colours and patterns in their run, all
-- others anywhere
unfoldable pub IsSpelled : Context → Command → Type 0
IsSpelled x (command.FullDefaults set) = Unit {0}
IsSpelled x (command.Revision revision) = IsValidCommand (command.Revision revision)
IsSpelled x (command.Format rows wrap) = IsValidCommand (command.Format rows wrap)
IsSpelled x (command.ColourHeader dclut) = Unit {0}
IsSpelled x (command.ColourStart i) = i ≤ last_place x.kind
IsSpelled x (command.Entry i c) = (x.mode ≡ TableRun i) × IsValidCommand (command.Entry i c)
IsSpelled x (command.Dclut i v) = (x.mode ≡ DclutRun i) × IsValidCommand (command.Dclut i v)
IsSpelled x (command.DrcsHeader false f) = IsValidForm f
IsSpelled x (command.DrcsStart c) = IsValidCommand (command.DrcsStart c)
IsSpelled x (command.DrcsPattern c t) = (x.mode ≡ DrcsRun c) × (x.form ≡ form_of t) × (c ≤ 0x7E) × IsValidPattern t
IsSpelled x (command.Table k) = IsValidCommand (command.Table k)
IsSpelled x (command.C1 n) = IsValidCommand (command.C1 n)
IsSpelled x (command.FlashMode k) = IsValidCommand (command.FlashMode k)
IsSpelled x command.StopConceal = Unit {0}
IsSpelled x (command.FullScreen n) = IsValidCommand (command.FullScreen n)
IsSpelled x (command.FullRow n) = IsValidCommand (command.FullRow n)
IsSpelled x (command.Position r c) = OnScreen r c
IsSpelled x (command.Protect on) = Unit {0}
IsSpelled x (command.DesignateC1 set) = Unit {0}
IsSpelled x (command.Graphic b) = (x.mode ≡ Text) × (0x20 ≤ b) × (b ≤ 0x7F)
IsSpelled x (command.LockLeft g) = g ≤ 1
IsSpelled x (command.Designate g set) = g ≤ 3
IsSpelled x (command.Single g) = IsValidCommand (command.Single g)
IsSpelled x (command.Repeat n) = IsValidCommand (command.Repeat n)
IsSpelled x (command.AreaCreate a b) = IsValidCommand (command.AreaCreate a b)
IsSpelled x (command.Implicit on) = Unit {0}
IsSpelled x _ = ⊥

-- a further byte may fit after the spelling: after a header of colours, in its short form
abbrev pub may_grow : Command → Bool
may_grow (command.ColourHeader dclut) = true
may_grow _ = false

-- ---- lists of commands

-- the bytes of commands
abbrev pub spellings : List Command → List ℕ
spellings [] = []
spellings (c ∷ commands) = spelling c ++ spellings commands

-- the context after all of them
abbrev pub context_after_all : Context → List Command → Context
context_after_all x [] = x
context_after_all x (c ∷ commands) = context_after_all (context_after x c) commands

-- the command may stand before these: what may grow stands before a breaker
abbrev pub stands_before : Command → List Command → Bool
stands_before c commands = not (may_grow c) || begins_anew (spellings commands)

-- a written page may have these commands from this context on
abbrev pub AreSpelled : Context → List Command → Type 0
AreSpelled x [] = Unit {0}
AreSpelled x (c ∷ commands) =
    IsSpelled x c × (stands_before c commands ≡ true) × AreSpelled (context_after x c) commands

-- ---- commands of cells, rows and the screen

-- a command whose spelling begins with a breaker, or is a sign, and after which the mode is Text
abbrev pub IsTextual : Command → Type 0
IsTextual (command.Revision revision) = IsValidCommand (command.Revision revision)
IsTextual (command.Format rows wrap) = IsValidCommand (command.Format rows wrap)
IsTextual (command.Table k) = IsValidCommand (command.Table k)
IsTextual (command.C1 n) = IsValidCommand (command.C1 n)
IsTextual (command.FlashMode k) = IsValidCommand (command.FlashMode k)
IsTextual command.StopConceal = Unit {0}
IsTextual (command.FullScreen n) = IsValidCommand (command.FullScreen n)
IsTextual (command.FullRow n) = IsValidCommand (command.FullRow n)
IsTextual (command.Position r c) = OnScreen r c
IsTextual (command.Protect on) = Unit {0}
IsTextual (command.DesignateC1 set) = Unit {0}
IsTextual (command.Graphic b) = (0x20 ≤ b) × (b ≤ 0x7F)
IsTextual (command.LockLeft g) = g ≤ 1
IsTextual (command.Designate g set) = g ≤ 3
IsTextual (command.Single g) = IsValidCommand (command.Single g)
IsTextual (command.Repeat n) = IsValidCommand (command.Repeat n)
IsTextual (command.AreaCreate a b) = IsValidCommand (command.AreaCreate a b)
IsTextual (command.Implicit on) = Unit {0}
IsTextual _ = ⊥

-- each of them is one
abbrev pub AreTextual : List Command → Type 0
AreTextual commands = AllByRecursion IsTextual commands
