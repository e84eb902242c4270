-- All of the state of a decoder that runs, as bytes that bring it back (this project's own).
use Rattle.std.specs.Prelude.{ℕ, zero, suc, ◌/◌, ◌%◌, List, [], ◌∷◌, ◌++◌, length, map}
use Rattle.cept_control.specs.Bytes.{control_bytes}
use Rattle.cept_control.specs.Numbers.{bit, number_or}
use Rattle.cept_parser.specs.declared.context.ColourKind.{ColourKind}
use Rattle.cept_parser.specs.declared.context.ColourKind.TheVariants as kinds
use Rattle.cept_parser.specs.declared.context.Context.{Context}
use Rattle.cept_parser.specs.declared.context.Mode.{Mode}
use Rattle.cept_parser.specs.declared.context.Mode.TheVariants as modes
use Rattle.cept_profile.specs.State.{core_of}
use Rattle.cept_writer.specs.CompactCommands.{page_text}
use Rattle.cept_live.specs.Live.{LiveState}

-- what begins a snapshot: TSN1
abbrev pub snapshot_mark : List ℕ
snapshot_mark = 0x54 ∷ 0x53 ∷ 0x4E ∷ 0x31 ∷ []

-- ---- numbers

-- a number to the base 256, the lowest digit first: so many digits, and then what is left of it
abbrev pub digits_and_rest : ℕ → ℕ → List ℕ
digits_and_rest zero n = n ∷ []
digits_and_rest (suc k) n = n % 256 ∷ digits_and_rest k (n / 256)

-- a number below 2^64 as eight bytes, the lowest first
abbrev pub number_bytes : ℕ → List ℕ
number_bytes n = digits_and_rest 7 n

-- bytes after their number
abbrev pub part : List ℕ → List ℕ
part bytes = length bytes ∷ bytes

-- ---- contexts

abbrev pub mode_number : Mode → ℕ
mode_number modes.Text = 0
mode_number (modes.TableRun i) = 1
mode_number (modes.DclutRun i) = 2
mode_number (modes.DrcsRun code) = 3
mode_number modes.Skip = 4

-- the entry or the code that is next, 0 where none is
abbrev pub mode_place : Mode → ℕ
mode_place modes.Text = 0
mode_place (modes.TableRun i) = i
mode_place (modes.DclutRun i) = i
mode_place (modes.DrcsRun code) = code
mode_place modes.Skip = 0

abbrev pub kind_number : ColourKind → ℕ
kind_number kinds.ColourTable = 0
kind_number kinds.LookUpTable = 1

-- the mode, the kind of colours, and the form of patterns
abbrev pub context_bytes : Context → List ℕ
context_bytes x =
    mode_number x.mode ∷ mode_place x.mode ∷ kind_number x.kind ∷ x.form.w ∷ x.form.h ∷ x.form.planes ∷ []

-- ---- snapshots

-- all but the page: where the parser stands, control, the phase, 255 for none, and the places renewed since it began
unfoldable pub snapshot_head : LiveState → List ℕ
snapshot_head live =
    snapshot_mark ++ number_bytes live.parser.place ++ context_bytes live.parser.context ++ part live.parser.pending
    ++ part (control_bytes live.screen.control) ++ number_or 255 live.phase ∷ map bit live.renewed

-- all of it: what brings the page back follows the rest. Whether the page has ended isn't told
abbrev pub snapshot_of : LiveState → List ℕ
snapshot_of live = snapshot_head live ++ page_text (core_of live.screen)
