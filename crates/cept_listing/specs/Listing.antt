-- The texts of a listing, a line for each item of a page: its place, its length, a name, and its parameters in the
-- order of their bytes, with a space between any two. Names of C0 and C1 codes are those of ETS 300 072 and T/CD 6-1,
-- names of shifts and designations those of ISO 2022, names of control sequences those that the field uses. The other
-- names, the parameters and the form of a line are this project's own. No two kinds of items have the same name.
-- Numbers are decimal, codes are column/row.
use Rattle.std.specs.Prelude.{ℕ, ◌+◌, ◌/◌, ◌%◌, List, [], ◌∷◌, ◌++◌, codes, decimal, if◌then◌else◌}
use Rattle.cept_codes.specs.declared.command.C1Set.{C1Set}
use Rattle.cept_codes.specs.declared.command.C1Set.TheVariants as c1_sets
use Rattle.cept_codes.specs.declared.command.Command.{Command}
use Rattle.cept_codes.specs.declared.command.Command.TheVariants as commands
use Rattle.cept_codes.specs.declared.item.Item.{Item}
use Rattle.cept_codes.specs.declared.item.Said.{Said}
use Rattle.cept_codes.specs.declared.item.Said.TheVariants as said
use Rattle.cept_codes.specs.declared.look.Paint.TheVariants as paints
use Rattle.cept_report.specs.Ascii.{ascii}
use Rattle.cept_report.specs.Text.{form_text, line_of, named_reason, paint_text, set_letter, spaced}
use Rattle.cept_listing.specs.Names.{designation_names, flash_names, name_of, parallel_names, serial_names}

-- a code by its column and row
abbrev pub code_text : ℕ → List ℕ
code_text n = decimal (n / 16) ++ ascii "/" ∷ decimal (n % 16)

-- the C1 code of this number
abbrev pub c1_text : ℕ → List ℕ
c1_text n = code_text (0x80 + n)

-- a C1 set
abbrev pub c1_set_text : C1Set → List ℕ
c1_set_text c1_sets.Serial = codes "serial"
c1_set_text c1_sets.Parallel = codes "parallel"

-- the name of a command and its parameters. A C1 code has its name in the serial set and that in the parallel one,
-- since the set in force is no part of its bytes
unfoldable pub command_text : Command → List ℕ
command_text commands.Nul = codes "NUL"
command_text commands.Skipped = codes "SKIPPED"
command_text commands.Back = codes "APB"
command_text commands.Forward = codes "APF"
command_text commands.Down = codes "APD"
command_text commands.Up = codes "APU"
command_text commands.Clear = codes "CS"
command_text commands.Return = codes "APR"
command_text commands.Home = codes "APH"
command_text commands.CursorOn = codes "CON"
command_text commands.CursorOff = codes "COF"
command_text commands.Cancel = codes "CAN"
command_text (commands.LockLeft g) = codes "LS" ++ decimal g
command_text (commands.LockRight g) = codes "LS" ++ decimal g ++ codes "R"
command_text (commands.Single g) = codes "SS" ++ decimal g
command_text (commands.Repeat n) = spaced (codes "RPT" ∷ decimal n ∷ [])
command_text (commands.Position r c) = spaced (codes "APA" ∷ decimal r ∷ decimal c ∷ [])
command_text (commands.Graphic b) = spaced (codes "GRAPHIC" ∷ code_text b ∷ [])
command_text (commands.C1 n) =
    spaced (codes "C1" ∷ c1_text n ∷ name_of serial_names n ∷ name_of parallel_names n ∷ [])
command_text (commands.DesignateC1 s) = spaced (codes "C1D" ∷ c1_set_text s ∷ [])
command_text (commands.Designate g s) = spaced (name_of designation_names g ∷ (set_letter s ∷ []) ∷ [])
command_text (commands.Table k) = codes "CT" ++ decimal (k + 1)
command_text (commands.FlashMode k) = name_of flash_names k
command_text commands.StopConceal = codes "STC"
command_text commands.ScrollUp = codes "SCU"
command_text commands.ScrollDown = codes "SCD"
command_text (commands.Implicit on) = if on then codes "AIS" else codes "DIS"
command_text (commands.Protect on) = if on then codes "PMS" else codes "PMC"
command_text (commands.Marked on) = if on then codes "MMS" else codes "MMT"
command_text (commands.AreaCreate a b) = spaced (codes "CSA" ∷ decimal a ∷ decimal b ∷ [])
command_text (commands.AreaDelete a b) = spaced (codes "DSA" ∷ decimal a ∷ decimal b ∷ [])
command_text (commands.FullScreen n) = spaced (codes "SCREEN" ∷ c1_text n ∷ name_of parallel_names n ∷ [])
command_text (commands.FullRow n) = spaced (codes "ROW" ∷ c1_text n ∷ name_of parallel_names n ∷ [])
command_text (commands.ColourHeader d) =
    spaced (codes "COLOUR-HEADER" ∷ (if d then codes "dclut" else codes "table") ∷ [])
command_text commands.ColourDefaults = codes "COLOUR-DEFAULTS"
command_text (commands.ColourStart i) = spaced (codes "COLOUR-START" ∷ decimal i ∷ [])
command_text (commands.Entry i c) = spaced (codes "COLOUR" ∷ decimal i ∷ paint_text (paints.Ink c) ∷ [])
command_text (commands.Dclut i v) = spaced (codes "DCLUT" ∷ decimal i ∷ decimal v ∷ [])
command_text (commands.DrcsHeader d f) =
    spaced (codes "DRCS-HEADER" ∷ (if d then codes "delete" else codes "keep") ∷ form_text f.w f.h f.planes ∷ [])
command_text (commands.DrcsStart c) = spaced (codes "DRCS-START" ∷ code_text c ∷ [])
command_text (commands.DrcsPattern c p) = spaced (codes "DRCS" ∷ code_text c ∷ form_text p.w p.h p.planes ∷ [])
command_text (commands.Format r w) =
    spaced (codes "FORMAT" ∷ decimal r ∷ (if w then codes "wrap" else codes "no-wrap") ∷ [])
command_text (commands.ServiceBreak r) = spaced (codes "SERVICE-BREAK" ∷ decimal r ∷ [])
command_text commands.ServiceEnd = codes "SERVICE-END"
command_text (commands.FullDefaults s) = spaced (codes "FULL-DEFAULTS" ∷ c1_set_text s ∷ [])
command_text (commands.ControlDefaults s) = spaced (codes "CONTROL-DEFAULTS" ∷ c1_set_text s ∷ [])
command_text (commands.Revision r) = spaced (codes "REVISION" ∷ decimal r ∷ [])

-- what an item says: a command, or that it is refused, and why
unfoldable pub said_text : Said → List ℕ
said_text (said.Command command) = command_text command
said_text (said.Refused reason) = spaced (codes "REFUSED" ∷ (named_reason reason).1 ∷ [])

-- the line of an item
abbrev pub item_line : Item → List ℕ
item_line item = line_of (decimal item.at ∷ decimal item.len ∷ said_text item.what ∷ [])
