-- Worked tables: the line of each item, by its name in the standards and the bytes of its unit, by computing.
use Rattle.std.proofs.Common.{◌≡◌, ℕ, true, false, List, [], ◌∷◌, codes, map, refl}
use Rattle.std.specs.Fmt.{digits}
use Rattle.cept_codes.specs.declared.command.C1Set.TheVariants.{Parallel, Serial}
use Rattle.cept_codes.specs.declared.command.Command.TheVariants as commands
use Rattle.cept_codes.specs.declared.command.Form.{Form}
use Rattle.cept_codes.specs.declared.glyph.SetId.TheVariants.{P, S, M, N, D}
use Rattle.cept_codes.specs.declared.item.Reason.TheVariants as reasons
use Rattle.cept_codes.specs.declared.item.Said.{Said}
use Rattle.cept_codes.specs.declared.item.Said.TheVariants as said
use Rattle.cept_codes.specs.declared.look.Pattern.{Pattern}
use Rattle.cept_listing.specs.Listing.{command_text, item_line, said_text}
use Rattle.cept_report.specs.Text.{named_reason}

-- places, lengths and what items say, each with its line
abbrev listed : List (ℕ × ℕ × Said × List ℕ) → Type 0
listed rows =
    map (λ (row : ℕ × ℕ × Said × List ℕ). item_line (record { at = row.0; len = row.1; what = row.2 })) rows
    ≡ map (λ (row : ℕ × ℕ × Said × List ℕ). row.3) rows

-- 0/0, 0/8 to 0/15, 1/1, 1/4, 1/8, 1/9, 1/13, 1/14, and a byte that is passed over
c0_codes : listed (
    (0, 1, said.Command commands.Nul, codes "0 1 NUL\n")
    ∷ (1, 1, said.Command commands.Back, codes "1 1 APB\n")
    ∷ (2, 1, said.Command commands.Forward, codes "2 1 APF\n")
    ∷ (3, 1, said.Command commands.Down, codes "3 1 APD\n")
    ∷ (4, 1, said.Command commands.Up, codes "4 1 APU\n")
    ∷ (5, 1, said.Command commands.Clear, codes "5 1 CS\n")
    ∷ (6, 1, said.Command commands.Return, codes "6 1 APR\n")
    ∷ (7, 1, said.Command (commands.LockLeft 1), codes "7 1 LS1\n")
    ∷ (8, 1, said.Command (commands.LockLeft 0), codes "8 1 LS0\n")
    ∷ (9, 1, said.Command commands.CursorOn, codes "9 1 CON\n")
    ∷ (10, 1, said.Command commands.CursorOff, codes "10 1 COF\n")
    ∷ (11, 1, said.Command commands.Cancel, codes "11 1 CAN\n")
    ∷ (12, 1, said.Command (commands.Single 2), codes "12 1 SS2\n")
    ∷ (99, 1, said.Command (commands.Single 3), codes "99 1 SS3\n")
    ∷ (100, 1, said.Command commands.Home, codes "100 1 APH\n")
    ∷ (16777215, 1, said.Command commands.Skipped, codes "16777215 1 SKIPPED\n") ∷ [])
unfolding said_text command_text digits
c0_codes = refl

-- shifts and designations of ISO 2022
shifts : listed (
    (0, 2, said.Command (commands.LockLeft 2), codes "0 2 LS2\n")
    ∷ (0, 2, said.Command (commands.LockLeft 3), codes "0 2 LS3\n")
    ∷ (0, 2, said.Command (commands.LockRight 1), codes "0 2 LS1R\n")
    ∷ (0, 2, said.Command (commands.LockRight 2), codes "0 2 LS2R\n")
    ∷ (0, 2, said.Command (commands.LockRight 3), codes "0 2 LS3R\n")
    ∷ (0, 3, said.Command (commands.DesignateC1 Serial), codes "0 3 C1D serial\n")
    ∷ (0, 3, said.Command (commands.DesignateC1 Parallel), codes "0 3 C1D parallel\n")
    ∷ (0, 3, said.Command (commands.Designate 0 P), codes "0 3 GZD4 P\n")
    ∷ (0, 3, said.Command (commands.Designate 1 S), codes "0 3 G1D4 S\n")
    ∷ (0, 3, said.Command (commands.Designate 2 M), codes "0 3 G2D4 M\n")
    ∷ (0, 3, said.Command (commands.Designate 3 N), codes "0 3 G3D4 N\n")
    ∷ (0, 4, said.Command (commands.Designate 3 D), codes "0 4 G3D4 D\n") ∷ [])
unfolding said_text command_text digits
shifts = refl

-- signs, copies and positions: 1/2 4/7, 1/15 4/5 4/7
signs : listed (
    (0, 1, said.Command (commands.Graphic 0x41), codes "0 1 GRAPHIC 4/1\n")
    ∷ (0, 1, said.Command (commands.Graphic 0x20), codes "0 1 GRAPHIC 2/0\n")
    ∷ (0, 1, said.Command (commands.Graphic 0xFF), codes "0 1 GRAPHIC 15/15\n")
    ∷ (0, 2, said.Command (commands.Repeat 7), codes "0 2 RPT 7\n")
    ∷ (0, 2, said.Command (commands.Repeat 63), codes "0 2 RPT 63\n")
    ∷ (12, 3, said.Command (commands.Position 5 7), codes "12 3 APA 5 7\n")
    ∷ (12, 3, said.Command (commands.Position 24 40), codes "12 3 APA 24 40\n") ∷ [])
unfolding said_text command_text digits
signs = refl

-- control sequences
sequences : listed (
    (0, 3, said.Command (commands.Table 0), codes "0 3 CT1\n")
    ∷ (0, 3, said.Command (commands.Table 3), codes "0 3 CT4\n")
    ∷ (0, 3, said.Command (commands.FlashMode 0), codes "0 3 IVF\n")
    ∷ (0, 3, said.Command (commands.FlashMode 1), codes "0 3 RIF\n")
    ∷ (0, 3, said.Command (commands.FlashMode 2), codes "0 3 FF1\n")
    ∷ (0, 3, said.Command (commands.FlashMode 3), codes "0 3 FF2\n")
    ∷ (0, 3, said.Command (commands.FlashMode 4), codes "0 3 FF3\n")
    ∷ (0, 3, said.Command (commands.FlashMode 5), codes "0 3 ICF\n")
    ∷ (0, 3, said.Command (commands.FlashMode 6), codes "0 3 DCF\n")
    ∷ (0, 2, said.Command commands.StopConceal, codes "0 2 STC\n")
    ∷ (0, 3, said.Command commands.ScrollUp, codes "0 3 SCU\n")
    ∷ (0, 3, said.Command commands.ScrollDown, codes "0 3 SCD\n")
    ∷ (0, 3, said.Command (commands.Implicit true), codes "0 3 AIS\n")
    ∷ (0, 3, said.Command (commands.Implicit false), codes "0 3 DIS\n")
    ∷ (0, 3, said.Command (commands.Protect true), codes "0 3 PMS\n")
    ∷ (0, 3, said.Command (commands.Protect false), codes "0 3 PMC\n")
    ∷ (0, 3, said.Command (commands.Marked true), codes "0 3 MMS\n")
    ∷ (0, 3, said.Command (commands.Marked false), codes "0 3 MMT\n")
    ∷ (0, 5, said.Command (commands.AreaCreate 3 9), codes "0 5 CSA 3 9\n")
    ∷ (0, 7, said.Command (commands.AreaDelete 10 24), codes "0 7 DSA 10 24\n") ∷ [])
unfolding said_text command_text digits
sequences = refl

-- attributes of the screen and of the row: the serial set has other names for these codes
attributes : listed (
    (0, 4, said.Command (commands.FullScreen 1), codes "0 4 SCREEN 8/1 RDF\n")
    ∷ (0, 4, said.Command (commands.FullScreen 30), codes "0 4 SCREEN 9/14 TRB\n")
    ∷ (0, 4, said.Command (commands.FullRow 20), codes "0 4 ROW 9/4 BLB\n")
    ∷ (0, 4, said.Command (commands.FullRow 13), codes "0 4 ROW 8/13 DBH\n") ∷ [])
unfolding said_text command_text digits
attributes = refl

-- 12 by 10 pixels in one plane, and 6 by 5 in four
abbrev one_plane : Form
one_plane = record { w = 12; h = 10; planes = 1 }

abbrev four_planes : Form
four_planes = record { w = 6; h = 5; planes = 4 }

abbrev blank : Pattern
blank = record { w = 12; h = 10; planes = 1; bits = [] }

-- units that begin with US, and those of their runs
units : listed (
    (0, 3, said.Command (commands.ColourHeader false), codes "0 3 COLOUR-HEADER table\n")
    ∷ (0, 4, said.Command (commands.ColourHeader true), codes "0 4 COLOUR-HEADER dclut\n")
    ∷ (0, 3, said.Command commands.ColourDefaults, codes "0 3 COLOUR-DEFAULTS\n")
    ∷ (0, 4, said.Command (commands.ColourStart 16), codes "0 4 COLOUR-START 16\n")
    ∷ (4, 2, said.Command (commands.Entry 16 (record { r = 15; g = 0; b = 10 })), codes "4 2 COLOUR 16 F0A\n")
    ∷ (4, 1, said.Command (commands.Dclut 3 31), codes "4 1 DCLUT 3 31\n")
    ∷ (0, 7, said.Command (commands.DrcsHeader true four_planes), codes "0 7 DRCS-HEADER delete 6x5x4\n")
    ∷ (0, 3, said.Command (commands.DrcsHeader false one_plane), codes "0 3 DRCS-HEADER keep 12x10x1\n")
    ∷ (0, 3, said.Command (commands.DrcsStart 0x21), codes "0 3 DRCS-START 2/1\n")
    ∷ (40, 17, said.Command (commands.DrcsPattern 0x21 blank), codes "40 17 DRCS 2/1 12x10x1\n")
    ∷ (0, 4, said.Command (commands.Format 20 false), codes "0 4 FORMAT 20 no-wrap\n")
    ∷ (0, 2, said.Command (commands.Format 24 true), codes "0 2 FORMAT 24 wrap\n")
    ∷ (0, 4, said.Command (commands.ServiceBreak 24), codes "0 4 SERVICE-BREAK 24\n")
    ∷ (0, 3, said.Command commands.ServiceEnd, codes "0 3 SERVICE-END\n")
    ∷ (0, 3, said.Command (commands.FullDefaults Serial), codes "0 3 FULL-DEFAULTS serial\n")
    ∷ (0, 3, said.Command (commands.FullDefaults Parallel), codes "0 3 FULL-DEFAULTS parallel\n")
    ∷ (0, 3, said.Command (commands.ControlDefaults Serial), codes "0 3 CONTROL-DEFAULTS serial\n")
    ∷ (0, 3, said.Command (commands.ControlDefaults Parallel), codes "0 3 CONTROL-DEFAULTS parallel\n")
    ∷ (0, 3, said.Command (commands.Revision 2), codes "0 3 REVISION 2\n")
    ∷ (0, 3, said.Command (commands.Revision 1), codes "0 3 REVISION 1\n") ∷ [])
unfolding said_text command_text digits
units = refl

-- refused bytes
refusals : listed (
    (0, 1, said.Refused reasons.UnassignedControl, codes "0 1 REFUSED UnassignedControl\n")
    ∷ (0, 5, said.Refused reasons.UnknownEscape, codes "0 5 REFUSED UnknownEscape\n")
    ∷ (0, 10, said.Refused reasons.UnknownCsi, codes "0 10 REFUSED UnknownCsi\n")
    ∷ (0, 2, said.Refused reasons.UnknownUnit, codes "0 2 REFUSED UnknownUnit\n")
    ∷ (6, 1, said.Refused reasons.BadParameter, codes "6 1 REFUSED BadParameter\n")
    ∷ (57, 4, said.Refused reasons.Interrupted, codes "57 4 REFUSED Interrupted\n")
    ∷ (16777215, 99, said.Refused reasons.Truncated, codes "16777215 99 REFUSED Truncated\n") ∷ [])
unfolding said_text named_reason digits
refusals = refl
