-- Worked tables: which commands say something of each setting of control, and what, by computing.
use Rattle.std.proofs.Common.{◌≡◌, List, [], ◌∷◌, ◌++◌, map, Option, Some, None, true, false, refl}
use Rattle.std.specs.List.{range_with_len}
use Rattle.cept_codes.specs.declared.attribute.Attr.{Attr}
use Rattle.cept_codes.specs.declared.attribute.Size.TheVariants.{Normal, High, Wide, Both}
use Rattle.cept_codes.specs.declared.command.C1Set.TheVariants.{Serial, Parallel}
use Rattle.cept_codes.specs.declared.command.Command.{Command}
use Rattle.cept_codes.specs.declared.command.Command.TheVariants as commands
use Rattle.cept_codes.specs.declared.command.Form.{Form}
use Rattle.cept_codes.specs.declared.glyph.SetId.TheVariants.{P, S, M, N, D}
use Rattle.cept_codes.specs.declared.look.Pattern.{Pattern}
use Rattle.cept_codes.specs.declared.look.Rgb.{Rgb}
use Rattle.cept_profile.specs.ControlSettings.{c1_said, table_said, protect_said, set_said, left_said, right_said}
use Rattle.cept_profile.specs.ControlSettings.{fore_in, back_in, conceal_in, lined_in, boxed_in, size_in, invert_in}
use Rattle.cept_profile.specs.ControlSettings.{class_said, rows_said, wrap_said, implicit_said, created_said, area_said}

abbrev pub white : Rgb
white = record { r = 15; g = 15; b = 15 }

abbrev pub form : Form
form = record { w = 12; h = 10; planes = 1 }

-- each command but the C1 codes
abbrev pub each : Pattern → List Command
each pattern =
    commands.Nul ∷ commands.Skipped ∷ commands.Back ∷ commands.Forward ∷ commands.Down ∷ commands.Up ∷ commands.Clear
    ∷ commands.Return ∷ commands.Home
    ∷ commands.CursorOn ∷ commands.CursorOff ∷ commands.Cancel ∷ commands.LockLeft 3 ∷ commands.LockRight 1
    ∷ commands.Single 3 ∷ commands.Repeat 2
    ∷ commands.Position 9 8 ∷ commands.Graphic 0x41 ∷ commands.DesignateC1 Serial ∷ commands.Designate 0 D
    ∷ commands.Designate 1 D ∷ commands.Designate 2 D
    ∷ commands.Designate 3 D ∷ commands.Table 2 ∷ commands.FlashMode 2 ∷ commands.StopConceal ∷ commands.ScrollUp
    ∷ commands.ScrollDown ∷ commands.Implicit true
    ∷ commands.Protect true ∷ commands.Marked true ∷ commands.AreaCreate 2 9 ∷ commands.AreaDelete 2 9
    ∷ commands.AreaDelete 2 8 ∷ commands.FullScreen 3 ∷ commands.FullRow 3
    ∷ commands.ColourHeader true ∷ commands.ColourDefaults ∷ commands.ColourStart 3 ∷ commands.Entry 3 white
    ∷ commands.Dclut 1 5 ∷ commands.DrcsHeader true form
    ∷ commands.DrcsStart 0x21 ∷ commands.DrcsPattern 0x21 pattern ∷ commands.Format 20 false
    ∷ commands.ServiceBreak 7 ∷ commands.ServiceEnd
    ∷ commands.FullDefaults Serial ∷ commands.ControlDefaults Serial ∷ []

-- the C1 codes
abbrev pub codes : List Command
codes = map (λ n. commands.C1 n) (range_with_len 0 32)

-- one more command, if it says something
abbrev pub with_said : {X : Type 0} → Command → Option X → List (Command × X) → List (Command × X)
with_said command None more = more
with_said command (Some x) more = (command, x) ∷ more

-- the commands that say something, each with what it says
abbrev pub said_by : {X : Type 0} → (Command → Option X) → List Command → List (Command × X)
said_by said [] = []
said_by said (command ∷ more) = with_said command (said command) (said_by said more)

-- a setting that each reset brings back: who sets it, then the three resets with the value at the start
abbrev pub and_resets : {X : Type 0} → X → List (Command × X)
and_resets first =
    (commands.ServiceBreak 7, first) ∷ (commands.FullDefaults Serial, first)
    ∷ (commands.ControlDefaults Serial, first) ∷ []

pub of_c1 : (pattern : Pattern) → said_by c1_said (each pattern ++ codes) ≡
    (commands.DesignateC1 Serial, Serial) ∷ (commands.ServiceBreak 7, Parallel)
    ∷ (commands.FullDefaults Serial, Serial) ∷ (commands.ControlDefaults Serial, Serial) ∷ []
of_c1 pattern = refl

pub of_table : (pattern : Pattern) → said_by table_said (each pattern ++ codes) ≡ (commands.Table 2, 2) ∷ and_resets 0
of_table pattern = refl

pub of_protection : (pattern : Pattern) → said_by protect_said (each pattern ++ codes)
    ≡ (commands.Protect true, true) ∷ and_resets false
of_protection pattern = refl

pub of_sets : (pattern : Pattern)
    → map (λ number. said_by (set_said number) (each pattern ++ codes)) (range_with_len 0 4) ≡
    ((commands.Designate 0 D, D) ∷ and_resets P) ∷ ((commands.Designate 1 D, D) ∷ and_resets M)
    ∷ ((commands.Designate 2 D, D) ∷ and_resets S) ∷ ((commands.Designate 3 D, D) ∷ and_resets N) ∷ []
of_sets pattern = refl

pub of_left_bytes : (pattern : Pattern) → said_by left_said (each pattern ++ codes)
    ≡ (commands.LockLeft 3, 3) ∷ and_resets 0
of_left_bytes pattern = refl

pub of_right_bytes : (pattern : Pattern) → said_by right_said (each pattern ++ codes)
    ≡ (commands.LockRight 1, 1) ∷ and_resets 2
of_right_bytes pattern = refl

-- ---- the pen

-- what says something of a class under the parallel set with colour table 1: what goes home and the resets unset it
abbrev pub unset_by : {X : Type 0} → List (Command × Option X)
unset_by =
    (commands.Clear, None) ∷ (commands.Home, None) ∷ (commands.Position 9 8, None)
    ∷ (commands.Format 20 false, None) ∷ and_resets None

abbrev pub class_by : {X : Type 0} → (Attr → Option (Option X)) → Pattern → List (Command × Option X)
class_by class pattern = said_by (class_said class Parallel 1) (each pattern ++ codes)

pub of_foreground : (pattern : Pattern) → class_by fore_in pattern ≡ unset_by
    ++ (commands.C1 0, Some 8) ∷ (commands.C1 1, Some 9) ∷ (commands.C1 2, Some 10) ∷ (commands.C1 3, Some 11)
    ∷ (commands.C1 4, Some 12) ∷ (commands.C1 5, Some 13) ∷ (commands.C1 6, Some 14) ∷ (commands.C1 7, Some 15) ∷ []
of_foreground pattern = refl

pub of_background : (pattern : Pattern) → class_by back_in pattern ≡ unset_by
    ++ (commands.C1 16, Some 8) ∷ (commands.C1 17, Some 9) ∷ (commands.C1 18, Some 10) ∷ (commands.C1 19, Some 11)
    ∷ (commands.C1 20, Some 12) ∷ (commands.C1 21, Some 13) ∷ (commands.C1 22, Some 14) ∷ (commands.C1 23, Some 15)
    ∷ (commands.C1 30, None) ∷ []
of_background pattern = refl

-- StopConceal stands before the format and the resets
pub of_conceal : (pattern : Pattern) → class_by conceal_in pattern ≡
    (commands.Clear, None) ∷ (commands.Home, None) ∷ (commands.Position 9 8, None)
    ∷ (commands.StopConceal, Some false) ∷ (commands.Format 20 false, None) ∷ (and_resets None
    ++ (commands.C1 24, Some true) ∷ (commands.C1 31, Some false) ∷ [])
of_conceal pattern = refl

pub of_lining : (pattern : Pattern) → class_by lined_in pattern ≡ unset_by ++ (commands.C1 25, Some false)
    ∷ (commands.C1 26, Some true) ∷ []
of_lining pattern = refl

pub of_box : (pattern : Pattern) → class_by boxed_in pattern ≡ unset_by ++ (commands.C1 10, Some false)
    ∷ (commands.C1 11, Some true) ∷ []
of_box pattern = refl

pub of_size : (pattern : Pattern) → class_by size_in pattern ≡ unset_by ++ (commands.C1 12, Some Normal)
    ∷ (commands.C1 13, Some High) ∷ (commands.C1 14, Some Wide) ∷ (commands.C1 15, Some Both) ∷ []
of_size pattern = refl

pub of_polarity : (pattern : Pattern) → class_by invert_in pattern ≡ unset_by ++ (commands.C1 28, Some false)
    ∷ (commands.C1 29, Some true) ∷ []
of_polarity pattern = refl

-- under the serial set no code and no StopConceal says anything
abbrev pub serial_by : {X : Type 0} → (Attr → Option (Option X)) → Pattern → List (Command × Option X)
serial_by class pattern = said_by (class_said class Serial 1) (each pattern ++ codes)

pub of_no_foreground : (pattern : Pattern) → serial_by fore_in pattern ≡ unset_by
of_no_foreground pattern = refl

pub of_no_conceal : (pattern : Pattern) → serial_by conceal_in pattern ≡ unset_by
of_no_conceal pattern = refl

pub of_no_size : (pattern : Pattern) → serial_by size_in pattern ≡ unset_by
of_no_size pattern = refl

-- ---- what services leave alone

pub of_rows : (pattern : Pattern) → said_by rows_said (each pattern ++ codes) ≡ (commands.Format 20 false, 20)
    ∷ (commands.FullDefaults Serial, 24) ∷ []
of_rows pattern = refl

pub of_wrap : (pattern : Pattern) → said_by wrap_said (each pattern ++ codes) ≡ (commands.Format 20 false, false)
    ∷ (commands.FullDefaults Serial, true) ∷ []
of_wrap pattern = refl

pub of_implicit_scrolling : (pattern : Pattern) → said_by implicit_said (each pattern ++ codes)
    ≡ (commands.Implicit true, true) ∷ (commands.FullDefaults Serial, false) ∷ []
of_implicit_scrolling pattern = refl

pub of_created_area : (pattern : Pattern) → said_by created_said (each pattern ++ codes)
    ≡ (commands.AreaCreate 2 9, Some (2, 9)) ∷ []
of_created_area pattern = refl

-- an area is deleted by its own rows alone
pub of_area : (pattern : Pattern) → said_by (area_said (Some (2, 9))) (each pattern ++ codes) ≡
    (commands.AreaCreate 2 9, Some (2, 9)) ∷ (commands.AreaDelete 2 9, None) ∷ (commands.FullDefaults Serial, None) ∷ []
of_area pattern = refl

pub of_no_area : (pattern : Pattern) → said_by (area_said None) (each pattern ++ codes)
    ≡ (commands.AreaCreate 2 9, Some (2, 9)) ∷ (commands.FullDefaults Serial, None) ∷ []
of_no_area pattern = refl
