-- Units that begin with US (1F): the position, downloaded characters (DRCS), colours, the format and the service (the
-- position is of ETS 300 072 and T/CD 6-1; the other units with their bytes, defaults and modes are this profile's own).
use Rattle.std.specs.Prelude.{ℕ, ◌-◌, Bool, not, ◌&&◌, List, [], ◌∷◌, if◌then◌else◌, ◌==◌, nat_le}
use Rattle.cept_codes.specs.declared.command.C1Set.TheVariants.{Serial, Parallel}
use Rattle.cept_codes.specs.declared.command.Command.TheVariants as command
use Rattle.cept_codes.specs.declared.command.Form.{Form}
use Rattle.cept_codes.specs.declared.item.Reason.TheVariants.{UnknownUnit, BadParameter}
use Rattle.cept_codes.specs.declared.item.Said.TheVariants.{Command as Says, Refused}
use Rattle.cept_parser.specs.declared.context.Mode.{Mode}
use Rattle.cept_parser.specs.declared.context.Mode.TheVariants.{Text, TableRun, DclutRun, DrcsRun, Skip}
use Rattle.cept_parser.specs.declared.context.ColourKind.{ColourKind}
use Rattle.cept_parser.specs.declared.context.ColourKind.TheVariants.{ColourTable, LookUpTable}
use Rattle.cept_parser.specs.declared.context.Context.{Context}
use Rattle.cept_parser.specs.declared.context.Outcome.{Outcome}
use Rattle.cept_parser.specs.Context.{start_context}
use Rattle.cept_parser.specs.Bytes.{is_between, is_digit, two_digits, is_row, contains}
use Rattle.cept_parser.specs.Bytes.{outcome, is_longer, Table, complete, then_plain, optional, saying}

-- 1F r c, r 4/0 to 7/15: a position, c 4/1 to 6/8 for column 1 to 40
unfoldable pub us_position : Context → ℕ → Table
us_position x r = then_plain x (λ c. complete (
    if is_row r && is_between 0x41 0x68 c then outcome x Text (Says (command.Position (r - 0x40) (c - 0x40))) else
    outcome x Text (Refused BadParameter)))

-- the optional parts of 1F 23 20: deletion, the form of one byte, size, planes
abbrev pub drcs_parts : List (List ℕ)
drcs_parts =
    (0x20 ∷ 0x28 ∷ []) ∷ (0x40 ∷ []) ∷ (0x36 ∷ 0x37 ∷ 0x3A ∷ 0x3B ∷ 0x3C ∷ 0x3F ∷ []) ∷ (0x41 ∷ 0x42 ∷ 0x44 ∷ []) ∷ []

-- the form that they tell: width, height and planes
unfoldable pub drcs_form : List ℕ → Form
drcs_form u =
    let planes = if contains u 0x42 then 2 else if contains u 0x44 then 4 else 1 in  -- one by 4/1, or by none
    if contains u 0x36 then record { w = 12; h = 12; planes = planes } else
    if contains u 0x3A then record { w = 6; h = 12; planes = planes } else
    if contains u 0x3B then record { w = 6; h = 10; planes = planes } else
    if contains u 0x3C then record { w = 6; h = 5; planes = planes } else
    if contains u 0x3F then record { w = 6; h = 6; planes = planes } else
    record { w = 12; h = 10; planes = planes }  -- by 3/7, or by none

-- 1F 23 20: the header of downloaded characters
unfoldable pub drcs_header : Context → List ℕ → Outcome
drcs_header x u =
    outcome (record x { form = drcs_form u }) Skip (Says (command.DrcsHeader (contains u 0x28) (drcs_form u)))

-- 1F 23: downloaded characters
unfoldable pub drcs_unit : Context → Table
drcs_unit x = then_plain x (λ c u.
    if c == 0x20 then saying (optional drcs_parts) (drcs_header x) u else
    if is_between 0x21 0x7E c then complete (outcome x (DrcsRun c) (Says (command.DrcsStart c))) u else
    complete (outcome x Skip (Refused BadParameter)) u)

-- 1F 26 20: the header of colours, for the DCLUT by 2/2
unfoldable pub colour_header : Context → List ℕ → Outcome
colour_header x u =
    let dclut = contains u 0x22 in
    outcome (record x { kind = if dclut then LookUpTable else ColourTable }) Skip (Says (command.ColourHeader dclut))

-- the last place of each kind of colours
abbrev pub last_place : ColourKind → ℕ
last_place ColourTable = 31
last_place LookUpTable = 3

-- the run that begins at a place
abbrev pub run_from : ColourKind → ℕ → Mode
run_from ColourTable i = TableRun i
run_from LookUpTable i = DclutRun i

-- 1F 26 t o, t a digit: colours begin at the place of two digits
unfoldable pub colour_start : Context → ℕ → Table
colour_start x t = then_plain x (λ o. complete (
    let i = two_digits t o in
    if is_digit o && nat_le i (last_place x.kind) then outcome x (run_from x.kind i) (Says (command.ColourStart i)) else
    outcome x Skip (Refused BadParameter)))

-- 1F 26: colours. The optional parts of 1F 26 20 are the kind, the form of the colours, and the form of one byte
unfoldable pub colour_unit : Context → Table
colour_unit x = then_plain x (λ a u.
    if a == 0x20 then saying (optional ((0x20 ∷ 0x22 ∷ []) ∷ (0x34 ∷ []) ∷ (0x40 ∷ []) ∷ [])) (colour_header x) u else
    if a == 0x21 then complete (outcome x Skip (Says command.ColourDefaults)) u else
    if is_digit a then colour_start x a u else
    complete (outcome x Skip (Refused BadParameter)) u)

-- 1F 2D: the format. Its optional parts are the rows, 20 by 4/2, and whether positions wrap, not by 7/1
unfoldable pub format : Context → List ℕ → Outcome
format x u =
    outcome x Text (Says (command.Format (if contains u 0x42 then 20 else 24) (not (contains u 0x71))))

-- 1F 2F 40 r: the service is broken at a row
unfoldable pub service_break : Context → Table
service_break x = then_plain x (λ r. complete (
    if is_row r then outcome x Text (Says (command.ServiceBreak (r - 0x40))) else
    outcome x Skip (Refused BadParameter)))

-- 1F 2F: the service. Full defaults bring back the first context
unfoldable pub service_unit : Context → Table
service_unit x = then_plain x (λ a u.
    if a == 0x40 then service_break x u else
    if a == 0x41 then complete (outcome start_context Text (Says (command.FullDefaults Serial))) u else
    if a == 0x42 then complete (outcome start_context Text (Says (command.FullDefaults Parallel))) u else
    if a == 0x43 then complete (outcome x Text (Says (command.ControlDefaults Serial))) u else
    if a == 0x44 then complete (outcome x Text (Says (command.ControlDefaults Parallel))) u else
    if a == 0x45 then complete (outcome x Text (Says (command.Revision 2))) u else
    if a == 0x46 then complete (outcome x Text (Says (command.Revision 1))) u else
    if a == 0x4F then complete (outcome x Text (Says command.ServiceEnd)) u else
    complete (outcome x Skip (Refused BadParameter)) u)

-- the units after 1F
unfoldable pub us_unit : Context → Table
us_unit x = then_plain x (λ a u.
    if a == 0x23 then drcs_unit x u else  -- downloaded characters
    if a == 0x26 then colour_unit x u else  -- colours
    if a == 0x2D then saying (optional ((0x41 ∷ 0x42 ∷ []) ∷ (0x70 ∷ 0x71 ∷ []) ∷ [])) (format x) u else  -- format
    if a == 0x2F then service_unit x u else  -- service
    if is_between 0x20 0x3F a then complete (outcome x Skip (Refused UnknownUnit)) u else
    us_position x a u)  -- APA

-- a further byte fits after a whole unit, after 1F
unfoldable pub us_grows : List ℕ → Bool
us_grows u = is_longer (us_unit start_context u).fit
