-- Units that begin with a plain byte, by the mode: signs, colours, patterns, and bytes that are passed over (the modes
-- are this profile's own).
use Rattle.std.specs.Prelude.{ℕ, ◌+◌, ◌*◌, ◌/◌, ◌%◌, ◌^◌, ◌&&◌, if◌then◌else◌, nat_lt, nat_le, [], ◌∷◌}
use Rattle.cept_codes.specs.declared.command.Command.TheVariants as command
use Rattle.cept_codes.specs.declared.item.Reason.TheVariants.{BadParameter}
use Rattle.cept_codes.specs.declared.item.Said.TheVariants.{Command as Says, Refused}
use Rattle.cept_codes.specs.declared.look.Rgb.{Rgb}
use Rattle.cept_drcs.specs.Unit.{is_pattern, pattern, pattern_grows}
use Rattle.cept_parser.specs.declared.context.Mode.{Mode}
use Rattle.cept_parser.specs.declared.context.Mode.TheVariants.{Text, TableRun, DclutRun, DrcsRun, Skip}
use Rattle.cept_parser.specs.declared.context.Context.{Context}
use Rattle.cept_parser.specs.declared.fit.Fit.TheVariants.{Misfit, Whole, Longer}
use Rattle.cept_parser.specs.Bytes.{outcome, Table, complete, then_plain}

-- the bit of a number worth 2 to the power of k
abbrev pub bit : ℕ → ℕ → ℕ
bit k a = a / 2 ^ k % 2

-- the colour of two bytes: the six low bits of the first are, from the highest, the eights of red, green and blue and
-- then their fours, those of the second their twos and then their ones. So the two bits of red in each byte are worth 2
-- ^ 5 and 2 ^ 2 there, those of green 2 ^ 4 and 2 ^ 1, those of blue 2 ^ 3 and 2 ^ 0 (own)
abbrev pub colour_part : ℕ → ℕ → ℕ → ℕ
colour_part k a b = 8 * bit (k + 3) a + 4 * bit k a + (2 * bit (k + 3) b + bit k b)

-- the colour of both bytes of an entry
unfoldable pub colour : ℕ → ℕ → Rgb
colour a b = record { r = colour_part 2 a b; g = colour_part 1 a b; b = colour_part 0 a b }

-- TableRun: the second byte of an entry, which is of columns 4 to 7 as the first
unfoldable pub table_entry : Context → ℕ → ℕ → Table
table_entry x i a = then_plain x (λ b. complete (
    if nat_le 0x40 b then outcome x (TableRun (i + 1)) (Says (command.Entry i (colour a b))) else
    outcome x Skip (Refused BadParameter)))

-- a pattern for this code: each beginning of it is one itself
abbrev pub with_pattern : Context → ℕ → Table
with_pattern x c u = record {
  fit = if is_pattern x.form u then (if pattern_grows x.form u then Longer else Whole) else Misfit;
  outcome = outcome x (DrcsRun (c + 1)) (Says (command.DrcsPattern c (pattern x.form u)));
}

-- the unit of a mode that begins with this plain byte. A value of the DCLUT is its five low bits. A byte that can't begin
-- the unit of its run is refused
abbrev pub run_unit : Mode → Context → ℕ → Table
run_unit Text x a u = complete (outcome x Text (Says (command.Graphic a))) u
run_unit Skip x a u = complete (outcome x Skip (Says command.Skipped)) u
run_unit (TableRun i) x a u =
    if nat_lt i 32 && nat_le 0x40 a then table_entry x i a u else
    complete (outcome x Skip (Refused BadParameter)) u
run_unit (DclutRun i) x a u =
    if nat_lt i 4 && nat_le 0x40 a then complete (outcome x (DclutRun (i + 1)) (Says (command.Dclut i (a % 32)))) u else
    complete (outcome x Skip (Refused BadParameter)) u
run_unit (DrcsRun c) x a u =
    if nat_lt c 0x7F && is_pattern x.form (a ∷ []) then with_pattern x c (a ∷ u) else
    complete (outcome x Skip (Refused BadParameter)) u
