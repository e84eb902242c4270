-- Numbers of sets, ways to flash, sizes and flags (this project's own), and what stands for one that isn't set.
use Rattle.std.specs.Prelude.{ℕ, Bool, List, [], ◌∷◌, Option, Some, None, if◌then◌else◌}
use Rattle.cept_codes.specs.declared.attribute.Flash.{Flash}
use Rattle.cept_codes.specs.declared.attribute.Flash.TheVariants as flashes
use Rattle.cept_codes.specs.declared.attribute.Size.{Size}
use Rattle.cept_codes.specs.declared.attribute.Size.TheVariants as sizes
use Rattle.cept_codes.specs.declared.command.C1Set.{C1Set}
use Rattle.cept_codes.specs.declared.command.C1Set.TheVariants as c1sets
use Rattle.cept_codes.specs.declared.glyph.SetId.{SetId}
use Rattle.cept_codes.specs.declared.glyph.SetId.TheVariants as sets
use Rattle.cept_profile.specs.Sets.{Sets}

abbrev pub bit : Bool → ℕ
bit b = if b then 1 else 0

abbrev pub set_number : SetId → ℕ
set_number sets.P = 0
set_number sets.S = 1
set_number sets.M = 2
set_number sets.N = 3
set_number sets.D = 4

abbrev pub flash_number : Flash → ℕ
flash_number flashes.Steady = 0
flash_number flashes.Plain = 1
flash_number flashes.Inverted = 2
flash_number flashes.Reduced = 3
flash_number flashes.Fast1 = 4
flash_number flashes.Fast2 = 5
flash_number flashes.Fast3 = 6

abbrev pub c1_number : C1Set → ℕ
c1_number c1sets.Serial = 0
c1_number c1sets.Parallel = 1

abbrev pub number_or : ℕ → Option ℕ → ℕ
number_or none (Some n) = n
number_or none None = none

-- ---- attributes, 255 where they aren't set

abbrev pub flash_or_unset : Option Flash → ℕ
flash_or_unset (Some flash) = flash_number flash
flash_or_unset None = 255

abbrev pub flag_or_unset : Option Bool → ℕ
flag_or_unset (Some flag) = bit flag
flag_or_unset None = 255

abbrev pub size_number : Size → ℕ
size_number sizes.Normal = 0
size_number sizes.High = 1
size_number sizes.Wide = 2
size_number sizes.Both = 3

abbrev pub size_or_unset : Option Size → ℕ
size_or_unset (Some size) = size_number size
size_or_unset None = 255

-- ---- sets and areas

-- the numbers of G0 to G3
abbrev pub set_numbers : Sets → List ℕ
set_numbers sets = set_number sets.g0 ∷ set_number sets.g1 ∷ set_number sets.g2 ∷ set_number sets.g3 ∷ []

-- the first row and the last, both 0 where there is no area
abbrev pub area_numbers : Option (ℕ × ℕ) → ℕ × ℕ
area_numbers (Some area) = area
area_numbers None = (0, 0)
