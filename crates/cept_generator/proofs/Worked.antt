-- Worked cases, from the table drawn by another program: the page of 0, and one whose first units are of all eight kinds.
use Rattle.std.proofs.Common.{◌≡◌, [], ◌∷◌, refl}
use Rattle.cept_codes.specs.declared.command.Command.TheVariants as command
use Rattle.cept_parser.specs.Runs.{colour}
use Rattle.cept_generator.specs.Generated.{state_after, unit_bytes, unit_commands, bytes_of_units, commands_of_units}

-- the page of 0, after the head
pub first_of_0 : bytes_of_units 3 0
    ≡ 0x1F ∷ 0x26 ∷ 0x31 ∷ 0x36 ∷ 0x4C ∷ 0x79 ∷ 0x0F ∷ 0x86 ∷ 0x1F ∷ 0x26 ∷ 0x31 ∷ 0x37 ∷ 0x7D ∷ 0x70 ∷ 0x0F ∷ []
unfolding bytes_of_units unit_bytes state_after
first_of_0 = refl

-- a repetition, a colour, four letters, a position, a colour of mosaics, a size, an entry, the rest of a row
pub first_of_474 : bytes_of_units 8 474
    ≡ 0x12 ∷ 0x6B ∷ 0x80 ∷ 0x52 ∷ 0x53 ∷ 0x56 ∷ 0x42 ∷ 0x1F ∷ 0x51 ∷ 0x5B ∷ 0x92 ∷ 0x8E ∷ 0x1F ∷ 0x26 ∷ 0x31 ∷ 0x37
    ∷ 0x76 ∷ 0x4E ∷ 0x0F ∷ 0x18 ∷ []
unfolding bytes_of_units unit_bytes state_after
first_of_474 = refl

pub commands_of_474 : commands_of_units 8 474
    ≡ command.Repeat 43 ∷ command.C1 0 ∷ command.Graphic 0x52 ∷ command.Graphic 0x53 ∷ command.Graphic 0x56
    ∷ command.Graphic 0x42 ∷ command.Position 17 27 ∷ command.C1 18 ∷ command.C1 14 ∷ command.ColourStart 17
    ∷ command.Entry 17 (record { r = 13; g = 13; b = 2 }) ∷ command.LockLeft 0 ∷ command.Cancel ∷ []
unfolding commands_of_units unit_commands state_after colour
commands_of_474 = refl
