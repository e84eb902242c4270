-- Worked cases: units of one byte, by computing.
use Rattle.std.proofs.Common.{◌+◌, List, [], ◌∷◌, ◌++◌, map, refl}
use Rattle.std.specs.List.{flat_map, range_with_len}
use Rattle.cept_codes.specs.declared.command.Command.TheVariants as command
use Rattle.cept_codes.specs.declared.item.Reason.TheVariants as reason
use Rattle.cept_parser.specs.declared.context.Mode.TheVariants.{TableRun, DclutRun, DrcsRun, Skip}
use Rattle.cept_parser.proofs.WhatReads.{reading_computes}
use Rattle.cept_parser.proofs.WorkedRows.{Row, AreRead, says, is_refused, leaving, from}

-- ---- C0

abbrev c0_codes : List Row
c0_codes =
    says (0x00 ∷ []) command.Nul
    ∷ says (0x08 ∷ []) command.Back
    ∷ says (0x09 ∷ []) command.Forward
    ∷ says (0x0A ∷ []) command.Down
    ∷ says (0x0B ∷ []) command.Up
    ∷ says (0x0C ∷ []) command.Clear
    ∷ says (0x0D ∷ []) command.Return
    ∷ says (0x0E ∷ []) (command.LockLeft 1)
    ∷ says (0x0F ∷ []) (command.LockLeft 0)
    ∷ says (0x11 ∷ []) command.CursorOn
    ∷ says (0x14 ∷ []) command.CursorOff
    ∷ says (0x18 ∷ []) command.Cancel
    ∷ says (0x19 ∷ []) (command.Single 2)
    ∷ says (0x1D ∷ []) (command.Single 3)
    ∷ says (0x1E ∷ []) command.Home
    ∷ []

c0_codes_are_read : AreRead c0_codes
unfolding reading_computes
c0_codes_are_read = refl

abbrev refused_c0_codes : List Row
refused_c0_codes =
    map (λ code. is_refused (code ∷ []) reason.UnassignedControl)
    (0x01 ∷ 0x02 ∷ 0x03 ∷ 0x04 ∷ 0x05 ∷ 0x06 ∷ 0x07 ∷ 0x10 ∷ 0x13 ∷ 0x15 ∷ 0x16 ∷ 0x17 ∷ 0x1A ∷ 0x1C ∷ [])

refused_c0_codes_are_read : AreRead refused_c0_codes
unfolding reading_computes
refused_c0_codes_are_read = refl

-- ---- C1 and the right half

-- 8/0 to 9/15 without 9/11
abbrev c1_codes : List Row
c1_codes =
    map (λ n. says ((0x80 + n) ∷ []) (command.C1 n)) (range_with_len 0 27)
    ++ map (λ n. says ((0x80 + n) ∷ []) (command.C1 n)) (range_with_len 28 4)

c1_codes_are_read : AreRead c1_codes
unfolding reading_computes
c1_codes_are_read = refl

-- 10/0 to 15/15
abbrev right_bytes : List Row
right_bytes = map (λ byte. says (byte ∷ []) (command.Graphic byte)) (range_with_len 0xA0 96)

right_bytes_are_read : AreRead right_bytes
unfolding reading_computes
right_bytes_are_read = refl

-- ---- plain bytes

abbrev plain_bytes : List Row
plain_bytes = map (λ byte. says (byte ∷ []) (command.Graphic byte)) (range_with_len 0x20 96)

plain_bytes_are_read : AreRead plain_bytes
unfolding reading_computes
plain_bytes_are_read = refl

abbrev skipped_bytes : List Row
skipped_bytes =
    map (λ byte. from Skip (leaving Skip (says (byte ∷ []) command.Skipped))) (range_with_len 0x20 96)

skipped_bytes_are_read : AreRead skipped_bytes
unfolding reading_computes
skipped_bytes_are_read = refl

-- ---- breakers end each mode

abbrev breakers : List Row
breakers =
    says (0x00 ∷ []) command.Nul
    ∷ is_refused (0x07 ∷ []) reason.UnassignedControl
    ∷ says (0x12 ∷ 0x41 ∷ []) (command.Repeat 1)
    ∷ is_refused (0x12 ∷ 0x3F ∷ []) reason.BadParameter
    ∷ says (0x1B ∷ 0x6E ∷ []) (command.LockLeft 2)
    ∷ says (0x1F ∷ 0x41 ∷ 0x42 ∷ []) (command.Position 1 2)
    ∷ says (0x80 ∷ []) (command.C1 0)
    ∷ says (0x9B ∷ 0x42 ∷ []) command.StopConceal
    ∷ says (0x9F ∷ []) (command.C1 31)
    ∷ says (0xA0 ∷ []) (command.Graphic 0xA0)
    ∷ says (0xFF ∷ []) (command.Graphic 0xFF)
    ∷ []

abbrev breakers_in_modes : List Row
breakers_in_modes =
    flat_map (λ mode. map (from mode) breakers)
    (TableRun 0 ∷ TableRun 32 ∷ DclutRun 0 ∷ DclutRun 4 ∷ DrcsRun 0x21 ∷ DrcsRun 0x7F ∷ Skip ∷ [])

breakers_in_modes_are_read : AreRead breakers_in_modes
unfolding reading_computes
breakers_in_modes_are_read = refl
