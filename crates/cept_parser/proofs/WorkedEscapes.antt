-- Worked cases: repetitions and escape sequences, by computing.
use Rattle.std.proofs.Common.{◌+◌, List, [], ◌∷◌, ◌++◌, map, refl}
use Rattle.std.specs.List.{range_with_len}
use Rattle.cept_codes.specs.declared.command.C1Set.TheVariants.{Serial, Parallel}
use Rattle.cept_codes.specs.declared.command.Command.TheVariants as command
use Rattle.cept_codes.specs.declared.glyph.SetId.TheVariants.{P, S, M, N, D}
use Rattle.cept_codes.specs.declared.item.Reason.TheVariants as reason
use Rattle.cept_parser.proofs.WhatReads.{reading_computes}
use Rattle.cept_parser.proofs.WorkedRows.{Row, AreRead, says, is_refused}

-- ---- RPT: 12 and a byte of columns 4 to 7

abbrev repetitions : List Row
repetitions = map (λ n. says (0x12 ∷ (0x40 + n) ∷ []) (command.Repeat n)) (range_with_len 0 64)

repetitions_are_read : AreRead repetitions
unfolding reading_computes
repetitions_are_read = refl

abbrev refused_repetitions : List Row
refused_repetitions = map (λ x. is_refused (0x12 ∷ x ∷ []) reason.BadParameter) (range_with_len 0x20 32)

refused_repetitions_are_read : AreRead refused_repetitions
unfolding reading_computes
refused_repetitions_are_read = refl

-- ---- 1B f

-- 4/0 to 5/15 without 5/11
abbrev c1_codes_in_two_bytes : List Row
c1_codes_in_two_bytes =
    map (λ n. says (0x1B ∷ (0x40 + n) ∷ []) (command.C1 n)) (range_with_len 0 27)
    ++ map (λ n. says (0x1B ∷ (0x40 + n) ∷ []) (command.C1 n)) (range_with_len 28 4)

c1_codes_in_two_bytes_are_read : AreRead c1_codes_in_two_bytes
unfolding reading_computes
c1_codes_in_two_bytes_are_read = refl

abbrev locking_shifts : List Row
locking_shifts =
    says (0x1B ∷ 0x6E ∷ []) (command.LockLeft 2)
    ∷ says (0x1B ∷ 0x6F ∷ []) (command.LockLeft 3)
    ∷ says (0x1B ∷ 0x7E ∷ []) (command.LockRight 1)
    ∷ says (0x1B ∷ 0x7D ∷ []) (command.LockRight 2)
    ∷ says (0x1B ∷ 0x7C ∷ []) (command.LockRight 3)
    ∷ []

locking_shifts_are_read : AreRead locking_shifts
unfolding reading_computes
locking_shifts_are_read = refl

-- the other finals of 3/0 to 7/15: 3/0 to 3/15, 6/0 to 6/13, 7/0 to 7/11 and 7/15
abbrev unknown_finals : List Row
unknown_finals =
    map (λ f. is_refused (0x1B ∷ f ∷ []) reason.UnknownEscape)
    (range_with_len 0x30 16 ++ range_with_len 0x60 14 ++ range_with_len 0x70 12 ++ 0x7F ∷ [])

unknown_finals_are_read : AreRead unknown_finals
unfolding reading_computes
unknown_finals_are_read = refl

-- ---- designations

abbrev designations_of_c1 : List Row
designations_of_c1 =
    says (0x1B ∷ 0x22 ∷ 0x40 ∷ []) (command.DesignateC1 Serial)
    ∷ says (0x1B ∷ 0x22 ∷ 0x41 ∷ []) (command.DesignateC1 Parallel)
    ∷ map (λ f. is_refused (0x1B ∷ 0x22 ∷ f ∷ []) reason.UnknownEscape)
    (range_with_len 0x30 16 ++ range_with_len 0x42 62)

designations_of_c1_are_read : AreRead designations_of_c1
unfolding reading_computes
designations_of_c1_are_read = refl

abbrev designations : List Row
designations =
    says (0x1B ∷ 0x28 ∷ 0x40 ∷ []) (command.Designate 0 P)
    ∷ says (0x1B ∷ 0x28 ∷ 0x62 ∷ []) (command.Designate 0 S)
    ∷ says (0x1B ∷ 0x28 ∷ 0x63 ∷ []) (command.Designate 0 M)
    ∷ says (0x1B ∷ 0x28 ∷ 0x64 ∷ []) (command.Designate 0 N)
    ∷ says (0x1B ∷ 0x28 ∷ 0x20 ∷ 0x40 ∷ []) (command.Designate 0 D)
    ∷ says (0x1B ∷ 0x29 ∷ 0x40 ∷ []) (command.Designate 1 P)
    ∷ says (0x1B ∷ 0x29 ∷ 0x62 ∷ []) (command.Designate 1 S)
    ∷ says (0x1B ∷ 0x29 ∷ 0x63 ∷ []) (command.Designate 1 M)
    ∷ says (0x1B ∷ 0x29 ∷ 0x64 ∷ []) (command.Designate 1 N)
    ∷ says (0x1B ∷ 0x29 ∷ 0x20 ∷ 0x40 ∷ []) (command.Designate 1 D)
    ∷ says (0x1B ∷ 0x2A ∷ 0x40 ∷ []) (command.Designate 2 P)
    ∷ says (0x1B ∷ 0x2A ∷ 0x62 ∷ []) (command.Designate 2 S)
    ∷ says (0x1B ∷ 0x2A ∷ 0x63 ∷ []) (command.Designate 2 M)
    ∷ says (0x1B ∷ 0x2A ∷ 0x64 ∷ []) (command.Designate 2 N)
    ∷ says (0x1B ∷ 0x2A ∷ 0x20 ∷ 0x40 ∷ []) (command.Designate 2 D)
    ∷ says (0x1B ∷ 0x2B ∷ 0x40 ∷ []) (command.Designate 3 P)
    ∷ says (0x1B ∷ 0x2B ∷ 0x62 ∷ []) (command.Designate 3 S)
    ∷ says (0x1B ∷ 0x2B ∷ 0x63 ∷ []) (command.Designate 3 M)
    ∷ says (0x1B ∷ 0x2B ∷ 0x64 ∷ []) (command.Designate 3 N)
    ∷ says (0x1B ∷ 0x2B ∷ 0x20 ∷ 0x40 ∷ []) (command.Designate 3 D)
    ∷ []

designations_are_read : AreRead designations
unfolding reading_computes
designations_are_read = refl

-- the other finals of 3/0 to 7/15
abbrev unknown_designations : List Row
unknown_designations =
    map (λ f. is_refused (0x1B ∷ 0x28 ∷ f ∷ []) reason.UnknownEscape)
    (range_with_len 0x30 16 ++ range_with_len 0x41 33 ++ range_with_len 0x65 27)
    ++ map (λ f. is_refused (0x1B ∷ 0x28 ∷ 0x20 ∷ f ∷ []) reason.UnknownEscape)
    (range_with_len 0x30 16 ++ range_with_len 0x41 63)

unknown_designations_are_read : AreRead unknown_designations
unfolding reading_computes
unknown_designations_are_read = refl

-- ---- attributes of the screen and of a row

-- 4/0 to 5/15 without 4/12 to 4/15 and 5/11
abbrev screen_attributes : List Row
screen_attributes =
    map (λ n. says (0x1B ∷ 0x23 ∷ 0x20 ∷ (0x40 + n) ∷ []) (command.FullScreen n))
    (range_with_len 0 12 ++ range_with_len 16 11 ++ range_with_len 28 4)
    ++ map (λ f. is_refused (0x1B ∷ 0x23 ∷ 0x20 ∷ f ∷ []) reason.UnknownEscape)
    (range_with_len 0x30 16 ++ range_with_len 0x4C 4 ++ 0x5B ∷ range_with_len 0x60 32)

screen_attributes_are_read : AreRead screen_attributes
unfolding reading_computes
screen_attributes_are_read = refl

-- 4/0 to 5/15 without 5/11
abbrev row_attributes : List Row
row_attributes =
    map (λ n. says (0x1B ∷ 0x23 ∷ 0x21 ∷ (0x40 + n) ∷ []) (command.FullRow n))
    (range_with_len 0 27 ++ range_with_len 28 4)
    ++ map (λ f. is_refused (0x1B ∷ 0x23 ∷ 0x21 ∷ f ∷ []) reason.UnknownEscape)
    (range_with_len 0x30 16 ++ 0x5B ∷ range_with_len 0x60 32)

row_attributes_are_read : AreRead row_attributes
unfolding reading_computes
row_attributes_are_read = refl

-- ---- bytes 2/0 to 2/15 that begin nothing

abbrev unknown_first_bytes : List Row
unknown_first_bytes =
    map (λ i. is_refused (0x1B ∷ i ∷ 0x40 ∷ []) reason.UnknownEscape)
    (range_with_len 0x20 2 ++ range_with_len 0x23 5 ++ range_with_len 0x2C 4)

unknown_first_bytes_are_read : AreRead unknown_first_bytes
unfolding reading_computes
unknown_first_bytes_are_read = refl

abbrev unknown_second_bytes : List Row
unknown_second_bytes =
    map (λ i. is_refused (0x1B ∷ i ∷ 0x20 ∷ 0x40 ∷ []) reason.UnknownEscape)
    (range_with_len 0x20 3 ++ range_with_len 0x24 4 ++ range_with_len 0x2C 4)
    ++ map (λ j. is_refused (0x1B ∷ 0x23 ∷ j ∷ 0x40 ∷ []) reason.UnknownEscape) (range_with_len 0x22 14)
    ++ map (λ j. is_refused (0x1B ∷ 0x28 ∷ j ∷ 0x40 ∷ []) reason.UnknownEscape) (range_with_len 0x21 15)

unknown_second_bytes_are_read : AreRead unknown_second_bytes
unfolding reading_computes
unknown_second_bytes_are_read = refl

-- three of them and a final, and four of them, which are refused at the fourth
abbrev longest_sequences : List Row
longest_sequences =
    is_refused (0x1B ∷ 0x28 ∷ 0x20 ∷ 0x20 ∷ 0x40 ∷ []) reason.UnknownEscape
    ∷ is_refused (0x1B ∷ 0x23 ∷ 0x20 ∷ 0x2F ∷ 0x7F ∷ []) reason.UnknownEscape
    ∷ is_refused (0x1B ∷ 0x20 ∷ 0x20 ∷ 0x20 ∷ 0x30 ∷ []) reason.UnknownEscape
    ∷ is_refused (0x1B ∷ 0x20 ∷ 0x20 ∷ 0x20 ∷ 0x20 ∷ []) reason.UnknownEscape
    ∷ is_refused (0x1B ∷ 0x2F ∷ 0x2F ∷ 0x2F ∷ 0x2F ∷ []) reason.UnknownEscape
    ∷ is_refused (0x1B ∷ 0x28 ∷ 0x20 ∷ 0x20 ∷ 0x20 ∷ []) reason.UnknownEscape
    ∷ []

longest_sequences_are_read : AreRead longest_sequences
unfolding reading_computes
longest_sequences_are_read = refl
