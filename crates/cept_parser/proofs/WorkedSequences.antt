-- Worked cases: control sequences, by computing. CSI is 9B, or 1B 5B.
use Rattle.std.proofs.Common.{◌≡◌, true, false, ℕ, List, [], ◌∷◌, ◌++◌, map, replicate, refl}
use Rattle.std.specs.List.{flat_map, range_with_len}
use Rattle.cept_codes.specs.declared.command.Command.{Command}
use Rattle.cept_codes.specs.declared.command.Command.TheVariants as command
use Rattle.cept_codes.specs.declared.item.Reason.TheVariants as reason
use Rattle.cept_codes.specs.declared.item.Said.TheVariants.{Command as Says}
use Rattle.cept_parser.proofs.WhatReads.{reading_computes}
use Rattle.cept_parser.proofs.WorkedRows.{Row, AreRead, says, is_refused, says_but}

-- the same after both forms of CSI
abbrev in_both_forms : (List ℕ → Row) → List ℕ → List Row
in_both_forms row u = row (0x9B ∷ u) ∷ row (0x1B ∷ 0x5B ∷ u) ∷ []

abbrev csi : List ℕ → Command → List Row
csi u command = in_both_forms (λ v. says v command) u

abbrev bad_csi : List ℕ → List Row
bad_csi u = in_both_forms (λ v. is_refused v reason.BadParameter) u

abbrev unknown_csi : List ℕ → List Row
unknown_csi u = in_both_forms (λ v. is_refused v reason.UnknownCsi) u

-- ---- the table

abbrev sequences : List Row
sequences =
    csi (0x30 ∷ 0x40 ∷ []) (command.Table 0)
    ++ csi (0x31 ∷ 0x40 ∷ []) (command.Table 1)
    ++ csi (0x32 ∷ 0x40 ∷ []) (command.Table 2)
    ++ csi (0x33 ∷ 0x40 ∷ []) (command.Table 3)
    ++ csi (0x30 ∷ 0x41 ∷ []) (command.FlashMode 0)
    ++ csi (0x31 ∷ 0x41 ∷ []) (command.FlashMode 1)
    ++ csi (0x32 ∷ 0x41 ∷ []) (command.FlashMode 2)
    ++ csi (0x33 ∷ 0x41 ∷ []) (command.FlashMode 3)
    ++ csi (0x34 ∷ 0x41 ∷ []) (command.FlashMode 4)
    ++ csi (0x35 ∷ 0x41 ∷ []) (command.FlashMode 5)
    ++ csi (0x36 ∷ 0x41 ∷ []) (command.FlashMode 6)
    ++ csi (0x42 ∷ []) command.StopConceal
    ++ csi (0x30 ∷ 0x60 ∷ []) command.ScrollUp
    ++ csi (0x31 ∷ 0x60 ∷ []) command.ScrollDown
    ++ csi (0x32 ∷ 0x60 ∷ []) (command.Implicit true)
    ++ csi (0x33 ∷ 0x60 ∷ []) (command.Implicit false)
    ++ csi (0x31 ∷ 0x50 ∷ []) (command.Protect true)
    ++ csi (0x31 ∷ 0x51 ∷ []) (command.Protect false)
    ++ csi (0x32 ∷ 0x53 ∷ []) (command.Marked true)
    ++ csi (0x32 ∷ 0x54 ∷ []) (command.Marked false)

sequences_are_read : AreRead sequences
unfolding reading_computes
sequences_are_read = refl

-- of all sequences of one byte and of two, 2/0 to 3/15 and 4/0 to 7/15, no others are known
abbrev short_sequences : List (List ℕ)
short_sequences =
    map (λ f. 0x9B ∷ f ∷ []) (range_with_len 0x40 64)
    ++ flat_map (λ p. map (λ f. 0x9B ∷ p ∷ f ∷ []) (range_with_len 0x40 64)) (range_with_len 0x20 32)

known_sequences : says_but reason.UnknownCsi short_sequences ≡
    (0x9B ∷ 0x42 ∷ [], Says command.StopConceal ∷ [])
    ∷ (0x9B ∷ 0x30 ∷ 0x40 ∷ [], Says (command.Table 0) ∷ [])
    ∷ (0x9B ∷ 0x30 ∷ 0x41 ∷ [], Says (command.FlashMode 0) ∷ [])
    ∷ (0x9B ∷ 0x30 ∷ 0x60 ∷ [], Says command.ScrollUp ∷ [])
    ∷ (0x9B ∷ 0x31 ∷ 0x40 ∷ [], Says (command.Table 1) ∷ [])
    ∷ (0x9B ∷ 0x31 ∷ 0x41 ∷ [], Says (command.FlashMode 1) ∷ [])
    ∷ (0x9B ∷ 0x31 ∷ 0x50 ∷ [], Says (command.Protect true) ∷ [])
    ∷ (0x9B ∷ 0x31 ∷ 0x51 ∷ [], Says (command.Protect false) ∷ [])
    ∷ (0x9B ∷ 0x31 ∷ 0x60 ∷ [], Says command.ScrollDown ∷ [])
    ∷ (0x9B ∷ 0x32 ∷ 0x40 ∷ [], Says (command.Table 2) ∷ [])
    ∷ (0x9B ∷ 0x32 ∷ 0x41 ∷ [], Says (command.FlashMode 2) ∷ [])
    ∷ (0x9B ∷ 0x32 ∷ 0x53 ∷ [], Says (command.Marked true) ∷ [])
    ∷ (0x9B ∷ 0x32 ∷ 0x54 ∷ [], Says (command.Marked false) ∷ [])
    ∷ (0x9B ∷ 0x32 ∷ 0x60 ∷ [], Says (command.Implicit true) ∷ [])
    ∷ (0x9B ∷ 0x33 ∷ 0x40 ∷ [], Says (command.Table 3) ∷ [])
    ∷ (0x9B ∷ 0x33 ∷ 0x41 ∷ [], Says (command.FlashMode 3) ∷ [])
    ∷ (0x9B ∷ 0x33 ∷ 0x60 ∷ [], Says (command.Implicit false) ∷ [])
    ∷ (0x9B ∷ 0x34 ∷ 0x41 ∷ [], Says (command.FlashMode 4) ∷ [])
    ∷ (0x9B ∷ 0x35 ∷ 0x41 ∷ [], Says (command.FlashMode 5) ∷ [])
    ∷ (0x9B ∷ 0x36 ∷ 0x41 ∷ [], Says (command.FlashMode 6) ∷ [])
    ∷ []
unfolding reading_computes
known_sequences = refl

-- ---- areas

abbrev areas : List Row
areas =
    csi (0x31 ∷ 0x3B ∷ 0x31 ∷ 0x55 ∷ []) (command.AreaCreate 1 1)
    ++ csi (0x31 ∷ 0x3B ∷ 0x31 ∷ 0x56 ∷ []) (command.AreaDelete 1 1)
    ++ csi (0x32 ∷ 0x3B ∷ 0x39 ∷ 0x55 ∷ []) (command.AreaCreate 2 9)
    ++ csi (0x32 ∷ 0x3B ∷ 0x39 ∷ 0x56 ∷ []) (command.AreaDelete 2 9)
    ++ csi (0x31 ∷ 0x3B ∷ 0x32 ∷ 0x34 ∷ 0x55 ∷ []) (command.AreaCreate 1 24)
    ++ csi (0x31 ∷ 0x3B ∷ 0x32 ∷ 0x34 ∷ 0x56 ∷ []) (command.AreaDelete 1 24)
    ++ csi (0x30 ∷ 0x33 ∷ 0x3B ∷ 0x37 ∷ 0x55 ∷ []) (command.AreaCreate 3 7)
    ++ csi (0x30 ∷ 0x33 ∷ 0x3B ∷ 0x37 ∷ 0x56 ∷ []) (command.AreaDelete 3 7)
    ++ csi (0x31 ∷ 0x32 ∷ 0x3B ∷ 0x32 ∷ 0x30 ∷ 0x55 ∷ []) (command.AreaCreate 12 20)
    ++ csi (0x31 ∷ 0x32 ∷ 0x3B ∷ 0x32 ∷ 0x30 ∷ 0x56 ∷ []) (command.AreaDelete 12 20)
    ++ csi (0x32 ∷ 0x34 ∷ 0x3B ∷ 0x32 ∷ 0x34 ∷ 0x55 ∷ []) (command.AreaCreate 24 24)
    ++ csi (0x32 ∷ 0x34 ∷ 0x3B ∷ 0x32 ∷ 0x34 ∷ 0x56 ∷ []) (command.AreaDelete 24 24)

areas_are_read : AreRead areas
unfolding reading_computes
areas_are_read = refl

-- from row 0, past row 24, and from below
abbrev bad_areas : List Row
bad_areas =
    bad_csi (0x30 ∷ 0x3B ∷ 0x35 ∷ 0x55 ∷ [])
    ++ bad_csi (0x30 ∷ 0x3B ∷ 0x30 ∷ 0x56 ∷ [])
    ++ bad_csi (0x30 ∷ 0x30 ∷ 0x3B ∷ 0x32 ∷ 0x34 ∷ 0x55 ∷ [])
    ++ bad_csi (0x31 ∷ 0x3B ∷ 0x32 ∷ 0x35 ∷ 0x55 ∷ [])
    ++ bad_csi (0x32 ∷ 0x35 ∷ 0x3B ∷ 0x32 ∷ 0x35 ∷ 0x56 ∷ [])
    ++ bad_csi (0x39 ∷ 0x39 ∷ 0x3B ∷ 0x39 ∷ 0x39 ∷ 0x56 ∷ [])
    ++ bad_csi (0x32 ∷ 0x3B ∷ 0x31 ∷ 0x55 ∷ [])
    ++ bad_csi (0x32 ∷ 0x34 ∷ 0x3B ∷ 0x32 ∷ 0x33 ∷ 0x56 ∷ [])

bad_areas_are_read : AreRead bad_areas
unfolding reading_computes
bad_areas_are_read = refl

-- other finals than 5/5 and 5/6, numbers of three digits or none, other bytes between
abbrev unknown_areas : List Row
unknown_areas =
    flat_map (λ f. unknown_csi (0x31 ∷ 0x3B ∷ 0x32 ∷ f ∷ []))
    (range_with_len 0x40 21 ++ range_with_len 0x57 41)
    ++ flat_map (λ p. unknown_csi (0x31 ∷ p ∷ 0x32 ∷ 0x55 ∷ [])) (range_with_len 0x20 27 ++ range_with_len 0x3C 4)
    ++ flat_map (λ m. unknown_csi (0x31 ∷ 0x3B ∷ m ∷ 0x55 ∷ [])) (range_with_len 0x20 16 ++ range_with_len 0x3A 6)
    ++ flat_map (λ n. unknown_csi (n ∷ 0x3B ∷ 0x32 ∷ 0x55 ∷ [])) (range_with_len 0x20 16 ++ range_with_len 0x3A 6)
    ++ unknown_csi (0x31 ∷ 0x3B ∷ 0x55 ∷ [])
    ++ unknown_csi (0x3B ∷ 0x32 ∷ 0x55 ∷ [])
    ++ unknown_csi (0x30 ∷ 0x30 ∷ 0x31 ∷ 0x3B ∷ 0x32 ∷ 0x55 ∷ [])
    ++ unknown_csi (0x31 ∷ 0x3B ∷ 0x30 ∷ 0x30 ∷ 0x32 ∷ 0x55 ∷ [])
    ++ unknown_csi (0x30 ∷ 0x31 ∷ 0x3B ∷ 0x30 ∷ 0x32 ∷ 0x30 ∷ 0x55 ∷ [])
    ++ unknown_csi (0x31 ∷ 0x3B ∷ 0x3B ∷ 0x32 ∷ 0x55 ∷ [])

unknown_areas_are_read : AreRead unknown_areas
unfolding reading_computes
unknown_areas_are_read = refl

-- ---- seven bytes 2/0 to 3/15 and a final, and eight of them, which are refused at the eighth

abbrev longest_sequences : List Row
longest_sequences =
    unknown_csi (replicate 7 0x30 ++ 0x40 ∷ [])
    ++ unknown_csi (replicate 7 0x3F ++ 0x7F ∷ [])
    ++ unknown_csi (replicate 8 0x20)
    ++ unknown_csi (replicate 8 0x3F)

longest_sequences_are_read : AreRead longest_sequences
unfolding reading_computes
longest_sequences_are_read = refl
