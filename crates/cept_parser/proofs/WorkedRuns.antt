-- Worked cases: plain bytes in runs of colours and of patterns, by computing.
use Rattle.std.proofs.Common.{◌≡◌, ℕ, ◌+◌, List, [], ◌∷◌, ◌++◌, map, replicate, refl}
use Rattle.std.specs.List.{range_with_len}
use Rattle.cept_codes.specs.declared.command.Command.TheVariants as command
use Rattle.cept_codes.specs.declared.command.Form.{Form}
use Rattle.cept_codes.specs.declared.item.Reason.TheVariants as reason
use Rattle.cept_parser.specs.declared.context.Mode.{Mode}
use Rattle.cept_parser.specs.declared.context.Mode.TheVariants.{TableRun, DclutRun, DrcsRun, Skip}
use Rattle.cept_parser.proofs.WhatReads.{reading_computes}
use Rattle.cept_parser.proofs.WorkedRows.{Row, AreRead, AreReadBefore, read_before, told}
use Rattle.cept_parser.proofs.WorkedRows.{says, is_refused, leaving, from}

-- plain bytes that are refused in this mode, each alone
abbrev misplaced : Mode → List ℕ → List Row
misplaced mode bytes = map (λ byte. from mode (leaving Skip (is_refused (byte ∷ []) reason.BadParameter))) bytes

-- ---- entries of the table

-- two bytes of columns 4 to 7 that make an entry of these parts
abbrev entry : ℕ → ℕ → ℕ → ℕ → ℕ → ℕ → Row
entry i x y r g b =
    from (TableRun i) (leaving (TableRun (i + 1))
    (says (x ∷ y ∷ []) (command.Entry i (record { r = r; g = g; b = b }))))

-- one bit of red, green and blue after the other
abbrev entries : List Row
entries =
    entry 0 0x60 0x40 8 0 0
    ∷ entry 0 0x50 0x40 0 8 0
    ∷ entry 0 0x48 0x40 0 0 8
    ∷ entry 0 0x44 0x40 4 0 0
    ∷ entry 0 0x42 0x40 0 4 0
    ∷ entry 0 0x41 0x40 0 0 4
    ∷ entry 0 0x40 0x60 2 0 0
    ∷ entry 0 0x40 0x50 0 2 0
    ∷ entry 0 0x40 0x48 0 0 2
    ∷ entry 0 0x40 0x44 1 0 0
    ∷ entry 0 0x40 0x42 0 1 0
    ∷ entry 0 0x40 0x41 0 0 1
    ∷ entry 0 0x40 0x40 0 0 0
    ∷ entry 0 0x7F 0x7F 15 15 15
    ∷ map (λ i. entry i 0x64 0x52 12 3 0) (range_with_len 0 32)

entries_are_read : AreRead entries
unfolding reading_computes
entries_are_read = refl

-- a first byte of columns 2 and 3, a second one, which is refused with the first, and any byte after the last entry
abbrev bad_entries : List Row
bad_entries =
    misplaced (TableRun 0) (range_with_len 0x20 32)
    ++ misplaced (TableRun 31) (range_with_len 0x20 32)
    ++ map (λ y. from (TableRun 31) (leaving Skip (is_refused (0x40 ∷ y ∷ []) reason.BadParameter)))
    (range_with_len 0x20 32)
    ++ misplaced (TableRun 32) (range_with_len 0x20 96)

bad_entries_are_read : AreRead bad_entries
unfolding reading_computes
bad_entries_are_read = refl

-- ---- values of the DCLUT

abbrev value : ℕ → ℕ → ℕ → Row
value i x v = from (DclutRun i) (leaving (DclutRun (i + 1)) (says (x ∷ []) (command.Dclut i v)))

-- the five low bits of a byte
abbrev values : List Row
values =
    map (λ v. value 0 (0x40 + v) v) (range_with_len 0 32)
    ++ map (λ v. value 1 (0x60 + v) v) (range_with_len 0 32)
    ++ value 2 0x47 7 ∷ value 3 0x58 24 ∷ []

values_are_read : AreRead values
unfolding reading_computes
values_are_read = refl

-- bytes of columns 2 and 3, and any byte after the last value
abbrev bad_values : List Row
bad_values =
    misplaced (DclutRun 0) (range_with_len 0x20 32)
    ++ misplaced (DclutRun 3) (range_with_len 0x20 32)
    ++ misplaced (DclutRun 4) (range_with_len 0x20 96)

bad_values_are_read : AreRead bad_values
unfolding reading_computes
bad_values_are_read = refl

-- ---- patterns

-- a row under this form of patterns
abbrev under : Form → Row → Row
under form row =
    record row {
      before = record { mode = row.before.mode; kind = row.before.kind; form = form };
      after = record { mode = row.after.mode; kind = row.after.kind; form = form };
    }

-- bytes of a pattern of this form for a code, and its bits
abbrev pattern : Form → ℕ → List ℕ → List ℕ → Row
pattern form code u bits =
    under form (from (DrcsRun code) (leaving (DrcsRun (code + 1)) (says u
    (command.DrcsPattern code (record { w = form.w; h = form.h; planes = form.planes; bits = bits })))))

abbrev six_by_five : Form
six_by_five = record { w = 6; h = 5; planes = 1 }

abbrev two_planes : Form
two_planes = record { w = 6; h = 6; planes = 2 }

abbrev twelve_by_ten : Form
twelve_by_ten = record { w = 12; h = 10; planes = 1 }

abbrev largest : Form
largest = record { w = 12; h = 12; planes = 4 }

-- the openers of four planes, each with all pixels of twelve lines
abbrev all_pixels : List ℕ
all_pixels =
    0x30 ∷ replicate 24 0x7F ++ 0x31 ∷ replicate 24 0x7F ++ 0x32 ∷ replicate 24 0x7F ++ 0x33 ∷ replicate 24 0x7F

-- 30 alone; a falling line; a half line and its copy, the first pixels of two lines; two full planes; all of all planes
abbrev patterns : List Row
patterns =
    pattern six_by_five 0x21 (0x30 ∷ []) (replicate 9 0)
    ∷ pattern six_by_five 0x21 (0x30 ∷ 0x60 ∷ 0x50 ∷ 0x48 ∷ 0x44 ∷ 0x42 ∷ []) (0x10204081 ∷ replicate 8 0)
    ∷ pattern six_by_five 0x7E (0x30 ∷ 0x2F ∷ []) (0x3FFFFFFF ∷ replicate 8 0)
    ∷ pattern twelve_by_ten 0x22 (0x30 ∷ 0x60 ∷ 0x21 ∷ []) (0x1001 ∷ replicate 8 0)
    ∷ pattern two_planes 0x40 (0x30 ∷ 0x2F ∷ 0x31 ∷ 0x2F ∷ []) (0xFFFFFFFFFFFFFFFF ∷ 0xFF ∷ replicate 7 0)
    ∷ pattern largest 0x5A all_pixels (replicate 9 0xFFFFFFFFFFFFFFFF)
    ∷ []

patterns_are_read : AreReadBefore (0x00 ∷ []) patterns
unfolding reading_computes
patterns_are_read = refl

-- patterns that have all their lines and planes end before any plain byte
abbrev full_patterns : List Row
full_patterns =
    pattern six_by_five 0x21 (0x30 ∷ 0x60 ∷ 0x50 ∷ 0x48 ∷ 0x44 ∷ 0x42 ∷ []) (0x10204081 ∷ replicate 8 0)
    ∷ pattern two_planes 0x40 (0x30 ∷ 0x2F ∷ 0x31 ∷ 0x2F ∷ []) (0xFFFFFFFFFFFFFFFF ∷ 0xFF ∷ replicate 7 0)
    ∷ pattern largest 0x5A all_pixels (replicate 9 0xFFFFFFFFFFFFFFFF)
    ∷ []

-- one with pixels, a sign of lines, the first opener and the last
full_patterns_end : map (λ byte. map (read_before (byte ∷ [])) full_patterns) (0x7F ∷ 0x2F ∷ 0x30 ∷ 0x33 ∷ [])
    ≡ replicate 4 (map told full_patterns)
unfolding reading_computes
full_patterns_end = refl

-- bytes that open no first plane, and any byte after the last code
abbrev bad_patterns : List Row
bad_patterns =
    misplaced (DrcsRun 0x21) (range_with_len 0x20 16 ++ range_with_len 0x31 79)
    ++ misplaced (DrcsRun 0x7E) (range_with_len 0x20 16 ++ range_with_len 0x31 79)
    ++ misplaced (DrcsRun 0x7F) (range_with_len 0x20 96)

bad_patterns_are_read : AreRead bad_patterns
unfolding reading_computes
bad_patterns_are_read = refl
