-- Worked cases: all that a row names, and what it doesn't, by computing.
use Rattle.cept_profile.proofs.WhatComputes.{computing}
use Rattle.cept_profile.proofs.WorkedPatterns.{pattern_of}
use Rattle.std.proofs.Common.{◌≡◌, ℕ, List, [], ◌∷◌, ◌++◌, map, refl}
use Rattle.std.specs.Prelude.{filter}
use Rattle.std.specs.List.{range_with_len}
use Rattle.cept_codes.specs.declared.command.C1Set.TheVariants.{Serial}
use Rattle.cept_codes.specs.declared.command.Command.{Command}
use Rattle.cept_codes.specs.declared.command.Command.TheVariants.{C1, Dclut, Designate, DesignateC1}
use Rattle.cept_codes.specs.declared.command.Command.TheVariants.{DrcsPattern, FullRow, Graphic, Position}
use Rattle.cept_codes.specs.declared.glyph.SetId.TheVariants.{D, M, P}
use Rattle.cept_profile.specs.Names.{names_dclut, names_entry, names_pattern}
use Rattle.cept_profile.specs.State.{Core, core}

-- all that row r names: colour entries, entries of the DCLUT, codes of patterns
pub record RowNames : Type 0 where
  pub entries : List ℕ
  pub dclut : List ℕ
  pub codes : List ℕ

abbrev named : List Command → ℕ → RowNames
named history r =
    let k : Core = core history in
    record {
      entries = filter (names_entry k r) (range_with_len 0 32);
      dclut = filter (names_dclut k r) (range_with_len 0 6);
      codes = filter (names_pattern k r) (range_with_len 0x20 96);
    }

-- white and black alone
abbrev plainly : RowNames
plainly = record { entries = 0 ∷ 7 ∷ []; dclut = []; codes = [] }

-- a sign of the downloaded set of code 2/1, with a pattern of so many planes
abbrev drawn : ℕ → List Command
drawn planes = Designate 0 D ∷ DrcsPattern 0x21 (pattern_of planes) ∷ Graphic 0x21 ∷ []

-- ---- colours

blank_row : named [] 24 ≡ plainly
unfolding computing
blank_row = refl

-- a red letter in the last column, and the row beneath it
red_letter : map (named (Position 1 40 ∷ C1 1 ∷ Graphic 0x41 ∷ [])) (1 ∷ 2 ∷ [])
    ≡ record plainly { entries = 0 ∷ 1 ∷ 7 ∷ [] } ∷ plainly ∷ []
unfolding computing
red_letter = refl

-- a serial marker of alpha red: its cell is white, those after it are red
red_marker : named (DesignateC1 Serial ∷ C1 1 ∷ []) 1 ≡ record plainly { entries = 0 ∷ 1 ∷ 7 ∷ [] }
unfolding computing
red_marker = refl

-- a row of green on red: no cell is white or black
row_of_green_on_red : named (FullRow 2 ∷ FullRow 17 ∷ []) 1 ≡ record plainly { entries = 1 ∷ 2 ∷ [] }
unfolding computing
row_of_green_on_red = refl

-- ---- patterns

-- of one plane there are no inks
one_plane : map (named (drawn 1)) (1 ∷ 2 ∷ []) ≡ record plainly { codes = 0x21 ∷ [] } ∷ plainly ∷ []
unfolding computing
one_plane = refl

-- of two the inks are those of the DCLUT
two_planes : map (named (drawn 2)) (1 ∷ 2 ∷ [])
    ≡ record { entries = 0 ∷ 1 ∷ 2 ∷ 3 ∷ 7 ∷ []; dclut = 0 ∷ 1 ∷ 2 ∷ 3 ∷ []; codes = 0x21 ∷ [] } ∷ plainly ∷ []
unfolding computing
two_planes = refl

other_values : named (Dclut 1 9 ∷ Dclut 3 31 ∷ drawn 2) 1
    ≡ record { entries = 0 ∷ 2 ∷ 7 ∷ 9 ∷ 31 ∷ []; dclut = 0 ∷ 1 ∷ 2 ∷ 3 ∷ []; codes = 0x21 ∷ [] }
unfolding computing
other_values = refl

-- of four they are 16 to 31, and the DCLUT isn't asked
four_planes : map (named (drawn 4)) (1 ∷ 2 ∷ [])
    ≡ record plainly { entries = 0 ∷ 7 ∷ range_with_len 16 16; codes = 0x21 ∷ [] } ∷ plainly ∷ []
unfolding computing
four_planes = refl

-- a code without a pattern is named too, and the same code of another set is none
code_without_a_pattern : named (Designate 0 D ∷ Graphic 0x7E ∷ []) 1 ≡ record plainly { codes = 0x7E ∷ [] }
unfolding computing
code_without_a_pattern = refl

code_of_a_mosaic : named (Designate 0 M ∷ DrcsPattern 0x21 (pattern_of 2) ∷ Graphic 0x21 ∷ []) 1 ≡ plainly
unfolding computing
code_of_a_mosaic = refl

-- ---- covered places name what their origin names

-- beneath a high red letter neither the pattern that stands there is named nor its inks
beneath_a_high_letter : named (Position 2 1 ∷ drawn 2
    ++ Position 1 1 ∷ Designate 0 P ∷ C1 1 ∷ C1 13 ∷ Graphic 0x41 ∷ []) 2
    ≡ record plainly { entries = 0 ∷ 1 ∷ 7 ∷ [] }
unfolding computing
beneath_a_high_letter = refl

-- beneath a high pattern its code and its inks are named
beneath_a_high_pattern : named (C1 13 ∷ drawn 2) 2
    ≡ record { entries = 0 ∷ 1 ∷ 2 ∷ 3 ∷ 7 ∷ []; dclut = 0 ∷ 1 ∷ 2 ∷ 3 ∷ []; codes = 0x21 ∷ [] }
unfolding computing
beneath_a_high_pattern = refl

-- right of a wide red letter neither the green one that stands there is named nor its ground
right_of_a_wide_letter : named (Position 1 2 ∷ C1 2 ∷ C1 20 ∷ Graphic 0x42
    ∷ Position 1 1 ∷ C1 1 ∷ C1 14 ∷ Graphic 0x41 ∷ []) 1
    ≡ record plainly { entries = 0 ∷ 1 ∷ 7 ∷ [] }
unfolding computing
right_of_a_wide_letter = refl
