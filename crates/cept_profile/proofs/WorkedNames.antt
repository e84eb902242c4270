-- Worked cases: what the places of a row name, by computing.
use Rattle.cept_profile.proofs.WhatComputes.{computing}
use Rattle.std.proofs.Common.{◌≡◌, ℕ, ◌-◌, Some, List, [], ◌∷◌, map, refl}
use Rattle.std.specs.List.{range_with_len}
use Rattle.cept_codes.specs.declared.command.Command.{Command}
use Rattle.cept_codes.specs.declared.command.Command.TheVariants.{C1, Designate, Graphic, Position}
use Rattle.cept_codes.specs.declared.glyph.SetId.TheVariants.{D}
use Rattle.cept_profile.specs.Look.{parts_of}
use Rattle.cept_profile.specs.Names.{Names, names_at}
use Rattle.cept_profile.specs.NamesFromAbove.{default_names, names_from_above, own_names}
use Rattle.cept_profile.specs.State.{Core, core}
use Rattle.cept_profile.specs.Tiling.{part_at}

-- a red sign on black, and one of the downloaded set
abbrev pub red : Names
red = record default_names { fore = 1 }

abbrev pub red_pattern : Names
red_pattern = record red { code = Some 0x21 }

-- the first places of row r: as the definition of names has them, and as they come from the row above
abbrev pub named_at : Core → ℕ → ℕ → List Names
named_at k r n = map (names_at k r) (range_with_len 1 n)

abbrev pub named_from_above : Core → ℕ → ℕ → List Names
named_from_above k r n =
    map (names_from_above (names_at k (r - 1)) (part_at (parts_of k) r) (own_names k r)) (range_with_len 1 n)

-- `81 8D 41`: a red sign of double height; beneath it nothing is written
abbrev pub high_red_letter : List Command
high_red_letter = C1 1 ∷ C1 13 ∷ Graphic 0x41 ∷ []

-- the row of the lower half names its entry, though what stands there names white
pub beneath_a_high_letter : named_at (core high_red_letter) 2 2 ≡ red ∷ default_names ∷ []
unfolding computing
beneath_a_high_letter = refl

pub beneath_it_from_above : named_from_above (core high_red_letter) 2 2 ≡ red ∷ default_names ∷ []
unfolding computing
beneath_it_from_above = refl

pub beneath_it_by_itself : map (own_names (core high_red_letter) 2) (range_with_len 1 2)
    ≡ default_names ∷ default_names ∷ []
unfolding computing
beneath_it_by_itself = refl

-- a red sign of the downloaded set in double size: each of its four places names its code and its entry
abbrev pub big_red_pattern : List Command
big_red_pattern = Position 2 1 ∷ Designate 0 D ∷ C1 1 ∷ C1 15 ∷ Graphic 0x21 ∷ []

pub big_pattern : map (λ r. named_at (core big_red_pattern) r 3) (2 ∷ 3 ∷ 4 ∷ [])
    ≡ (red_pattern ∷ red_pattern ∷ default_names ∷ []) ∷ (red_pattern ∷ red_pattern ∷ default_names ∷ [])
    ∷ (default_names ∷ default_names ∷ default_names ∷ []) ∷ []
unfolding computing
big_pattern = refl

pub big_pattern_from_above : map (λ r. named_from_above (core big_red_pattern) r 3) (2 ∷ 3 ∷ 4 ∷ [])
    ≡ (red_pattern ∷ red_pattern ∷ default_names ∷ []) ∷ (red_pattern ∷ red_pattern ∷ default_names ∷ [])
    ∷ (default_names ∷ default_names ∷ default_names ∷ []) ∷ []
unfolding computing
big_pattern_from_above = refl
