-- Worked cases: signs of double size, by computing.
use Rattle.cept_profile.proofs.WhatComputes.{computing}
use Rattle.std.proofs.Common.{◌≡◌, ℕ, List, [], ◌∷◌, refl}
use Rattle.cept_codes.specs.declared.command.Command.{Command}
use Rattle.cept_codes.specs.declared.command.Command.TheVariants.{C1, Graphic, Position}
use Rattle.cept_codes.specs.declared.glyph.SetId.TheVariants.{P}
use Rattle.cept_codes.specs.declared.look.Look.{Look}
use Rattle.cept_codes.specs.declared.look.Shape.TheVariants as shapes
use Rattle.cept_codes.specs.Look.{blank_look}
use Rattle.cept_profile.specs.Look.{look}
use Rattle.cept_profile.specs.State.{core}

-- the look of a part of this sign: h and w of it, dy and dx within it
abbrev pub part_of_sign : ℕ → ℕ → ℕ → ℕ → ℕ → Look
part_of_sign code h w dy dx = record blank_look {
  shape = shapes.Char (record { set = P; code = code; accent = 0 });
  dy = dy;
  dx = dx;
  w = w;
  h = h;
}

-- `1F 41 68 8F 41`: in the last column nothing is wide
abbrev pub in_last_column : List Command
in_last_column = Position 1 40 ∷ C1 15 ∷ Graphic 0x41 ∷ []

pub upper_in_last_column : look (core in_last_column) 1 40 ≡ part_of_sign 0x41 2 1 0 0
unfolding computing
upper_in_last_column = refl

pub lower_in_last_column : look (core in_last_column) 2 40 ≡ part_of_sign 0x41 2 1 1 0
unfolding computing
lower_in_last_column = refl

-- `1F 58 41 8F 41`: in the last row nothing is high
abbrev pub in_last_row : List Command
in_last_row = Position 24 1 ∷ C1 15 ∷ Graphic 0x41 ∷ []

pub left_in_last_row : look (core in_last_row) 24 1 ≡ part_of_sign 0x41 1 2 0 0
unfolding computing
left_in_last_row = refl

pub right_in_last_row : look (core in_last_row) 24 2 ≡ part_of_sign 0x41 1 2 0 1
unfolding computing
right_in_last_row = refl

-- `1F 41 42 8D 41 1F 42 41 8F 42`: beside a place that is covered from above nothing is wide
abbrev pub beside_a_lower_half : List Command
beside_a_lower_half = Position 1 2 ∷ C1 13 ∷ Graphic 0x41 ∷ Position 2 1 ∷ C1 15 ∷ Graphic 0x42 ∷ []

pub high_beside : look (core beside_a_lower_half) 1 2 ≡ part_of_sign 0x41 2 1 0 0
unfolding computing
high_beside = refl

pub lower_half : look (core beside_a_lower_half) 2 2 ≡ part_of_sign 0x41 2 1 1 0
unfolding computing
lower_half = refl

pub both_beside_it : look (core beside_a_lower_half) 2 1 ≡ part_of_sign 0x42 2 1 0 0
unfolding computing
both_beside_it = refl

pub below_both : look (core beside_a_lower_half) 3 1 ≡ part_of_sign 0x42 2 1 1 0
unfolding computing
below_both = refl
