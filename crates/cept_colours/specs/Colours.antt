-- The colour entries and the DCLUT as callers see them (this project's own).
use Rattle.std.specs.Prelude.{ℕ, ◌≡◌, ◌<◌, List, length}
use Rattle.cept_codes.specs.declared.look.Paint.{Paint}
use Rattle.cept_codes.specs.Attribute.{IsEntry}
use Rattle.cept_codes.specs.Look.{IsValidPaint}
use Rattle.cept_profile.specs.Colours.{default_paint}
use Rattle.cept_profile.specs.PageParts.{dclut_in, list_of_colours, list_of_dclut, paint_in}

-- the paint of each colour entry, and the colour entry that each entry of the DCLUT names
pub record ColourTables : Type 0 where
  pub paints : List Paint
  pub dclut : List ℕ

-- 32 valid paints and four colour entries
pub record HasValidColours (c : ColourTables) : Type 0 where
  pub colours : length c.paints ≡ 32
  pub paints : (i : ℕ) → i < 32 → IsValidPaint (paint_in c.paints i)
  pub names : length c.dclut ≡ 4
  pub dclut : (i : ℕ) → i < 4 → IsEntry (dclut_in c.dclut i)

-- the defaults
abbrev pub default_colours : ColourTables
default_colours = record { paints = list_of_colours default_paint; dclut = list_of_dclut (λ i. i) }
