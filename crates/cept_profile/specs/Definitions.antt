-- What signs are drawn with (own): the paints of the colour entries, the colour entries that the DCLUT names, the
-- downloaded patterns, and the inks of a pattern.
use Rattle.std.specs.Prelude.{ℕ, ◌≡◌, ◌-◌, ◌==◌, ◌++◌, Option, List, [], length, replicate, if◌then◌else◌}
use Rattle.cept_codes.specs.declared.look.Inks.{Inks}
use Rattle.cept_codes.specs.declared.look.Paint.{Paint}
use Rattle.cept_codes.specs.declared.look.Pattern.{Pattern}
use Rattle.cept_codes.specs.Look.{black_paint}
use Rattle.cept_codes.specs.Table.{entry, list_by_index}

-- entry by entry and code by code
pub record Definitions : Type 0 where
  pub paints : List Paint
  pub dclut : List ℕ
  pub patterns : List (Option Pattern)

-- one for each of the 32 colour entries, of the four of the DCLUT and of the 94 codes
pub record AreWhole (defined : Definitions) : Type 0 where
  pub colours : length defined.paints ≡ 32
  pub names : length defined.dclut ≡ 4
  pub codes : length defined.patterns ≡ 94

-- these inks, and black for those that no pixel has
abbrev pub inks_with : List Paint → Inks
inks_with paints = record { count = length paints; paints = paints ++ replicate (16 - length paints) black_paint }

-- the inks of a pattern of so many planes: of one none, of two the paints of the entries that the DCLUT names, of four
-- those of entries 16 to 31. Invert doesn't exchange them, and one that shows the picture behind stays
unfoldable pub inks_of : Definitions → ℕ → Inks
inks_of defined planes =
    if planes == 1 then inks_with [] else
    if planes == 2 then inks_with (list_by_index 0 4 (λ i. entry black_paint 0 defined.paints (entry 0 0 defined.dclut i))) else
    inks_with (list_by_index 16 16 (entry black_paint 0 defined.paints))
