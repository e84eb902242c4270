-- Worked cases: the colours in force, by computing.
use Rattle.std.proofs.Common.{◌≡◌, [], ◌∷◌, refl}
use Rattle.cept_codes.specs.declared.look.Paint.TheVariants as paints
use Rattle.cept_live.specs.Colours.{dclut_entries, first_entries}

dclut_is_in_order : dclut_entries (7 ∷ 0 ∷ 31 ∷ 16 ∷ []) ≡ 7 ∷ 0 ∷ 31 ∷ 16 ∷ []
dclut_is_in_order = refl

entries_are_in_order : first_entries (paints.Ink (record { r = 15; g = 7; b = 3 }) ∷ paints.Video ∷ []) 2
    ≡ record { red = 15; green = 7; blue = 3; behind = 0 } ∷ record { red = 0; green = 0; blue = 0; behind = 1 } ∷ []
entries_are_in_order = refl
