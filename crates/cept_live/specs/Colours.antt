-- The colours in force (this project's own): of each entry its colour, and the entries that those of the DCLUT name.
use Rattle.std.specs.Prelude.{ℕ, List, [], ◌∷◌, map}
use Rattle.std.specs.List.{range_with_len}
use Rattle.cept_codes.specs.declared.look.Paint.{Paint}
use Rattle.cept_profile.specs.PageParts.{dclut_in, paint_in}
use Rattle.cept_profile.specs.State.{Page}
use Rattle.cept_live.specs.declared.colours.ColourEntries.{ColourEntries}
use Rattle.cept_live.specs.declared.notice.Colour.{Colour}
use Rattle.cept_live.specs.Notices.{colour_of}

-- the colours of the first entries
abbrev pub first_entries : List Paint → ℕ → List Colour
first_entries paints n = map (λ i. colour_of (paint_in paints i)) (range_with_len 0 n)

-- the colours of all entries
abbrev pub paint_entries : List Paint → List Colour
paint_entries paints = first_entries paints 32

-- the entries of the DCLUT
abbrev pub dclut_entries : List ℕ → List ℕ
dclut_entries dclut = dclut_in dclut 0 ∷ dclut_in dclut 1 ∷ dclut_in dclut 2 ∷ dclut_in dclut 3 ∷ []

-- the record of a page
abbrev pub colour_entries : Page → ColourEntries
colour_entries page = record { entries = paint_entries page.paints; dclut = dclut_entries page.dclut }
