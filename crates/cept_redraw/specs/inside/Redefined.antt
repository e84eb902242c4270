-- What the names of a row and its looks tell of what strokes define anew (this project's own).
use Rattle.std.specs.Prelude.{ℕ, ◌≡◌, ◌≤◌, ◌==◌, ◌||◌, Bool, true, false, List, Option, is_some, if◌then◌else◌}
use Rattle.std.specs.List.{list_any, range_with_len}
use Rattle.cept_codes.specs.declared.look.Look.{Look}
use Rattle.cept_codes.specs.declared.look.Pattern.{Pattern}
use Rattle.cept_codes.specs.declared.stroke.Stroke.{Stroke}
use Rattle.cept_codes.specs.declared.stroke.Stroke.TheVariants as strokes
use Rattle.cept_codes.specs.Look.{blank_look}
use Rattle.cept_codes.specs.Place.{OnScreen}
use Rattle.cept_codes.specs.Table.{row_of, value_at}
use Rattle.cept_profile.specs.Look.{looks_of, part_of}
use Rattle.cept_profile.specs.Names.{Names, is_code, names_at, pattern_shown}
use Rattle.cept_profile.specs.PageParts.{dclut_in}
use Rattle.cept_profile.specs.RowsFromAbove.{look_seen, looks_in}
use Rattle.cept_profile.specs.State.{Core, Page}
use Rattle.cept_profile.specs.Tiling.{column_entry, covers_below}
use Rattle.cept_profile.specs.Valid.{IsValidPage}
use Rattle.cept_page.specs.MarkedRows.{StandsAlone}
use Rattle.cept_redraw.specs.inside.Kept.{look_alone}
use Rattle.cept_redraw.specs.Named.{NamesOfRows, row_named}
use Rattle.cept_rows.specs.declared.naming.RowNames.{RowNames}
use Rattle.cept_rows.specs.KeptNames.{names_kept}
use Rattle.cept_rows.specs.Planes.{has_inks}

-- these are the names of row r of a core
abbrev pub AreNamesOf : RowNames → Core → ℕ → Type 0
AreNamesOf names k r = (c : ℕ) → OnScreen r c → names_kept names c ≡ names_at k r c

-- row r of a core with a valid page has these names and looks, and the page this DCLUT
pub record IsNamedRow (k : Core) (r : ℕ) (names : RowNames) (looks : List Look) (dclut : List ℕ) : Type 0 where
  pub from_top : 1 ≤ r
  pub to_bottom : r ≤ 24
  pub valid : IsValidPage k.page
  pub named : AreNamesOf names k r
  pub seen : looks ≡ looks_in (looks_of k) r
  pub inks : dclut ≡ k.page.dclut

-- one of the four entries of the DCLUT names this colour entry
abbrev pub is_ink_in : List ℕ → ℕ → Bool
is_ink_in dclut i = list_any (λ j. dclut_in dclut j == i) (range_with_len 0 4)

-- ---- places

-- the stroke may define anew what a place with these names depends on, which shows this pattern or none: one with inks may
-- have any of the colour entries
abbrev pub redefines_place : Names → Option Pattern → Stroke → Bool
redefines_place names shown (strokes.Colour i paint) = (names.fore == i || names.back == i) || has_inks shown
redefines_place names shown (strokes.Dclut j entry) = has_inks shown
redefines_place names shown strokes.ColourDefaults = true
redefines_place names shown (strokes.Drcs code pattern) = is_code names.code code
redefines_place names shown strokes.DrcsClear = is_some names.code
-- any other defines nothing
redefines_place names shown _ = false

-- one of the strokes may define anew what column c of a row with these names and looks depends on
abbrev pub is_place_redefined : List Stroke → RowNames → List Look → ℕ → Bool
is_place_redefined xs names looks c =
    list_any (redefines_place (names_kept names c) (pattern_shown (column_entry blank_look looks c).shape)) xs

-- the looks of row r of a page where the places of these looks that are redefined are resolved, each by itself
abbrev pub places_resolved : List Stroke → RowNames → List Look → Page → ℕ → List Look
places_resolved xs names looks p r =
    row_of (λ c. if is_place_redefined xs names looks c then look_alone p (record { row = r; column = c }) else
    column_entry blank_look looks c)

-- in a row that stands alone each place that isn't redefined looks as its cell does by itself, and no place, redefined
-- or not, covers the one below it
pub record OtherPlacesStay (xs : List Stroke) (names : NamesOfRows) (looks : List (List Look)) (p : Page) : Type 0 where
  pub stay : (r c : ℕ) → OnScreen r c → StandsAlone p r
      → is_place_redefined xs (row_named names r) (looks_in looks r) c ≡ false
      → value_at blank_look looks r c ≡ look_alone p (record { row = r; column = c })
  pub low : (r c : ℕ) → 1 ≤ r → r ≤ 24 → StandsAlone p r → covers_below (part_of (look_seen looks r c)) ≡ false
