-- Names of a row, made one column after the other, and those of a core.
use Rattle.std.proofs.Common.{◌≡◌, ℕ, ◌-◌, ◌≤◌, List, [], get_or, zero, suc, refl, sym, ap, ◌∙◌, arith}
use Rattle.cept_codes.specs.declared.attribute.Full.{Full}
use Rattle.cept_codes.specs.declared.attribute.Pen.{Pen}
use Rattle.cept_codes.specs.declared.cell.Cell.{Cell}
use Rattle.cept_codes.specs.declared.look.Look.{Look}
use Rattle.cept_codes.specs.declared.look.Part.{Part}
use Rattle.cept_codes.specs.Look.{blank_look}
use Rattle.cept_codes.specs.Place.{OnScreen}
use Rattle.cept_profile.specs.Look.{looks_of, part_of}
use Rattle.cept_profile.specs.Names.{Names, names_at, names_with}
use Rattle.cept_profile.specs.NamesFromAbove.{default_names, names_by, names_from_above, names_in_row, own_names}
use Rattle.cept_profile.specs.PageParts.{row_pen_in}
use Rattle.cept_profile.specs.RowsFromAbove.{looks_in}
use Rattle.cept_profile.specs.Serial.{own_attributes, row_in}
use Rattle.cept_profile.specs.State.{Core}
use Rattle.cept_profile.specs.Tiling.{column_entry}
use Rattle.cept_profile.proofs.Laws.{names_at-covered, part_of-seen}

-- the parts that looks show, by their columns
abbrev pub parts_shown : List Look → ℕ → Part
parts_shown looks d = part_of (column_entry blank_look looks d)

names_from_above-at : (above : ℕ → Names) (parts : ℕ → Part) (own : ℕ → Names) (c : ℕ) → 1 ≤ c
    → names_from_above above parts own c
    ≡ names_by (parts c) (above c) (names_from_above above parts own (c - 1)) (own c)
unfolding names_from_above
names_from_above-at above parts own zero low = absurd (omega arith)
names_from_above-at above parts own (suc c) low =
    let back : suc c - 1 ≡ c = omega arith in rw back refl

-- the names of a place by its part and by those around it
pub place_made : (above : ℕ → Names) (parts : ℕ → Part) (own : ℕ → Names) (c : ℕ) (p : Part) (a l o made : Names)
    → 1 ≤ c → p ≡ parts c → a ≡ above c → l ≡ names_from_above above parts own (c - 1) → o ≡ own c
    → made ≡ names_by p a l o → made ≡ names_from_above above parts own c
place_made above parts own c p a l o made low ep ea el eo e =
    e ∙ (λ i. names_by (ep i) (ea i) (el i) (eo i)) ∙ sym (names_from_above-at above parts own c low)

-- the names of what stands in a cell, by its attributes
pub own_named : (cells : List Cell) (row screen : Pen) (c : ℕ) (f : Full) (made : Names)
    → f ≡ own_attributes (row_in cells) row screen c → made ≡ names_with f (row_in cells c)
    → made ≡ names_in_row (row_in cells) row screen c
unfolding names_in_row
own_named cells row screen c f made is e = e ∙ ap (λ g. names_with g (row_in cells c)) is

-- the names of a row of a core, beneath those of the row above
pub names_of_core : (above : ℕ → Names) (looks : List Look) (cells : List Cell) (row screen : Pen) (k : Core) (r c : ℕ)
    → OnScreen r c → cells ≡ get_or k.page.cells (r - 1) [] → row ≡ row_pen_in k.page.row_pens r
    → screen ≡ k.page.screen_pen → looks ≡ looks_in (looks_of k) r
    → ((d : ℕ) → OnScreen (r - 1) d → above d ≡ names_at k (r - 1) d)
    → names_from_above above (parts_shown looks) (names_in_row (row_in cells) row screen) c ≡ names_at k r c
names_of_core above looks cells row screen k r c on ec er es el ea =
    (λ i. names_from_above above (parts_shown (el i)) (names_in_row (row_in (ec i)) (er i) (es i)) c)
    ∙ (λ i. names_from_above above (λ d. part_of-seen k r d on.to_bottom i) (own_names k r) c)
    ∙ sym (names_at-covered k above r c on (λ d there covers. ea d there))

-- left of the first column stand the default names
pub names_from_above-0 : (above : ℕ → Names) (parts : ℕ → Part) (own : ℕ → Names)
    → names_from_above above parts own 0 ≡ default_names
unfolding names_from_above
names_from_above-0 above parts own = refl
