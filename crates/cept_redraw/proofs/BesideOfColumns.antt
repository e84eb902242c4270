-- Looks to the right of a column in which a cell is put: a cell looks as it did by itself where no marker is put or
-- covered and none stands between, and a place shows what it did where its neighbours do.
use Rattle.std.proofs.Common.{◌≡◌, ◌≢◌, ℕ, zero, suc, ◌+◌, ◌-◌, ◌<◌, ◌≤◌, ◌⊎◌, ◌&&◌, not, Bool, true, false, List, Option, cond}
use Rattle.std.proofs.Common.{None, [], ◌∷◌, inl, inr, refl, sym, ap, subst, ◌∙◌, arith}
use Rattle.std.proofs.lemmas.Bool.{cases_eq, true≢false}
use Rattle.std.proofs.lemmas.Bool.Decides.{nat_tests}
use Rattle.cept_codes.specs.declared.attribute.Pen.{Pen}
use Rattle.cept_codes.specs.declared.attribute.Size.{Size}
use Rattle.cept_codes.specs.declared.cell.Cell.{Cell}
use Rattle.cept_codes.specs.declared.cell.What.{What}
use Rattle.cept_codes.specs.declared.cell.What.TheVariants as whats
use Rattle.cept_codes.specs.declared.glyph.Glyph.{Glyph}
use Rattle.cept_codes.specs.declared.look.Look.{Look}
use Rattle.cept_codes.specs.declared.stroke.Stroke.TheVariants as strokes
use Rattle.cept_codes.specs.Cell.{blank_cell}
use Rattle.cept_codes.specs.Look.{blank_look}
use Rattle.cept_codes.specs.Place.{Place, OnScreen}
use Rattle.cept_codes.specs.Table.{value_at}
use Rattle.cept_codes.proofs.Laws.{value_at-table}
use Rattle.cept_profile.specs.Cells.{cell_after, cells_after, is_at}
use Rattle.cept_profile.specs.Definitions.{Definitions}
use Rattle.cept_profile.specs.Edges.{edges_of_core, is_last}
use Rattle.cept_profile.specs.Influence.{Influence, full_after, influence, influence_after}
use Rattle.cept_profile.specs.Look.{look, look_in_row, look_with, looks_of, shape_in, size_in_row}
use Rattle.cept_profile.specs.PageParts.{paint_in, row_pen_in}
use Rattle.cept_profile.specs.RowsFromAbove.{look_from, look_seen, looks_in}
use Rattle.cept_profile.specs.Serial.{held_sign, is_marker, own_attributes, own_attributes_of, serial_attributes}
use Rattle.cept_profile.specs.State.{Core, Page, definitions_of, page_after}
use Rattle.cept_profile.specs.Tiling.{column_entry}
use Rattle.cept_profile.specs.Valid.{IsValidPage}
use Rattle.cept_profile.proofs.Laws.{in_plain, influence-start, influence-suc, look_in_row-alike, looks_in-from_above}
use Rattle.cept_profile.proofs.Laws.{serial_attributes-suc, size_in_row-alike}
use Rattle.cept_rows.specs.RowsByCell.{IsCoveredAlike}
use Rattle.cept_page.specs.MarkedRows.{IsPutAmongSigns}
use Rattle.cept_page.proofs.Laws.{page_after-put}
use Rattle.cept_redraw.specs.inside.Due.{FollowsBeside}
use Rattle.cept_redraw.specs.Kept.{core_on}
use Rattle.cept_redraw.proofs.AloneRows.{cell_elsewhere}
use Rattle.cept_redraw.proofs.LeftOfColumns.{contents_in, look_is, row_beneath-from}

-- ---- cells by themselves

-- in each column up to one two rows have the same cell, or neither has a marker
abbrev HaveTheSameMarkers : (ℕ → What) → (ℕ → What) → ℕ → Type 0
HaveTheSameMarkers f g c =
    (d : ℕ) → 1 ≤ d → d ≤ c → (f d ≡ g d) ⊎ ((is_marker (f d) ≡ false) × (is_marker (g d) ≡ false))

full_after-same : (w : What) (s t : Influence) → s.full ≡ t.full
    → (influence_after w s).full ≡ (influence_after w t).full
full_after-same (whats.Marker m) s t e = ap (full_after m) e
full_after-same w s t e = e

full_after-sign : (w : What) (s : Influence) → is_marker w ≡ false → (influence_after w s).full ≡ s.full
full_after-sign (whats.Marker m) s plain = absurd (true≢false plain)
full_after-sign w s plain = refl

-- such rows leave the same attributes
full-same : (f g : ℕ → What) (pen screen : Pen) (c : ℕ) → HaveTheSameMarkers f g c
    → (influence f pen screen c).full ≡ (influence g pen screen c).full
full-same f g pen screen zero same =
    ap (λ (s : Influence). s.full) (sym (influence-start f pen screen) ∙ influence-start g pen screen)
full-same f g pen screen (suc c) same =
    let before : (influence f pen screen c).full ≡ (influence g pen screen c).full =
    full-same f g pen screen c (λ d low high. same d low (omega (arith, high))) in
    ap (λ (s : Influence). s.full) (influence-suc f pen screen c)
    ∙ elim (same (suc c) (omega arith) (omega arith)) [
      | inl here ↦
          ap (λ w. (influence_after w (influence f pen screen c)).full) here
          ∙ full_after-same (g (suc c)) (influence f pen screen c) (influence g pen screen c) before
      | inr plain ↦
          full_after-sign (f (suc c)) (influence f pen screen c) plain.0 ∙ before
          ∙ sym (full_after-sign (g (suc c)) (influence g pen screen c) plain.1)
    ]
    ∙ ap (λ (s : Influence). s.full) (sym (influence-suc g pen screen c))

-- so a sign in both has the same serial attributes
serial-same : (f g : ℕ → What) (pen screen : Pen) (c : ℕ) → 1 ≤ c → HaveTheSameMarkers f g c → f c ≡ g c
    → is_marker (g c) ≡ false → serial_attributes f pen screen c ≡ serial_attributes g pen screen c
serial-same f g pen screen zero low same here plain = absurd (omega (arith, low))
serial-same f g pen screen (suc c) low same here plain =
    serial_attributes-suc f pen screen c
    ∙ in_plain (f (suc c)) (influence f pen screen c) (ap is_marker here ∙ plain)
    ∙ full-same f g pen screen c (λ d from to. same d from (omega (arith, to)))
    ∙ sym (in_plain (g (suc c)) (influence g pen screen c) plain) ∙ sym (serial_attributes-suc g pen screen c)

-- a sign is drawn as itself, whatever is held
shape_in-sign : (defined : Definitions) (w : What) (held : Option Glyph) → is_marker w ≡ false
    → shape_in defined w held ≡ shape_in defined w None
shape_in-sign defined (whats.Marker m) held plain = absurd (true≢false plain)
shape_in-sign defined w held plain = refl

-- and looks the same by itself
look-sign : (defined : Definitions) (f g : ℕ → What) (pen screen : Pen) (c : ℕ) → 1 ≤ c → HaveTheSameMarkers f g c
    → f c ≡ g c → is_marker (g c) ≡ false → look_in_row defined f pen screen c ≡ look_in_row defined g pen screen c
unfolding look_in_row
look-sign defined f g pen screen c low same here plain =
    ap (λ s. look_with (paint_in defined.paints) s (own_attributes f pen screen c))
    (shape_in-sign defined (f c) (held_sign f c) (ap is_marker here ∙ plain))
    ∙ (λ i. look_with (paint_in defined.paints) (shape_in defined (here i) None)
    (own_attributes_of (here i) pen screen (serial-same f g pen screen c low same here plain i)))
    ∙ ap (λ s. look_with (paint_in defined.paints) s (own_attributes g pen screen c))
    (sym (shape_in-sign defined (g c) (held_sign g c) plain))

size-sign : (f g : ℕ → What) (pen screen : Pen) (c : ℕ) → 1 ≤ c → HaveTheSameMarkers f g c → f c ≡ g c
    → is_marker (g c) ≡ false → size_in_row f pen screen c ≡ size_in_row g pen screen c
unfolding size_in_row
size-sign f g pen screen c low same here plain =
    λ i. (own_attributes_of (here i) pen screen (serial-same f g pen screen c low same here plain i)).size

-- ---- a cell that is put

-- what stands in row r after it is put
abbrev contents_put : Page → Place → Cell → ℕ → ℕ → What
contents_put p place cell r c = (value_at blank_cell (cells_after p.cells (strokes.Put place cell)) r c).what

-- any other cell is as it was
elsewhere : (p : Page) (place : Place) (cell : Cell) (r c : ℕ) → OnScreen r c → (r ≡ place.row → c ≢ place.column)
    → contents_in p r c ≡ contents_put p place cell r c
elsewhere p place cell r c on apart =
    ap (λ (x : Cell). x.what) (sym (cell_elsewhere p place cell r c on (not_there place r c apart)))
  where
    not_there : (place : Place) (r c : ℕ) → (r ≡ place.row → c ≢ place.column) → is_at place r c ≡ false
    not_there place r c apart =
        elim (cases_eq r place.row) [
          | inl row ↦ let no : c ≢ place.column = apart row in grind (arith, nat_tests, no)
          | inr other ↦ grind (arith, nat_tests, other)
        ]

one_of : (b : Bool) (cell was : Cell) → is_marker cell.what ≡ false → is_marker was.what ≡ false
    → is_marker (cond b cell was).what ≡ false
one_of true cell was put there = put
one_of false cell was put there = there

-- a cell that is put among signs leaves the markers of its row
markers_stay : (p : Page) (place : Place) (cell : Cell) → IsPutAmongSigns p place cell → OnScreen place.row place.column
    → (c : ℕ) → c ≤ 40 → HaveTheSameMarkers (contents_in p place.row) (contents_put p place cell place.row) c
markers_stay p place cell among there c right d low high =
    let on : OnScreen place.row d = record {
      from_top = there.from_top;
      to_bottom = there.to_bottom;
      from_left = low;
      to_right = omega (arith, high, right);
    } in
    elim (cases_eq d place.column) [
      | inl here ↦
          let was : Cell = value_at blank_cell p.cells place.row d in
          inr (
            among.others d on (omega (arith, here)),
            ap (λ (x : Cell). is_marker x.what)
                (value_at-table (cell_after (strokes.Put place cell) (value_at blank_cell p.cells)) blank_cell place.row d on)
                ∙ one_of (is_at place place.row d && not was.protected) cell was among.put
                (among.others d on (omega (arith, here))),
          )
      | inr apart ↦ inl (elsewhere p place cell place.row d on (λ _. apart))
    ]

-- a cell looks as it did by itself in another row, and to the right of one that is put among signs
own_stays : (p : Page) (place : Place) (cell : Cell) (until : ℕ) → OnScreen place.row place.column
    → ((until ≡ place.column) × IsPutAmongSigns p place cell) ⊎ (until ≡ 41) → (r c : ℕ) → OnScreen r c
    → (r ≡ place.row → until < c)
    → (look_in_row (definitions_of p) (contents_in p r) (row_pen_in p.row_pens r) p.screen_pen c
    ≡ look_in_row (definitions_of p) (contents_put p place cell r) (row_pen_in p.row_pens r) p.screen_pen c)
    × (size_in_row (contents_in p r) (row_pen_in p.row_pens r) p.screen_pen c
    ≡ size_in_row (contents_put p place cell r) (row_pen_in p.row_pens r) p.screen_pen c)
own_stays p place cell until there among r c on first =
    elim (cases_eq r place.row) [
      | inl here ↦ in_row here (first here) among
      | inr other ↦
          let alike : (d : ℕ) → 1 ≤ d → d ≤ c → contents_in p r d ≡ contents_put p place cell r d =
          λ d low high. elsewhere p place cell r d (record {
            from_top = on.from_top;
            to_bottom = on.to_bottom;
            from_left = low;
            to_right = omega (arith, high, on.to_right);
          }) (λ same. absurd (other same)) in (
            look_in_row-alike (definitions_of p) (contents_in p r) (contents_put p place cell r) (row_pen_in p.row_pens r)
                p.screen_pen c on.from_left alike,
            size_in_row-alike (contents_in p r) (contents_put p place cell r) (row_pen_in p.row_pens r) p.screen_pen c
                on.from_left alike,
          )
    ]
  where
    in_row : r ≡ place.row → until < c → ((until ≡ place.column) × IsPutAmongSigns p place cell) ⊎ (until ≡ 41)
        → (look_in_row (definitions_of p) (contents_in p r) (row_pen_in p.row_pens r) p.screen_pen c
        ≡ look_in_row (definitions_of p) (contents_put p place cell r) (row_pen_in p.row_pens r) p.screen_pen c)
        × (size_in_row (contents_in p r) (row_pen_in p.row_pens r) p.screen_pen c
        ≡ size_in_row (contents_put p place cell r) (row_pen_in p.row_pens r) p.screen_pen c)
    in_row here past (inr none) = absurd (omega (arith, past, none, on.to_right))
    in_row here past (inl signs) =
        let apart : c ≢ place.column = λ same. omega (arith, same, past, signs.0) in
        let same : contents_in p r c ≡ contents_put p place cell r c = elsewhere p place cell r c on (λ _. apart) in
        let markers : HaveTheSameMarkers (contents_in p r) (contents_put p place cell r) c =
        subst (λ n. HaveTheSameMarkers (contents_in p n) (contents_put p place cell n) c) (sym here)
        (markers_stay p place cell signs.1 there c on.to_right) in
        let sign : is_marker (contents_put p place cell r c) ≡ false =
        ap is_marker (sym same)
        ∙ ap (λ n. is_marker (contents_in p n c)) here
        ∙ signs.1.others c (subst (λ n. OnScreen n c) here on) (omega (arith, past, signs.0)) in (
          look-sign (definitions_of p) (contents_in p r) (contents_put p place cell r) (row_pen_in p.row_pens r) p.screen_pen c
              on.from_left markers same sign,
          size-sign (contents_in p r) (contents_put p place cell r) (row_pen_in p.row_pens r) p.screen_pen c on.from_left
              markers same sign,
        )

-- ---- what a place shows

-- the look of a place depends on what stands there, and on the looks beside it
abbrev pub ShowsBeside : Type 0
ShowsBeside =
    (above over own other : ℕ → Look) (wanted asked : ℕ → Size) (last : Bool) (c : ℕ) → 1 ≤ c
    → ((d : ℕ) → c ≤ d + 1 → d ≤ c + 1 → above d ≡ over d) → own c ≡ other c → wanted c ≡ asked c
    → IsCoveredAlike (look_from above own wanted last (c - 1)) (look_from over other asked last (c - 1))
    → look_from above own wanted last c ≡ look_from over other asked last c

-- what is seen in a row of a core, left of the first column too
seen_is : (k : Core) (r c : ℕ) → 1 ≤ r → r ≤ 24 → c ≤ 40
    → look_seen (looks_of k) r c
    ≡ look_from (column_entry blank_look (looks_in (looks_of k) (r - 1)))
    (look_in_row (definitions_of k.page) (contents_in k.page r) (row_pen_in k.page.row_pens r) k.page.screen_pen)
    (size_in_row (contents_in k.page r) (row_pen_in k.page.row_pens r) k.page.screen_pen) (is_last (edges_of_core k) r) c
seen_is k r c top bottom right =
    ap (λ (l : List Look). column_entry blank_look l c) (looks_in-from_above k r top bottom)
    ∙ row_beneath-from (looks_in (looks_of k) (r - 1)) k.page r (is_last (edges_of_core k) r) c right

put_follows : ShowsBeside → (p : Page) (m : Core) (place : Place) (cell : Cell) (until : ℕ)
    → OnScreen place.row place.column → ((until ≡ place.column) × IsPutAmongSigns p place cell) ⊎ (until ≡ 41)
    → FollowsBeside place.row until (looks_of (core_on m p))
    (core_on m (record p { cells = cells_after p.cells (strokes.Put place cell) }))
put_follows law p m place cell until there among r c on first around alike =
    let put : Page = record p { cells = cells_after p.cells (strokes.Put place cell) } in
    let k : Core = core_on m p in
    let l : Core = core_on m put in
    let own = own_stays p place cell until there among r c on first in
    value_at-table (look k) blank_look r c on ∙ look_is k (looks_in (looks_of k) (r - 1)) r c on refl
    ∙ law (column_entry blank_look (looks_in (looks_of k) (r - 1))) (column_entry blank_look (looks_in (looks_of l) (r - 1)))
    (look_in_row (definitions_of p) (contents_in p r) (row_pen_in p.row_pens r) p.screen_pen)
    (look_in_row (definitions_of p) (contents_in put r) (row_pen_in p.row_pens r) p.screen_pen)
    (size_in_row (contents_in p r) (row_pen_in p.row_pens r) p.screen_pen)
    (size_in_row (contents_in put r) (row_pen_in p.row_pens r) p.screen_pen) (is_last (edges_of_core m) r) c on.from_left
    around own.0 own.1
    (subst (λ x. IsCoveredAlike x (look_from (column_entry blank_look (looks_in (looks_of l) (r - 1)))
    (look_in_row (definitions_of p) (contents_in put r) (row_pen_in p.row_pens r) p.screen_pen)
    (size_in_row (contents_in put r) (row_pen_in p.row_pens r) p.screen_pen) (is_last (edges_of_core m) r) (c - 1))) (seen_is k r (c - 1) on.from_top on.to_bottom (omega (arith, on.to_right)))
    (subst (λ x. IsCoveredAlike (look_seen (looks_of k) r (c - 1)) x)
    (seen_is l r (c - 1) on.from_top on.to_bottom (omega (arith, on.to_right))) alike))
    ∙ sym (look_is l (looks_in (looks_of l) (r - 1)) r c on refl)

pub FollowsBeside-put : ShowsBeside → (p : Page) → IsValidPage p → (m : Core) (place : Place) (cell : Cell) (until : ℕ)
    → OnScreen place.row place.column → ((until ≡ place.column) × IsPutAmongSigns p place cell) ⊎ (until ≡ 41)
    → (was : List (List Look)) → was ≡ looks_of (core_on m p)
    → FollowsBeside place.row until was (core_on m (page_after p (strokes.Put place cell ∷ [])))
FollowsBeside-put law p valid m place cell until there among was e =
    subst (λ (t : List (List Look)). FollowsBeside place.row until t (core_on m (page_after p (strokes.Put place cell ∷ []))))
    (sym e)
    (subst (λ (q : Page). FollowsBeside place.row until (looks_of (core_on m p)) (core_on m q))
    (sym (page_after-put p valid place cell)) (put_follows law p m place cell until there among))
