-- Rows whose cells look as they do by themselves, and one cell that is put in such a row.
use Rattle.std.proofs.Common.{◌≡◌, ◌≢◌, ℕ, zero, suc, ◌+◌, ◌-◌, ◌≤◌, ◌<◌, ◌==◌, ◌&&◌, ◌||◌, not, false}
use Rattle.std.proofs.Common.{List, [], ◌∷◌, inl, inr, Some, refl, sym, ap, subst, ◌∙◌, arith}
use Rattle.std.proofs.lemmas.Bool.Decides.{nat_tests}
use Rattle.std.proofs.lemmas.Bool.{and_left, cases_eq, cases_lt, cond-false, or_from}
use Rattle.cept_codes.specs.declared.attribute.Size.TheVariants as sizes
use Rattle.cept_codes.specs.declared.cell.Cell.{Cell}
use Rattle.cept_codes.specs.declared.look.Look.{Look}
use Rattle.cept_codes.specs.declared.stroke.Stroke.TheVariants as strokes
use Rattle.cept_codes.specs.Cell.{blank_cell}
use Rattle.cept_codes.specs.Look.{blank_look}
use Rattle.cept_codes.specs.Place.{Place, OnScreen}
use Rattle.cept_codes.specs.Same.{same_look}
use Rattle.cept_codes.specs.Stroke.{IsValidStroke}
use Rattle.cept_codes.specs.Table.{value_at}
use Rattle.cept_codes.proofs.Laws.{IsTable-table, look_decides, value_at-table}
use Rattle.cept_profile.specs.Cells.{is_at, cell_after, cells_after}
use Rattle.cept_profile.specs.Edges.{Edges, edges_of_core}
use Rattle.cept_profile.specs.Look.{contents_of_row, is_double_set, look, look_of, looks_of, own_size}
use Rattle.cept_profile.specs.Look.{part_of}
use Rattle.cept_profile.specs.MovedRows.{row_before}
use Rattle.cept_profile.specs.PageParts.{row_pen_in}
use Rattle.cept_profile.specs.RowsFromAbove.{is_covered_otherwise, look_seen, looks_in}
use Rattle.cept_profile.specs.State.{Core, Page, definitions_of, page_after}
use Rattle.cept_profile.specs.Tiling.{covers_below}
use Rattle.cept_profile.specs.Valid.{IsValidPage}
use Rattle.cept_page.specs.Parts.{pens_of}
use Rattle.cept_page.specs.MarkedRows.{IsSingleRow, StandsAlone}
use Rattle.cept_page.proofs.Laws.{page_after-put}
use Rattle.cept_redraw.specs.inside.Due.{is_altered}
use Rattle.cept_redraw.specs.Kept.{core_on}
use Rattle.cept_redraw.specs.inside.Kept.{OthersStay, look_alone}
use Rattle.cept_redraw.proofs.AlteredRows.{is_altered-put}
use Rattle.cept_redraw.proofs.RowsDue.{look-unaltered}
use Rattle.cept_redraw.proofs.RowsOfLooks.{covered_otherwise-below, covered_otherwise-first, is_other_above-none}
use Rattle.cept_redraw.proofs.RowsOfLooks.{is_other_covering-same, look_seen-at}
use Rattle.cept_profile.proofs.Laws.{covers_nothing, covers_nothing-first, look-single}
use Rattle.cept_profile.proofs.Laws.{look_in_row-unmarked, size_in_row-single}

-- in a row in which no double size is set each cell is to be shown in single size, where the screen sets none
own_size-single : (p : Page) (m : Core) (r : ℕ) → IsValidPage p → 1 ≤ r → r ≤ 24 → IsSingleRow p r → (c : ℕ) → 1 ≤ c → c ≤ 40
    → own_size (core_on m p) r c ≡ sizes.Normal
own_size-single p m r valid top bottom single c low high =
    size_in_row-single (contents_of_row (core_on m p) r) (row_pen_in p.row_pens r) p.screen_pen c low (λ d from to.
    let on : OnScreen r d =
    record { from_top = top; to_bottom = bottom; from_left = from; to_right = omega arith } in
    single.cells d on) single.pen (ap is_double_set valid.screen_pen.size)

-- and nothing in it covers the row below; nothing covers the first row
pub covers_nothing-in : (p : Page) (m : Core) (r : ℕ) → IsValidPage p → r ≤ 24 → (1 ≤ r → IsSingleRow p r) → (c : ℕ)
    → covers_below (part_of (look_seen (looks_of (core_on m p)) r c)) ≡ false
covers_nothing-in p m zero valid bottom single c = covers_nothing-first (core_on m p) c
covers_nothing-in p m (suc r) valid bottom single c =
    covers_nothing (core_on m p) (suc r) (omega arith) bottom
    (own_size-single p m (suc r) valid (omega arith) bottom (single (omega arith))) c

-- each cell of a row that stands alone looks as it does by itself
pub look-alone : (p : Page) (m : Core) (r c : ℕ) → IsValidPage p → OnScreen r c → StandsAlone p r
    → look (core_on m p) r c ≡ look_alone p (record { row = r; column = c })
look-alone p m r c valid on alone =
    look-single (core_on m p) r c on (own_size-single p m r valid on.from_top on.to_bottom alone.single)
    (covers_nothing-in p m (r - 1) valid (omega (arith, on)) (λ low. alone.single_above (omega arith)))
    ∙ look_in_row-unmarked (definitions_of p) (contents_of_row (core_on m p) r) (row_pen_in p.row_pens r)
    p.screen_pen c on.from_left (λ d low high.
    let there : OnScreen r d =
    record { from_top = on.from_top; to_bottom = on.to_bottom; from_left = low; to_right = omega (arith, on, high) } in
    alone.unmarked d there)

-- ---- one cell put in a row that stands alone before and after

-- a cell that is put changes no other cell
pub cell_elsewhere : (p : Page) (place : Place) (cell : Cell) (r c : ℕ) → OnScreen r c → is_at place r c ≡ false
    → value_at blank_cell (cells_after p.cells (strokes.Put place cell)) r c ≡ value_at blank_cell p.cells r c
cell_elsewhere p place cell r c on other =
    let was : Cell = value_at blank_cell p.cells r c in
    value_at-table (cell_after (strokes.Put place cell) (value_at blank_cell p.cells)) blank_cell r c on
    ∙ cond-false (is_at place r c && not was.protected) cell was (and_left (is_at place r c) (not was.protected) other)

-- and no other row is altered
unaltered : (p : Page) (place : Place) (cell : Cell) (edges : Edges) (r : ℕ) → place.row ≢ r → 1 ≤ r → r ≤ 24
    → is_altered (strokes.Put place cell ∷ []) (pens_of p) edges
    (pens_of (page_after p (strokes.Put place cell ∷ []))) edges r ≡ false
unaltered p place cell edges r apart low high =
    let no : (place.row == r) ≡ false = grind (arith, nat_tests) in is_altered-put p place cell edges r low high ∙ no

still : (place : Place) (cell : Cell) (r : ℕ) → row_before (strokes.Put place cell ∷ []) r ≡ Some r
unfolding row_before
still place cell r = refl

-- a page before and after one cell is put, in a row that stands alone
pub record IsPutAlone (p q : Page) (place : Place) : Type 0 where
  pub cell : Cell
  pub each : IsValidStroke (strokes.Put place cell)
  pub put : q ≡ page_after p (strokes.Put place cell ∷ [])
  pub row : (1 ≤ place.row) × (place.row ≤ 24)
  pub was_valid : IsValidPage p
  pub valid : IsValidPage q
  pub before : StandsAlone p place.row
  pub after : StandsAlone q place.row

-- all other places down to row n look as before
abbrev OthersStayTo : Page → Page → Core → Place → ℕ → Type 0
OthersStayTo p q m place n =
    (r c : ℕ) → OnScreen r c → r ≤ n → is_at place r c ≡ false → look (core_on m q) r c ≡ look (core_on m p) r c

-- where all do down to the row above, what covers a row from above is the same
covering_stays : (p q : Page) (m : Core) (place : Place) → IsPutAlone p q place → (n : ℕ) → n < 24
    → OthersStayTo p q m place n
    → is_covered_otherwise (looks_of (core_on m p)) (n + 1) (looks_of (core_on m q)) (n + 1) ≡ false
covering_stays p q m place put zero below stay =
    covered_otherwise-first (looks_of (core_on m p)) (looks_of (core_on m q))
covering_stays p q m place put (suc n) below stay =
    let g : List (List Look) = looks_of (core_on m p) in
    let h : List (List Look) = looks_of (core_on m q) in
    let r : ℕ = suc n in
    covered_otherwise-below g h r
    ∙ is_other_above-none (looks_in g r) (looks_in h r) (λ c low high. elim (cases_eq place.row r) [
      | inl here ↦
          let was = subst (λ k. IsSingleRow p k) here put.before.single in
          let is = subst (λ k. IsSingleRow q k) here put.after.single in
          and_left (covers_below (part_of (look_seen g r c)) || covers_below (part_of (look_seen h r c)))
          (not (same_look (look_seen g r c) (look_seen h r c)))
          (or_from (covers_below (part_of (look_seen g r c))) (covers_below (part_of (look_seen h r c)))
          (covers_nothing-in p m r put.was_valid (omega arith) (λ low. was) c)
          (covers_nothing-in q m r put.valid (omega arith) (λ low. is) c))
      | inr apart ↦
          let on : OnScreen r c =
          record { from_top = omega arith; to_bottom = omega arith; from_left = low; to_right = high } in
          let row : (place.row == r) ≡ false = grind (arith, nat_tests) in
          let other : is_at place r c ≡ false = and_left (place.row == r) (place.column == c) row in
          let kept : look_seen g r c ≡ look (core_on m p) r c =
          look_seen-at g r c (IsTable-table (look (core_on m p))) on
          ∙ value_at-table (look (core_on m p)) blank_look r c on in
          let new : look_seen h r c ≡ look (core_on m q) r c =
          look_seen-at h r c (IsTable-table (look (core_on m q))) on
          ∙ value_at-table (look (core_on m q)) blank_look r c on in
          is_other_covering-same (look_seen g r c) (look_seen h r c)
          ((look_decides (look_seen g r c) (look_seen h r c)).1
          (kept ∙ sym (stay r c on (omega arith) other) ∙ sym new))
    ])

-- so all others look as before, one row after the other
others_stay_to : (p q : Page) (m : Core) (place : Place) → IsPutAlone p q place → (n : ℕ)
    → OthersStayTo p q m place n
others_stay_to p q m place put zero r c on none other = absurd (omega (arith, on))
others_stay_to p q m place put (suc n) r c on within other =
    elim (cases_lt r (suc n)) [
      | inl above ↦ others_stay_to p q m place put n r c on (omega arith) other
      | inr last ↦ elim (cases_eq place.row r) [
        | inl here ↦
            let was = subst (λ k. StandsAlone p k) here put.before in
            let is = subst (λ k. StandsAlone q k) here put.after in
            look-alone q m r c put.valid on is
            ∙ ap (λ (x : Page). look_alone x (record { row = r; column = c }))
            (put.put ∙ page_after-put p put.was_valid place put.cell)
            ∙ ap (λ (x : Cell). look_of (definitions_of p) (row_pen_in p.row_pens r) p.screen_pen x.what)
            (cell_elsewhere p place put.cell r c on other)
            ∙ sym (look-alone p m r c put.was_valid on was)
        | inr apart ↦
            let row : n + 1 ≡ r = omega arith in
            look-unaltered (core_on m p) (core_on m q) (strokes.Put place put.cell ∷ []) r r c
            (record { valid = put.was_valid; each = (put.each, tt); page = put.put }) on (still place put.cell r)
            (ap (λ (x : Page). is_altered (strokes.Put place put.cell ∷ []) (pens_of p) (edges_of_core m) (pens_of x)
            (edges_of_core m) r) put.put
            ∙ unaltered p place put.cell (edges_of_core m) r apart on.from_top on.to_bottom)
            (ap (λ k. is_covered_otherwise (looks_of (core_on m p)) k (looks_of (core_on m q)) k) (sym row)
            ∙ covering_stays p q m place put n (omega (arith, on)) (others_stay_to p q m place put n))
      ]
    ]

pub OthersStay-put : (p q : Page) (m : Core) (kept : List (List Look)) (place : Place)
    → kept ≡ looks_of (core_on m p)
    → IsPutAlone p q place → OthersStay kept (core_on m q) place
OthersStay-put p q m kept place e put r c on other =
    ap (λ (t : List (List Look)). value_at blank_look t r c) e
    ∙ value_at-table (look (core_on m p)) blank_look r c on
    ∙ sym (others_stay_to p q m place put r r c on (omega arith) other)
