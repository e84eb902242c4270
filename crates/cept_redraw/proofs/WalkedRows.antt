-- One walk over the rows from the top: the rows above it are refreshed, and those that are due were resolved.
use Rattle.std.proofs.Common.{◌≡◌, Option, Some, None, subst, ℕ, ◌+◌, ◌-◌, ◌*◌, ◌≤◌, Bool, true, false, List, length}
use Rattle.std.proofs.Common.{refl, sym, ap, ◌∙◌, inl, inr, arith}
use Rattle.std.specs.List.{AllByRecursion}
use Rattle.std.proofs.lemmas.Bool.{cases_eq, or_parts, or_right, true≢false}
use Rattle.cept_codes.specs.declared.look.Look.{Look}
use Rattle.cept_codes.specs.declared.stroke.Stroke.{Stroke}
use Rattle.cept_codes.specs.Place.{OnScreen}
use Rattle.cept_codes.specs.Stroke.{IsRow, IsValidStroke}
use Rattle.cept_codes.specs.Look.{blank_look}
use Rattle.cept_codes.specs.Table.{entry, list_by_index, row_of, value_at, IsTable}
use Rattle.cept_codes.proofs.Laws.{IsTable-table, entry-list_by_index, value_at-table}
use Rattle.cept_profile.specs.Changes.{differences}
use Rattle.cept_profile.specs.Edges.{Edges, edges_of_core, is_last}
use Rattle.cept_profile.specs.Look.{look, looks_of}
use Rattle.cept_profile.specs.Reach.{LeadsTo}
use Rattle.cept_profile.specs.RowsFromAbove.{is_covered_otherwise, looks_in}
use Rattle.cept_profile.specs.State.{Core, Page, page_after}
use Rattle.cept_profile.specs.Valid.{IsValidPage}
use Rattle.cept_page.specs.Parts.{pens_of}
use Rattle.cept_redraw.specs.declared.followed_rows.Followed.{Followed}
use Rattle.cept_redraw.specs.inside.Due.{came_from, followed, is_altered, is_covered_from, is_due, row_from, rows_due}
use Rattle.cept_redraw.specs.inside.Due.{OtherRowsStay}
use Rattle.cept_redraw.specs.Kept.{core_on, AreEdges, AreLooksOn}
use Rattle.cept_redraw.specs.inside.Kept.{IsRefreshed, is_other_above, row_beneath, IsRefreshedRow}
use Rattle.cept_redraw.specs.Marks.{no_marks}
use Rattle.cept_redraw.proofs.Refreshed.{IsRefreshed-looks, IsRefreshed-marks, IsRefreshed-none, IsRefreshed-row}
use Rattle.cept_redraw.proofs.Refreshed.{IsRefreshed-row_kept}
use Rattle.cept_redraw.proofs.RowsOfLooks.{covered_otherwise-below, covered_otherwise-first}
use Rattle.cept_redraw.proofs.RowsOfLooks.{is_other_above-same}
use Rattle.cept_redraw.proofs.RowsOfLooks.{looks_in-same, looks_in-table}
use Rattle.cept_redraw.proofs.RowsDue.{due_above, look-unaltered, ticks-all, ticks-no, ticks-yes}
use Rattle.cept_redraw.proofs.Unmarked.{length-no_marks}
use Rattle.cept_profile.specs.MovedRows.{row_before}
use Rattle.cept_profile.proofs.Laws.{looks_in-from_above, looks_of-alike, row_before-on}
use Rattle.cept_redraw.proofs.FollowedRows.{row_from-followed}

-- the rows above this one are refreshed, with a tick for each that is due; and whether this one is covered
-- differently
pub record WalkedTo (flags : List Bool) (rows : List Followed) (k : Core) (was now : List (List Look))
    (former marks : List Bool) (covered : Bool) (start steps row : ℕ) : Type 0 where
  pub refreshed : IsRefreshed (look k) was now former marks 0 (40 * (row - 1))
  pub covering : covered ≡ is_covered_otherwise was row (looks_of k) row
  pub ticks : steps ≡ start + due_above (is_due flags rows was (looks_of k)) row

pub WalkedTo-first : (flags : List Bool) (rows : List Followed) (k : Core) (was : List (List Look)) (marks : List Bool)
    (steps : ℕ) → IsTable was → marks ≡ no_marks → WalkedTo flags rows k was was marks marks false steps steps 1
WalkedTo-first flags rows k was marks steps is none = record {
  refreshed = IsRefreshed-none (look k) was marks 0 is (ap length none ∙ length-no_marks);
  covering = sym (covered_otherwise-first was (looks_of k));
  ticks = omega arith;
}

-- the row above this one is that of the core already
pub above_is : (k : Core) (was now : List (List Look)) (former marks : List Bool) (row : ℕ) → 1 ≤ row → row ≤ 24
    → IsRefreshed (look k) was now former marks 0 (40 * (row - 1))
    → looks_in now (row - 1) ≡ looks_in (looks_of k) (row - 1)
above_is k was now former marks row top bottom m =
    elim (cases_eq row 1) [
      | inl first ↦
          let none : row - 1 ≡ 0 = omega arith in
          ap (looks_in now) none ∙ ap (looks_in (looks_of k)) (sym none)
      | inr later ↦
          looks_in-same now (looks_of k) (row - 1) m.is (IsTable-table (look k)) (omega arith) (omega arith)
          (λ c on. m.shown (row - 1) c on (omega arith) (omega (arith, on))
          ∙ sym (value_at-table (look k) blank_look (row - 1) c on))
    ]

-- so what is resolved beneath it is the row of the core
pub beneath_is : (k : Core) (above : List Look) (row : ℕ) (last : Bool) → 1 ≤ row → row ≤ 24
    → above ≡ looks_in (looks_of k) (row - 1) → last ≡ is_last (edges_of_core k) row
    → row_beneath above k.page row last ≡ row_of (look k row)
beneath_is k above row last top bottom e el =
    ap (λ (l : List Look). row_beneath l k.page row last) e
    ∙ ap (row_beneath (looks_in (looks_of k) (row - 1)) k.page row) el ∙ sym (looks_in-from_above k row top bottom)
    ∙ looks_in-table (look k) row top bottom

-- one row more: it holds the looks of the core, and its places are marked
walked : {flags : List Bool} {rows : List Followed} {k : Core} {was mid : List (List Look)} {former between : List Bool}
    {covered : Bool} {start steps row : ℕ}
    → WalkedTo flags rows k was mid former between covered start steps row → IsTable was → 1 ≤ row → row ≤ 24
    → (fresh : List Look) → fresh ≡ row_of (look k row) → (now : List (List Look)) (marks : List Bool) (next : Bool)
    → IsRefreshedRow fresh row mid now between marks → next ≡ is_other_above (looks_in mid row) (looks_in now row)
    → IsRefreshed (look k) was now former marks 0 (40 * ((row + 1) - 1))
    × (next ≡ is_covered_otherwise was (row + 1) (looks_of k) (row + 1))
walked {flags} {rows} {k} {was} {mid} {former} {between} {covered} {start} {steps} {row} m is top bottom fresh e now
    marks next r en =
    let done : IsRefreshed (look k) was now former marks 0 (40 * ((row + 1) - 1)) =
    IsRefreshed-row (look k) was mid now former between marks row fresh top bottom e m.refreshed r in
    let unchanged : looks_in mid row ≡ looks_in was row =
    looks_in-same mid was row m.refreshed.is is top bottom (λ c on. m.refreshed.below row c on (omega arith)) in
    let new : looks_in now row ≡ looks_in (looks_of k) row =
    looks_in-same now (looks_of k) row done.is (IsTable-table (look k)) top bottom
    (λ c on. done.shown row c on (omega arith) (omega (arith, on))
    ∙ sym (value_at-table (look k) blank_look row c on)) in (
      done,
      en ∙ ap (λ (l : List Look). is_other_above l (looks_in now row)) unchanged
          ∙ ap (is_other_above (looks_in was row)) new ∙ sym (covered_otherwise-below was (looks_of k) row),
    )

-- a row that isn't due wasn't freed
pub came_is : (flags : List Bool) (rows : List Followed) (k : Core) (was : List (List Look)) (row came : ℕ)
    → is_due flags rows was (looks_of k) row ≡ false → came ≡ came_from (row_from rows row) row
    → row_from rows row ≡ Some came
came_is flags rows k was row came undue ec = by_row (row_from rows row) refl
  where
    by_row : (found : Option ℕ) → row_from rows row ≡ found → row_from rows row ≡ Some came
    by_row None e =
        absurd (true≢false (sym (or_right (entry false 1 flags row)
        (is_covered_from was (row_from rows row) (looks_of k) row)
        (ap (λ found. is_covered_from was found (looks_of k) row) e)) ∙ undue))
    by_row (Some q) e = e ∙ ap (λ n. Some n) (sym (ec ∙ ap (λ found. came_from found row) e))

-- a row that stays and isn't due
pub WalkedTo-kept : {flags : List Bool} {rows : List Followed} {k : Core} {was now : List (List Look)}
    {former marks : List Bool} {covered : Bool} {start steps row : ℕ}
    → WalkedTo flags rows k was now former marks covered start steps row → IsTable was → 1 ≤ row → row ≤ 24
    → OtherRowsStay flags rows was k → is_due flags rows was (looks_of k) row ≡ false → row_from rows row ≡ Some row
    → WalkedTo flags rows k was now former marks covered start steps (row + 1)
WalkedTo-kept {flags} {rows} {k} {was} {now} {former} {marks} {covered} {start} {steps} {row} m is top bottom others
    undue still =
    let parts = or_parts (entry false 1 flags row) (is_covered_from was (row_from rows row) (looks_of k) row) undue in
    let none : covered ≡ false =
    m.covering ∙ ap (λ found. is_covered_from was found (looks_of k) row) (sym still) ∙ parts.1 in
    let same : looks_in was row ≡ looks_in (looks_of k) row =
    looks_in-same was (looks_of k) row is (IsTable-table (look k)) top bottom
    (λ c on. others row row c on undue still ∙ sym (value_at-table (look k) blank_look row c on)) in
    record {
      refreshed = IsRefreshed-row_kept (look k) was now former marks row top bottom
          (λ c on. others row row c on undue still) m.refreshed;
      covering =
          none
          ∙ sym (covered_otherwise-below was (looks_of k) row
          ∙ is_other_above-same (looks_in was row) (looks_in (looks_of k) row) same);
      ticks = ticks-no (is_due flags rows was (looks_of k)) row start steps top bottom undue m.ticks;
    }

-- the same of values that are these
pub WalkedTo-as : {flags : List Bool} {rows : List Followed} {k : Core} {was now next : List (List Look)}
    {former marks more : List Bool} {covered seen : Bool} {start steps ticks row : ℕ} → next ≡ now → more ≡ marks
    → seen ≡ covered → ticks ≡ steps → WalkedTo flags rows k was now former marks covered start steps row
    → WalkedTo flags rows k was next former more seen start ticks row
WalkedTo-as {flags} {rows} {k} {was} {now} {next} {former} {marks} {more} {covered} {seen} {start} {steps} {ticks} {row} en
    em ec es m =
    subst (λ (t : List (List Look)). WalkedTo flags rows k was t former more seen start ticks row) (sym en)
    (subst (λ (l : List Bool). WalkedTo flags rows k was now former l seen start ticks row) (sym em)
    (subst (λ (b : Bool). WalkedTo flags rows k was now former marks b start ticks row) (sym ec)
    (subst (λ n. WalkedTo flags rows k was now former marks covered start n row) (sym es) m)))

-- a row that is due and resolved
pub WalkedTo-more : {flags : List Bool} {rows : List Followed} {k : Core} {was mid : List (List Look)}
    {former between : List Bool} {covered : Bool} {start steps row : ℕ}
    → WalkedTo flags rows k was mid former between covered start steps row → IsTable was → 1 ≤ row → row ≤ 24
    → is_due flags rows was (looks_of k) row ≡ true → (last : Bool) → last ≡ is_last (edges_of_core k) row
    → (now : List (List Look)) (marks : List Bool) (next : Bool) (more : ℕ)
    → IsRefreshedRow (row_beneath (looks_in mid (row - 1)) k.page row last) row mid now between marks
    → next ≡ is_other_above (looks_in mid row) (looks_in now row) → more ≡ steps + 1
    → WalkedTo flags rows k was now former marks next start more (row + 1)
WalkedTo-more {flags} {rows} {k} {was} {mid} {former} {between} {covered} {start} {steps} {row} m is top bottom due
    last el now marks next more r en tick =
    let above : looks_in mid (row - 1) ≡ looks_in (looks_of k) (row - 1) =
    above_is k was mid former between row top bottom m.refreshed in
    let fresh : List Look = row_beneath (looks_in mid (row - 1)) k.page row last in
    let done = walked m is top bottom fresh
    (beneath_is k (looks_in mid (row - 1)) row last top bottom above el) now marks next r en in
    record {
      refreshed = done.0;
      covering = done.1;
      ticks = ticks-yes (is_due flags rows was (looks_of k)) row start steps more top bottom due m.ticks tick;
    }

-- all rows
pub WalkedTo-looks : {flags : List Bool} {rows : List Followed} {k : Core} {was now : List (List Look)} {former marks : List Bool}
    {covered : Bool} {start steps row : ℕ}
    → WalkedTo flags rows k was now former marks covered start steps row → 24 ≤ row - 1 → now ≡ looks_of k
WalkedTo-looks {k = k} {was = was} {now = now} {former = former} {marks = marks} m past =
    IsRefreshed-looks (look k) was now former marks _ _ m.refreshed
    (λ r c on away. absurd (away (omega arith, omega (arith, on))))

pub WalkedTo-marks : {flags : List Bool} {rows : List Followed} {k : Core} {was now : List (List Look)} {former marks : List Bool}
    {covered : Bool} {start steps row : ℕ}
    → WalkedTo flags rows k was now former marks covered start steps row → former ≡ no_marks
    → marks ≡ differences was now
WalkedTo-marks {k = k} {was = was} {now = now} {former = former} {marks = marks} m none =
    IsRefreshed-marks (look k) was now former marks _ _ none m.refreshed

pub WalkedTo-cost : {flags : List Bool} {rows : List Followed} {k : Core} {was now : List (List Look)} {former marks : List Bool}
    {covered : Bool} {start steps row : ℕ}
    → WalkedTo flags rows k was now former marks covered start steps row → 24 ≤ row - 1
    → steps ≡ start + rows_due flags rows was now
WalkedTo-cost {flags} {rows} {k} {was} {now} {former} {marks} {covered} {start} {steps} {row} m past =
    ticks-all flags rows start steps was (looks_of k) row past m.ticks
    ∙ ap (λ (g : List (List Look)). start + rows_due flags rows was g) (sym (WalkedTo-looks m past))

-- where the rows are followed, and those flagged that strokes alter, each that isn't due looks as the row did of which it
-- came, where the strokes were drawn
pub OtherRowsStay-drawn : (p q : Page) (xs : List Stroke) (before after : Edges) (was : List (List Look))
    (flags : List Bool) (rows : List Followed) → IsValidPage p → AllByRecursion IsValidStroke xs → AreEdges before
    → AreLooksOn was p before → q ≡ page_after p xs
    → flags ≡ list_by_index 1 24 (is_altered xs (pens_of p) before (pens_of q) after)
    → rows ≡ list_by_index 1 24 (followed xs)
    → (k : Core) → edges_of_core k ≡ after → OtherRowsStay flags rows was (core_on k q)
OtherRowsStay-drawn p q xs before after was flags rows valid each (core, is) looks drawn es er k same r n c on none came =
    let old : Core = core_on core p in
    let new : Core = core_on k q in
    let e : was ≡ looks_of old = looks core is in
    let parts = or_parts (entry false 1 flags r) (is_covered_from was (row_from rows r) (looks_of new) r) none in
    let out : is_altered xs (pens_of p) before (pens_of q) after r ≡ false =
    sym (entry-list_by_index false 1 24 (is_altered xs (pens_of p) before (pens_of q) after) r on.from_top
    (omega (arith, on)))
    ∙ ap (λ (l : List Bool). entry false 1 l r) (sym es) ∙ parts.0 in
    let from : row_before xs r ≡ Some n =
    sym (row_from-followed rows xs er r on.from_top on.to_bottom) ∙ came in
    let row : IsRow n = row_before-on xs r n each on.from_top on.to_bottom from in
    let there : OnScreen n c = record {
      from_top = row.0;
      to_bottom = row.1;
      from_left = on.from_left;
      to_right = on.to_right;
    } in
    let leads : LeadsTo old new xs = record { valid = valid; each = each; page = drawn } in
    ap (λ (t : List (List Look)). value_at blank_look t n c) e ∙ value_at-table (look old) blank_look n c there
    ∙ sym (look-unaltered old new xs n r c leads on from
    ((λ i. is_altered xs (pens_of p) (is i) (pens_of q) (same i) r) ∙ out)
    (ap (λ (g : List (List Look)). is_covered_otherwise g n (looks_of new) r) (sym e)
    ∙ ap (λ found. is_covered_from was found (looks_of new) r) (sym came) ∙ parts.1))

-- the looks of one core are those of every core with this page and these edges
pub AreLooksOn-one : (looks : List (List Look)) (p : Page) (edges : Edges) (k : Core) → edges_of_core k ≡ edges
    → looks ≡ looks_of (core_on k p) → AreLooksOn looks p edges
AreLooksOn-one looks p edges k same e m also = e ∙ looks_of-alike (core_on k p) (core_on m p) refl (same ∙ sym also)
