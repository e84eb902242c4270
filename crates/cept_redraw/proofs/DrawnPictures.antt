-- A picture redrawn: by no stroke, by one cell that is put, and by strokes of which just the rows that are due are resolved.
use Rattle.std.proofs.Common.{◌≡◌, ℕ, ◌+◌, ◌==◌, Bool, true, false, Option, List, [], ◌∷◌, length}
use Rattle.std.proofs.Common.{refl, sym, ap, subst, ◌∙◌, arith}
use Rattle.std.specs.Prelude.{◌≢◌, option_map}
use Rattle.std.specs.List.{AllByRecursion, list_any}
use Rattle.std.proofs.lemmas.Bool.{true≢false}
use Rattle.std.proofs.lemmas.Bool.Decides.{nat_tests}
use Rattle.cept_codes.specs.declared.cell.Cell.{Cell}
use Rattle.cept_codes.specs.declared.look.Look.{Look}
use Rattle.cept_codes.specs.declared.stroke.Stroke.{Stroke}
use Rattle.cept_codes.specs.declared.stroke.Stroke.TheVariants as strokes
use Rattle.cept_codes.specs.Place.{Place}
use Rattle.cept_codes.specs.Stroke.{IsValidStroke}
use Rattle.cept_codes.specs.Table.{list_by_index}
use Rattle.cept_codes.proofs.Laws.{entry-list_by_index}
use Rattle.cept_profile.specs.Edges.{Edges}
use Rattle.cept_profile.specs.NotedStrokes.{with_stroke}
use Rattle.cept_profile.specs.OldValues.{OldValues}
use Rattle.cept_profile.specs.State.{Page, page_after}
use Rattle.cept_profile.specs.Valid.{IsValidPage}
use Rattle.cept_page.specs.Parts.{pens_of}
use Rattle.cept_page.specs.Behind.{page_behind}
use Rattle.cept_page.proofs.Laws.{noted-none, noted-one, page_after-none}
use Rattle.cept_redraw.specs.declared.followed_rows.Followed.{Followed}
use Rattle.cept_redraw.specs.declared.picture.Picture.{Picture}
use Rattle.cept_redraw.specs.inside.Due.{at_rest, followed, is_altered, rows_due}
use Rattle.cept_redraw.specs.Kept.{AreEdges, AreLooksOn, core_on}
use Rattle.cept_redraw.specs.inside.Kept.{IsRefreshedRow, row_beneath}
use Rattle.cept_redraw.specs.Marks.{no_marks}
use Rattle.cept_redraw.specs.inside.Named.{AreRemembered, IsUnmarkedBelow}
use Rattle.cept_redraw.specs.Picture.{AreDrawable, AreTicksOf, IsKeptOn, IsNotedAlong, IsRedrawn}
use Rattle.cept_redraw.specs.inside.Picture.{AreOthersKept}
use Rattle.cept_redraw.specs.inside.Picture.{HasSameRest, IsRefreshedOn}
use Rattle.cept_redraw.specs.Resolved.{defines, mixes}
use Rattle.cept_redraw.proofs.AlteredRows.{altered-put}
use Rattle.cept_redraw.proofs.FollowedRows.{still-put}
use Rattle.cept_redraw.proofs.NamesKept.{forgotten-still}
use Rattle.cept_redraw.proofs.NamesAfter.{AreNamedOn-drawn}
use Rattle.cept_redraw.proofs.Refreshed.{differences_none}
use Rattle.cept_redraw.proofs.RestingRows.{AreStill, OtherRowsStay-still, rows_due-still}
use Rattle.cept_redraw.proofs.RowsDue.{freed-altered, put_defines_nothing, rows_due-resolved}
use Rattle.cept_redraw.proofs.RowsRenewed.{rows_renewed-due, rows_renewed-none, without}
use Rattle.cept_redraw.proofs.WalkedDown.{alone}
use Rattle.cept_redraw.proofs.WalkedRows.{OtherRowsStay-drawn}

-- ---- the rest stays

pub HasSameRest-more : {was mid now : Picture} → HasSameRest was mid → HasSameRest mid now → HasSameRest was now
HasSameRest-more first next = record { page = next.page ∙ first.page; names = next.names ∙ first.names }

-- the same of a picture that is this
pub HasSameRest-as : {was now also : Picture} → also ≡ now → HasSameRest was now → HasSameRest was also
HasSameRest-as {was} e rest = subst (λ (p : Picture). HasSameRest was p) (sym e) rest

-- a row that is resolved on the same page
pub IsRefreshedRow-on : (above : List Look) (row : ℕ) (last : Bool) (was now : List (List Look)) (before marks : List Bool)
    (p q : Page) → q ≡ p → IsRefreshedRow (row_beneath above q row last) row was now before marks
    → IsRefreshedRow (row_beneath above p row last) row was now before marks
IsRefreshedRow-on above row last was now before marks p q e refreshed =
    subst (λ (r : Page). IsRefreshedRow (row_beneath above r row last) row was now before marks) e refreshed

-- ---- no stroke

pub IsRedrawn-none : {picture : Picture} {edges : Edges} → IsKeptOn picture edges → (xs : List Stroke) → length xs ≡ 0
    → (marks : List Bool) → marks ≡ no_marks → IsRedrawn xs edges picture picture marks
IsRedrawn-none {picture} kept xs empty marks none = record {
  page = sym (page_after-none picture.page xs empty);
  kept = kept;
  marks = differences_none picture.looks picture.looks marks none refl;
}

pub AreTicksOf-none : (picture : Picture) (before after : Edges) (xs : List Stroke) → length xs ≡ 0 → (ticks : ℕ)
    → AreTicksOf xs before after picture picture ticks ticks
AreTicksOf-none picture before after xs empty ticks = record {
  cost = λ k m ek em. omega arith;
  least = omega (arith, rows_renewed-none xs picture.looks picture.looks (without xs empty) refl);
}

pub IsNotedAlong-none : (p : Page) (xs : List Stroke) (noted : Option OldValues) → length xs ≡ 0
    → IsNotedAlong xs noted p noted p
IsNotedAlong-none p xs noted empty = record { unwound = refl; noted = noted-none p xs noted empty }

pub IsNotedAlong-one : {p q : Page} {x : Stroke} {before after : Option OldValues} → (xs : List Stroke) → xs ≡ x ∷ []
    → page_behind after q ≡ page_behind before p → after ≡ option_map (with_stroke p x) before
    → IsNotedAlong xs before p after q
IsNotedAlong-one {p} {q} {x} {before} {after} xs only unwound noted = record {
  unwound = unwound;
  noted = noted-one p xs x before after only noted;
}

-- ---- just the rows that are due

pub AreTicksOf-due : {xs : List Stroke} {before after : Edges} {was now : Picture} {from to : ℕ} → IsKeptOn was before
    → AreEdges after → AllByRecursion IsValidStroke xs → now.page ≡ page_after was.page xs
    → AreLooksOn now.looks now.page after → (list_any defines xs ≡ true → mixes before after xs ≡ true)
    → to ≡ from + rows_due (list_by_index 1 24 (is_altered xs (pens_of was.page) before (pens_of now.page) after))
    (list_by_index 1 24 (followed xs)) was.looks now.looks
    → AreTicksOf xs before after was now from to
AreTicksOf-due {xs} {before} {after} {was} {now} {from} {to} kept (core, is) each drawn looks mixed cost =
    let flags : List Bool = list_by_index 1 24 (is_altered xs (pens_of was.page) before (pens_of now.page) after) in
    let rows : List Followed = list_by_index 1 24 (followed xs) in
    record {
      cost = λ k m ek em. omega (
        arith,
        cost,
        rows_due-resolved was.page now.page xs before after was.looks now.looks k m ek em (kept.looks k ek) (looks m em)
            mixed,
      );
      least = omega (
        arith,
        cost,
        rows_renewed-due xs flags rows was.looks now.looks (core_on core now.page) refl (looks core is)
            (OtherRowsStay-drawn was.page now.page xs before after was.looks flags rows kept.valid each kept.of_core
            kept.looks drawn refl refl core is),
      );
    }

-- ---- one cell that is put, and the rows from its own on

-- its row is the only one that it alters, and no row moves
put-still : (p q : Page) (xs : List Stroke) (place : Place) (cell : Cell) (edges : Edges) (row : ℕ)
    → xs ≡ strokes.Put place cell ∷ [] → q ≡ page_after p xs → row ≡ place.row
    → AreStill (alone row) (list_by_index 1 24 (followed xs))
put-still p q xs place cell edges row only drawn here =
    let rows : List Followed = list_by_index 1 24 (followed xs) in
    record {
      freed = freed-altered (alone row) rows xs (pens_of p) edges (pens_of q) edges
          (altered-put p q xs place cell edges edges (alone row) row only drawn refl refl here) refl;
      still = still-put rows xs place cell refl only;
    }

pub AreOthersKept-put : {was : Picture} {edges : Edges} {xs : List Stroke} → IsKeptOn was edges → AreDrawable xs was.page
    → (place : Place) (cell : Cell) → xs ≡ strokes.Put place cell ∷ [] → (q : Page) → q ≡ page_after was.page xs
    → (row : ℕ) → row ≡ place.row → AreOthersKept (alone row) at_rest was.looks q edges
AreOthersKept-put {was} {edges} {xs} kept can place cell only q drawn row here = record {
  valid = subst (λ (p : Page). IsValidPage p) (sym drawn) can.valid;
  of_core = kept.of_core;
  stay = λ k same.
      OtherRowsStay-still (put-still was.page q xs place cell edges row only drawn here) was.looks (core_on k q)
      (OtherRowsStay-drawn was.page q xs edges edges was.looks (alone row) (list_by_index 1 24 (followed xs))
      kept.valid can.each kept.of_core kept.looks drawn
      (altered-put was.page q xs place cell edges edges (alone row) row only drawn refl refl here) refl k same);
}

pub AreTicksOf-put : {was now : Picture} {edges : Edges} {xs : List Stroke} {from to : ℕ} → IsKeptOn was edges
    → AreDrawable xs was.page → (place : Place) (cell : Cell) → xs ≡ strokes.Put place cell ∷ []
    → now.page ≡ page_after was.page xs → (row : ℕ) → row ≡ place.row → (marks : List Bool)
    → IsRefreshedOn (alone row) at_rest was.looks edges now marks from to
    → AreTicksOf xs edges edges was now from to
AreTicksOf-put {was} {now} {edges} {xs} {from} {to} kept can place cell only drawn row here marks refreshed =
    let rows : List Followed = list_by_index 1 24 (followed xs) in
    AreTicksOf-due kept kept.of_core can.each drawn refreshed.looks
    (λ some. absurd (true≢false (sym some ∙ put_defines_nothing place cell xs only)))
    (refreshed.cost
    ∙ ap (λ n. from + n) (rows_due-still (put-still was.page now.page xs place cell edges row only drawn here)
    was.looks now.looks)
    ∙ ap (λ (l : List Bool). from + rows_due l rows was.looks now.looks)
    (altered-put was.page now.page xs place cell edges edges (alone row) row only drawn refl refl here))

pub IsRedrawn-put : {was now : Picture} {edges : Edges} {xs : List Stroke} {from to : ℕ} → IsKeptOn was edges
    → AreDrawable xs was.page → (place : Place) (cell : Cell) → xs ≡ strokes.Put place cell ∷ []
    → now.page ≡ page_after was.page xs → (row : ℕ) → row ≡ place.row → (marks : List Bool)
    → IsRefreshedOn (alone row) at_rest was.looks edges now marks from to
    → AreRemembered was.names now.names (λ r. (r ≢ row) × IsUnmarkedBelow marks 960 r)
    → IsRedrawn xs edges was now marks
IsRedrawn-put {was} {now} {edges} {xs} kept can place cell only drawn row here marks refreshed remembered =
    let rows : List Followed = list_by_index 1 24 (followed xs) in
    let still = put-still was.page now.page xs place cell edges row only drawn here in
    let valid : IsValidPage now.page = subst (λ (p : Page). IsValidPage p) (sym drawn) can.valid in
    record {
      page = drawn;
      kept = record {
        valid = valid;
        of_core = kept.of_core;
        looks = refreshed.looks;
        named = AreNamedOn-drawn was.page now.page xs edges edges was.looks now.looks was.names now.names (alone row)
            rows marks kept.valid valid can.each kept.of_core kept.named kept.looks refreshed.looks drawn
            (altered-put was.page now.page xs place cell edges edges (alone row) row only drawn refl refl here) refl
            refreshed.marks
            (forgotten-still marks row (alone row) rows remembered (λ r low high apart.
            let no : (row == r) ≡ false = grind (arith, nat_tests, apart) in
            entry-list_by_index false 1 24 (λ q. row == q) r low (omega (arith, high)) ∙ no)
            still.freed still.still);
      };
      marks = refreshed.marks;
    }
