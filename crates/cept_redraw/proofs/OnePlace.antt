-- One place refreshed by itself.
use Rattle.std.proofs.Common.{◌≡◌, ℕ, ◌+◌, ◌==◌, Bool, List, [], ◌∷◌, ap, subst, ◌∙◌}
use Rattle.std.proofs.Common.{sym, arith}
use Rattle.std.specs.List.{AllByRecursion}
use Rattle.std.proofs.lemmas.Bool.{and_parts, eqb-true, false_from_ne_true}
use Rattle.cept_codes.specs.declared.cell.Cell.{Cell}
use Rattle.cept_codes.specs.declared.look.Look.{Look}
use Rattle.cept_codes.specs.declared.stroke.Stroke.{Stroke}
use Rattle.cept_codes.specs.declared.stroke.Stroke.TheVariants as strokes
use Rattle.cept_codes.specs.Place.{Place, OnScreen, number}
use Rattle.cept_codes.specs.Stroke.{IsValidStroke}
use Rattle.cept_profile.specs.Cells.{is_at}
use Rattle.cept_profile.specs.Look.{look, looks_of}
use Rattle.cept_profile.specs.State.{Core, Page, page_after}
use Rattle.cept_profile.specs.Valid.{IsValidPage}
use Rattle.cept_page.specs.MarkedRows.{StandsAlone}
use Rattle.cept_page.specs.Drawn.{IsDrawn}
use Rattle.cept_page.proofs.Laws.{page_after-one}
use Rattle.cept_redraw.specs.Kept.{core_on}
use Rattle.cept_redraw.specs.inside.Kept.{IsRefreshed, look_alone, OthersStay}
use Rattle.cept_redraw.proofs.AloneRows.{IsPutAlone, look-alone}
use Rattle.cept_redraw.proofs.Refreshed.{Outside, IsRefreshed-alike, IsRefreshed-looks}

-- a cell that is put by itself, in a row that stands alone before and after
pub IsPutAlone-drawn : (before after : Page) (xs : List Stroke) (place : Place) (cell : Cell)
    → xs ≡ strokes.Put place cell ∷ [] → IsDrawn before (strokes.Put place cell) after → OnScreen place.row place.column
    → StandsAlone before place.row → StandsAlone after place.row → IsValidPage before
    → AllByRecursion IsValidStroke xs → IsValidPage (page_after before xs) → IsPutAlone before after place
IsPutAlone-drawn before after xs place cell only drawn on was is was_valid each valid =
    let put : after ≡ page_after before (strokes.Put place cell ∷ []) =
    page_after-one before after (strokes.Put place cell) drawn in
    record {
      cell = cell;
      each = (subst (λ (l : List Stroke). AllByRecursion IsValidStroke l) only each).0;
      put = put;
      row = (on.from_top, on.to_bottom);
      was_valid = was_valid;
      valid = subst (λ (p : Page). IsValidPage p)
          (sym (put ∙ ap (λ (l : List Stroke). page_after before l) (sym only))) valid;
      before = was;
      after = is;
    }

-- and its page
pub page_after-put_alone : (before after : Page) (xs : List Stroke) (place : Place) (cell : Cell)
    → xs ≡ strokes.Put place cell ∷ [] → IsDrawn before (strokes.Put place cell) after → after ≡ page_after before xs
page_after-put_alone before after xs place cell only drawn =
    page_after-one before after (strokes.Put place cell) drawn
    ∙ ap (λ (l : List Stroke). page_after before l) (sym only)

Outside-place : (p : Page) (m : Core) (was : List (List Look)) (place : Place) → OnScreen place.row place.column
    → OthersStay was (core_on m p) place
    → Outside (look (core_on m p)) was (number place.row place.column) (number place.row place.column + 1)
Outside-place p m was place on others r c there away =
    others r c there (false_from_ne_true (is_at place r c) (λ here.
    let parts = and_parts (place.row == r) (place.column == c) here in
    let er : place.row ≡ r = eqb-true place.row r parts.0 in
    let ec : place.column ≡ c = eqb-true place.column c parts.1 in
    let same : number place.row place.column ≡ number r c =
    ap (λ q. number q place.column) er ∙ ap (λ k. number r k) ec in
    away (omega arith, omega arith)))

-- the whole screen, where one place is refreshed by itself and all others stay
pub looks-refreshed : (p : Page) (k : Core) (was now : List (List Look)) (before marks : List Bool) (place : Place)
    → IsValidPage p → OnScreen place.row place.column → StandsAlone p place.row
    → IsRefreshed (λ _ _. look_alone p place) was now before marks (number place.row place.column)
    (number place.row place.column + 1)
    → OthersStay was (core_on k p) place → now ≡ looks_of (core_on k p)
looks-refreshed p k was now before marks place valid on alone m others =
    let f : ℕ → ℕ → Look = look (core_on k p) in
    let own : IsRefreshed f was now before marks (number place.row place.column)
    (number place.row place.column + 1) =
    IsRefreshed-alike (λ _ _. look_alone p place) f was now before marks _ _ (λ r c there low high.
    let er : place.row ≡ r = omega (arith, on, there) in
    let ec : place.column ≡ c = omega (arith, on, there) in
    sym (look-alone p k place.row place.column valid on alone)
    ∙ ap (λ q. f q place.column) er ∙ ap (λ d. f r d) ec) m in
    IsRefreshed-looks f was now before marks _ _ own (Outside-place p k was place on others)
