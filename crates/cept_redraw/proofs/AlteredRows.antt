-- Rows that strokes alter: attributes compared, and a cell that is put.
use Rattle.std.proofs.Common.{◌≡◌, ℕ, ◌≤◌, ◌||◌, ◌&&◌, ◌==◌, not, Bool, true, false, List, [], ◌∷◌}
use Rattle.std.proofs.Common.{Option, Some, None, rules, refl, sym, ap, ◌∙◌, arith}
use Rattle.std.specs.Option.{option_eq}
use Rattle.std.specs.Prelude.{option_and_then}
use Rattle.std.specs.List.{list_any}
use Rattle.std.proofs.lemmas.Bool.{and_parts, eqb-true, not-false, or_from, or_parts, true≢false}
use Rattle.std.proofs.lemmas.Bool.Decides.{nat_tests}
use Rattle.cept_codes.specs.declared.attribute.Flash.{Flash}
use Rattle.cept_codes.specs.declared.attribute.Pen.{Pen}
use Rattle.cept_codes.specs.declared.attribute.Size.{Size}
use Rattle.cept_codes.specs.declared.cell.Cell.{Cell}
use Rattle.cept_codes.specs.declared.stroke.Stroke.{Stroke}
use Rattle.cept_codes.specs.declared.stroke.Stroke.TheVariants as strokes
use Rattle.cept_codes.specs.Attribute.{unset_pen}
use Rattle.cept_codes.specs.Place.{Place}
use Rattle.cept_codes.specs.Same.{same_flash, same_pen, same_size}
use Rattle.cept_codes.specs.Table.{entry, list_by_index}
use Rattle.cept_codes.proofs.Laws.{entry-list_by_index, same_indexed}
use Rattle.cept_profile.specs.Edges.{Edges, is_last}
use Rattle.cept_profile.specs.MovedRows.{moved_rows, row_before, row_before_move}
use Rattle.cept_profile.specs.PageParts.{part_after_all, row_pen_after, row_pen_in, row_pens_after, screen_pen_after}
use Rattle.cept_profile.specs.Reach.{is_written, just_one}
use Rattle.cept_profile.specs.State.{Page, page_after}
use Rattle.cept_page.specs.declared.page.Pens.{Pens}
use Rattle.cept_page.specs.Parts.{pens_of}
use Rattle.cept_redraw.specs.declared.followed_rows.Followed.{Followed}
use Rattle.cept_redraw.specs.inside.Due.{does_more, followed, freed, has_others, is_altered, is_altered_from}
use Rattle.cept_redraw.specs.Resolved.{defines}
use mathlib.Core.Bool.{beq}

-- ---- other attributes

option-itself : {X : Type 0} (eq : X → X → Bool) → ((x : X) → eq x x ≡ true) → (a : Option X)
    → option_eq eq a a ≡ true
option-itself eq one None = refl
option-itself eq one (Some x) = one x

number-itself : (x : ℕ) → (x == x) ≡ true
number-itself x = grind (arith, nat_tests)

flag-itself : (x : Bool) → beq x x ≡ true
flag-itself true = refl
flag-itself false = refl

flash-itself : (x : Flash) → same_flash x x ≡ true
flash-itself x = search rules

size-itself : (x : Size) → same_size x x ≡ true
size-itself x = search rules

pen-itself : (a : Pen) → same_pen a a ≡ true
pen-itself a =
    let f = option-itself (◌==◌) number-itself a.fore in
    let g = option-itself (◌==◌) number-itself a.back in
    let h = option-itself same_flash flash-itself a.flash in
    let j = option-itself beq flag-itself a.conceal in
    let k = option-itself beq flag-itself a.lined in
    let l = option-itself beq flag-itself a.boxed in
    let m = option-itself same_size size-itself a.size in
    let n = option-itself beq flag-itself a.invert in
    λ i. f i && (g i && (h i && (j i && (k i && (l i && (m i && n i))))))

pub same_pen-refl : (a b : Pen) → a ≡ b → not (same_pen a b) ≡ false
same_pen-refl a b e = ap (λ c. not (same_pen a c)) (sym e) ∙ ap not (pen-itself a)

pub none_under_one : (edges : Edges) (r : ℕ) → just_one (is_last edges r) (is_last edges r) ≡ false
none_under_one edges r = grind (arith, nat_tests)

-- ---- a cell that is put

or_false_of : (b : Bool) → (b || false) ≡ b
or_false_of true = refl
or_false_of false = refl

-- it alters its row alone, where the edges stay
pub is_altered-put : (p : Page) (place : Place) (cell : Cell) (edges : Edges) (r : ℕ) → 1 ≤ r → r ≤ 24
    → is_altered (strokes.Put place cell ∷ []) (pens_of p) edges
    (pens_of (page_after p (strokes.Put place cell ∷ []))) edges r
    ≡ (place.row == r)
unfolding is_altered is_written row_before has_others part_after_all
is_altered-put p place cell edges r low high =
    let xs : List Stroke = strokes.Put place cell ∷ [] in
    let pen : row_pen_in p.row_pens r ≡ row_pen_in (page_after p xs).row_pens r =
    sym (entry-list_by_index unset_pen 1 24 (row_pen_after (strokes.Put place cell) (row_pen_in p.row_pens)) r low
    (omega (arith, high))) in
    let row : not (same_pen (row_pen_in p.row_pens r) (row_pen_in (page_after p xs).row_pens r)) ≡ false =
    same_pen-refl (row_pen_in p.row_pens r) (row_pen_in (page_after p xs).row_pens r) pen in
    let screen : not (same_pen p.screen_pen (page_after p xs).screen_pen) ≡ false =
    same_pen-refl p.screen_pen (page_after p xs).screen_pen refl in
    (λ i. (((place.row == r) || false) || false) || (row i || screen i || none_under_one edges r i))
    ∙ or_false_of (((place.row == r) || false) || false)
    ∙ or_false_of ((place.row == r) || false) ∙ or_false_of (place.row == r)

pub altered-put : (p q : Page) (xs : List Stroke) (place : Place) (cell : Cell) (before after : Edges)
    (flags : List Bool) (row : ℕ) → xs ≡ strokes.Put place cell ∷ [] → q ≡ page_after p xs → before ≡ after
    → flags ≡ list_by_index 1 24 (λ r. row == r) → row ≡ place.row
    → flags ≡ list_by_index 1 24 (is_altered xs (pens_of p) before (pens_of q) after)
altered-put p q xs place cell before after flags row only drawn same made here =
    let back : after ≡ before = sym same in
    made ∙ same_indexed 1 24 (λ r. row == r) (is_altered xs (pens_of p) before (pens_of q) after) (λ r low high.
    ap (λ n. n == r) here ∙ sym (is_altered-put p place cell before r low (omega (arith, high)))
    ∙ sym ((λ i. is_altered (only i) (pens_of p) before (pens_of (drawn i)) (back i) r)
    ∙ ap (λ (l : List Stroke). is_altered (strokes.Put place cell ∷ []) (pens_of p) before (pens_of (page_after p l)) before r)
    only))

-- ---- strokes that just write

-- such a stroke moves no row, defines nothing, and sets no attribute of a row or of the screen
record IsJustWriting (x : Stroke) : Type 0 where
  moved : moved_rows x ≡ None
  defined : defines x ≡ false
  pens : (was : ℕ → Pen) (r : ℕ) → row_pen_after x was r ≡ was r
  screen : (was : Pen) → screen_pen_after was x ≡ was

IsJustWriting-at : (x : Stroke) → does_more x ≡ false → IsJustWriting x
IsJustWriting-at (strokes.Put place cell) just = record {
  moved = refl;
  defined = refl;
  pens = λ was r. refl;
  screen = λ was. refl;
}
IsJustWriting-at (strokes.Erase row from) just = record {
  moved = refl;
  defined = refl;
  pens = λ was r. refl;
  screen = λ was. refl;
}
IsJustWriting-at strokes.Wipe just = absurd (true≢false just)
IsJustWriting-at (strokes.Shift first last way) just = absurd (true≢false just)
IsJustWriting-at (strokes.Carry first last way) just = absurd (true≢false just)
IsJustWriting-at (strokes.RowAttr row attr) just = absurd (true≢false just)
IsJustWriting-at (strokes.ScreenAttr attr) just = absurd (true≢false just)
IsJustWriting-at strokes.ScreenClear just = absurd (true≢false just)
IsJustWriting-at (strokes.Colour i paint) just = absurd (true≢false just)
IsJustWriting-at (strokes.Dclut j v) just = absurd (true≢false just)
IsJustWriting-at strokes.ColourDefaults just = absurd (true≢false just)
IsJustWriting-at (strokes.Drcs code pattern) just = absurd (true≢false just)
IsJustWriting-at strokes.DrcsClear just = absurd (true≢false just)
IsJustWriting-at (strokes.Format rows) just = absurd (true≢false just)

came_of-written : (xs : List Stroke) → list_any does_more xs ≡ false → (r : ℕ) → row_before xs r ≡ Some r
unfolding row_before
came_of-written [] just r = refl
came_of-written (x ∷ xs) just r =
    let parts = or_parts (does_more x) (list_any does_more xs) just in
    ap (option_and_then (row_before_move (moved_rows x))) (came_of-written xs parts.1 r)
    ∙ ap (λ moved. row_before_move moved r) (IsJustWriting-at x parts.0).moved

none_defined : (xs : List Stroke) → list_any does_more xs ≡ false → list_any defines xs ≡ false
none_defined [] just = refl
none_defined (x ∷ xs) just =
    let parts = or_parts (does_more x) (list_any does_more xs) just in
    or_from (defines x) (list_any defines xs) (IsJustWriting-at x parts.0).defined (none_defined xs parts.1)

pens-written : (pens : List Pen) (xs : List Stroke) → list_any does_more xs ≡ false → (r : ℕ) → 1 ≤ r → r ≤ 24
    → row_pen_in (part_after_all row_pens_after pens xs) r ≡ row_pen_in pens r
unfolding part_after_all
pens-written pens [] just r low high = refl
pens-written pens (x ∷ xs) just r low high =
    let parts = or_parts (does_more x) (list_any does_more xs) just in
    pens-written (row_pens_after pens x) xs parts.1 r low high
    ∙ entry-list_by_index unset_pen 1 24 (row_pen_after x (row_pen_in pens)) r low (omega (arith, high))
    ∙ (IsJustWriting-at x parts.0).pens (row_pen_in pens) r

screen-written : (pen : Pen) (xs : List Stroke) → list_any does_more xs ≡ false
    → part_after_all screen_pen_after pen xs ≡ pen
unfolding part_after_all
screen-written pen [] just = refl
screen-written pen (x ∷ xs) just =
    let parts = or_parts (does_more x) (list_any does_more xs) just in
    screen-written (screen_pen_after pen x) xs parts.1 ∙ (IsJustWriting-at x parts.0).screen pen

-- where the edges stay they alter just the rows in which they write
is_altered-written : (p : Page) (xs : List Stroke) (edges : Edges) → list_any does_more xs ≡ false → (r : ℕ) → 1 ≤ r → r ≤ 24
    → is_altered xs (pens_of p) edges (pens_of (page_after p xs)) edges r ≡ is_written xs r
unfolding is_altered has_others
is_altered-written p xs edges just r low high =
    let row : not (same_pen (row_pen_in p.row_pens r) (row_pen_in (page_after p xs).row_pens r)) ≡ false =
    same_pen-refl (row_pen_in p.row_pens r) (row_pen_in (page_after p xs).row_pens r)
    (sym (pens-written p.row_pens xs just r low high)) in
    let screen : not (same_pen p.screen_pen (page_after p xs).screen_pen) ≡ false =
    same_pen-refl p.screen_pen (page_after p xs).screen_pen (sym (screen-written p.screen_pen xs just)) in
    ap (λ found. is_altered_from (is_written xs r) (list_any defines xs) (pens_of p) edges (pens_of (page_after p xs))
    edges found r) (came_of-written xs just r)
    ∙ (λ i. (is_written xs r || none_defined xs just i) || (row i || screen i || none_under_one edges r i))
    ∙ or_false_of (is_written xs r || false) ∙ or_false_of (is_written xs r)

pub altered-written : (p q : Page) (xs : List Stroke) (before after : Edges) (rows : List Followed) (flags : List Bool)
    → before ≡ after → list_any does_more xs ≡ false → q ≡ page_after p xs → rows ≡ list_by_index 1 24 (followed xs)
    → flags ≡ list_by_index 1 24 (λ r. (entry freed 1 rows r).written)
    → flags ≡ list_by_index 1 24 (is_altered xs (pens_of p) before (pens_of q) after)
altered-written p q xs before after rows flags same just drawn are e =
    e ∙ same_indexed 1 24 (λ r. (entry freed 1 rows r).written)
    (is_altered xs (pens_of p) before (pens_of q) after) (λ r low high.
    (λ i. (entry freed 1 (are i) r).written)
    ∙ ap (λ (f : Followed). f.written) (entry-list_by_index freed 1 24 (followed xs) r low (omega (arith, high)))
    ∙ sym (is_altered-written p xs before just r low (omega (arith, high)))
    ∙ (λ i. is_altered xs (pens_of p) before (pens_of (sym drawn i)) (same i) r))

-- ---- the same attributes

option-same : {X : Type 0} (eq : X → X → Bool) → ((x y : X) → eq x y ≡ true → x ≡ y) → (a b : Option X)
    → option_eq eq a b ≡ true → a ≡ b
option-same eq one None None same = refl
option-same eq one None (Some y) same = absurd (cc)
option-same eq one (Some x) None same = absurd (cc)
option-same eq one (Some x) (Some y) same = ap Some (one x y same)

flag-same : (a b : Bool) → beq a b ≡ true → a ≡ b
flag-same a b same = search rules

flash-same : (a b : Flash) → same_flash a b ≡ true → a ≡ b
flash-same a b same = search rules

size-same : (a b : Size) → same_size a b ≡ true → a ≡ b
size-same a b same = search rules

-- pens that compare as equal are the same
pub pen-same : (a b : Pen) → not (same_pen a b) ≡ false → a ≡ b
pen-same a b none =
    let same : same_pen a b ≡ true = not-false (same_pen a b) none in
    let f = and_parts (option_eq (◌==◌) a.fore b.fore) _ same in
    let g = and_parts (option_eq (◌==◌) a.back b.back) _ f.1 in
    let h = and_parts (option_eq same_flash a.flash b.flash) _ g.1 in
    let j = and_parts (option_eq beq a.conceal b.conceal) _ h.1 in
    let k = and_parts (option_eq beq a.lined b.lined) _ j.1 in
    let l = and_parts (option_eq beq a.boxed b.boxed) _ k.1 in
    let m = and_parts (option_eq same_size a.size b.size) _ l.1 in
    λ i. record {
      fore = option-same (◌==◌) eqb-true a.fore b.fore f.0 i;
      back = option-same (◌==◌) eqb-true a.back b.back g.0 i;
      flash = option-same same_flash flash-same a.flash b.flash h.0 i;
      conceal = option-same beq flag-same a.conceal b.conceal j.0 i;
      lined = option-same beq flag-same a.lined b.lined k.0 i;
      boxed = option-same beq flag-same a.boxed b.boxed l.0 i;
      size = option-same same_size size-same a.size b.size m.0 i;
      invert = option-same beq flag-same a.invert b.invert m.1 i;
    }

-- the flags of altered rows, by the attributes that the page had
pub altered-pens : (xs : List Stroke) (was : Pens) (p q : Page) (before after : Edges) (flags : List Bool)
    → flags ≡ list_by_index 1 24 (is_altered xs was before (pens_of q) after) → was ≡ pens_of p
    → flags ≡ list_by_index 1 24 (is_altered xs (pens_of p) before (pens_of q) after)
altered-pens xs was p q before after flags e pens =
    e ∙ ap (λ (w : Pens). list_by_index 1 24 (is_altered xs w before (pens_of q) after)) pens
