-- The parts of the page beside its cells: by looking back each is what one stroke after the other makes of it.
use Rattle.std.proofs.Common.{◌≡◌, ℕ, ◌≤◌, cond, eqb, None, List, [], ◌∷◌, ◌++◌}
use Rattle.std.proofs.Common.{Option, Some, reverse, refl, sym, ◌∙◌, ap, append_assoc, arith}
use Rattle.std.specs.List.{AllByRecursion}
use Rattle.std.proofs.lemmas.List.{reverse-append}
use Rattle.cept_codes.specs.declared.attribute.Pen.{Pen}
use Rattle.cept_codes.specs.declared.look.Paint.{Paint}
use Rattle.cept_codes.specs.declared.look.Pattern.{Pattern}
use Rattle.cept_codes.specs.declared.stroke.Stroke.{Stroke}
use Rattle.cept_codes.specs.declared.stroke.Stroke.TheVariants as strokes
use Rattle.cept_codes.specs.Attribute.{unset_pen}
use Rattle.cept_codes.specs.Look.{black_paint}
use Rattle.cept_codes.specs.Stroke.{IsRow, IsValidStroke}
use Rattle.cept_codes.proofs.Laws.{entry-list_by_index, same_indexed}
use Rattle.cept_profile.specs.Colours.{default_paint}
use Rattle.cept_profile.specs.PageParts.{left_by, row_pen_after, screen_pen_after, paint_after, dclut_after, pattern_after}
use Rattle.cept_profile.specs.PageParts.{list_of_rows, list_of_colours, list_of_dclut, list_of_codes, part_after_all}
use Rattle.cept_profile.specs.PageParts.{row_pen_in, paint_in, dclut_in, pattern_in, row_pens_after, paints_after}
use Rattle.cept_profile.specs.PageParts.{dclut_list_after, patterns_after}
use Rattle.cept_profile.specs.MovedRows.{moved_rows, row_before_move}
use Rattle.cept_profile.proofs.CarriedRows.{pen_of_row, row_pen_after-from}
use Rattle.cept_profile.specs.Pens.{pen_with}
use Rattle.cept_profile.proofs.RowsMoved.{row_before_one-on}

-- ---- the parts that strokes leave

-- the attributes of row r after the strokes, the last first
abbrev pub row_pen_back : List Stroke → ℕ → Pen
row_pen_back strokes = left_by row_pen_after (λ r. unset_pen) strokes

-- those of the screen
abbrev pub screen_pen_back : List Stroke → Pen
screen_pen_back strokes = left_by (λ stroke was. screen_pen_after was stroke) unset_pen strokes

-- the paint of the colour entry i
abbrev pub paint_back : List Stroke → ℕ → Paint
paint_back strokes = left_by paint_after default_paint strokes

-- the DCLUT entry i
abbrev pub dclut_back : List Stroke → ℕ → ℕ
dclut_back strokes = left_by dclut_after (λ i. i) strokes

-- the pattern of a code
abbrev pub pattern_back : List Stroke → ℕ → Option Pattern
pattern_back strokes = left_by pattern_after (λ d. None) strokes

-- ---- what a stroke makes of an entry comes from that entry

pen_of_row-same : (row : Option ℕ) (was other : ℕ → Pen) → ((q : ℕ) → row ≡ Some q → was q ≡ other q)
    → pen_of_row row was ≡ pen_of_row row other
pen_of_row-same None was other same = refl
pen_of_row-same (Some q) was other same = same q refl

-- of the attributes of a row from those of the rows of the screen
row_pen_after-same : (stroke : Stroke) (was other : ℕ → Pen) → IsValidStroke stroke
    → ((q : ℕ) → 1 ≤ q → q ≤ 24 → was q ≡ other q) → (r : ℕ) → 1 ≤ r → r ≤ 24
    → row_pen_after stroke was r ≡ row_pen_after stroke other r
row_pen_after-same (strokes.RowAttr row attr) was other valid same r low high =
    ap (λ (p : Pen). cond (eqb row r) (pen_with attr p) p) (same r low high)
row_pen_after-same strokes.Wipe was other valid same r low high = refl
row_pen_after-same (strokes.Carry first last way) was other valid same r low high =
    row_pen_after-from first last r way was
    ∙ pen_of_row-same (row_before_move (moved_rows (strokes.Carry first last way)) r) was other (λ q is.
    let on : IsRow q = row_before_one-on (strokes.Carry first last way) r q valid low high is in same q on.0 on.1)
    ∙ sym (row_pen_after-from first last r way other)
row_pen_after-same _ was other valid same r low high = same r low high

paint_after-same : (stroke : Stroke) (was other : ℕ → Paint) (i : ℕ) → was i ≡ other i
    → paint_after stroke was i ≡ paint_after stroke other i
paint_after-same (strokes.Colour j paint) was other i same = ap (λ (p : Paint). cond (eqb j i) paint p) same
paint_after-same strokes.ColourDefaults was other i same = refl
paint_after-same _ was other i same = same

dclut_after-same : (stroke : Stroke) (was other : ℕ → ℕ) (i : ℕ) → was i ≡ other i
    → dclut_after stroke was i ≡ dclut_after stroke other i
dclut_after-same (strokes.Dclut j v) was other i same = ap (λ (entry : ℕ). cond (eqb j i) v entry) same
dclut_after-same strokes.ColourDefaults was other i same = refl
dclut_after-same _ was other i same = same

pattern_after-same : (stroke : Stroke) (was other : ℕ → Option Pattern) (d : ℕ) → was d ≡ other d
    → pattern_after stroke was d ≡ pattern_after stroke other d
pattern_after-same (strokes.Drcs code pattern) was other d same =
    ap (λ (p : Option Pattern). cond (eqb code d) (Some pattern) p) same
pattern_after-same strokes.DrcsClear was other d same = refl
pattern_after-same _ was other d same = same

-- ---- one more stroke, list by list

row_pens-more : (stroke : Stroke) (earlier : List Stroke) → IsValidStroke stroke
    → list_of_rows (row_pen_back (stroke ∷ earlier)) ≡ row_pens_after (list_of_rows (row_pen_back earlier)) stroke
row_pens-more stroke earlier valid =
    let was : ℕ → Pen = row_pen_in (list_of_rows (row_pen_back earlier)) in
    same_indexed 1 24 (row_pen_back (stroke ∷ earlier)) (row_pen_after stroke was) (λ r low high.
    row_pen_after-same stroke (row_pen_back earlier) was valid
    (λ q from to. sym (entry-list_by_index unset_pen 1 24 (row_pen_back earlier) q from (omega (arith, to)))) r low
    (omega (arith, high)))

paints-more : (stroke : Stroke) (earlier : List Stroke) → list_of_colours (paint_back (stroke ∷ earlier))
    ≡ paints_after (list_of_colours (paint_back earlier)) stroke
paints-more stroke earlier =
    let was : ℕ → Paint = paint_in (list_of_colours (paint_back earlier)) in
    same_indexed 0 32 (paint_back (stroke ∷ earlier)) (paint_after stroke was) (λ i low high.
    paint_after-same stroke (paint_back earlier) was i
    (sym (entry-list_by_index black_paint 0 32 (paint_back earlier) i low high)))

dclut-more : (stroke : Stroke) (earlier : List Stroke) → list_of_dclut (dclut_back (stroke ∷ earlier))
    ≡ dclut_list_after (list_of_dclut (dclut_back earlier)) stroke
dclut-more stroke earlier =
    let was : ℕ → ℕ = dclut_in (list_of_dclut (dclut_back earlier)) in
    same_indexed 0 4 (dclut_back (stroke ∷ earlier)) (dclut_after stroke was) (λ i low high.
    dclut_after-same stroke (dclut_back earlier) was i
    (sym (entry-list_by_index 0 0 4 (dclut_back earlier) i low high)))

patterns-more : (stroke : Stroke) (earlier : List Stroke) → list_of_codes (pattern_back (stroke ∷ earlier))
    ≡ patterns_after (list_of_codes (pattern_back earlier)) stroke
patterns-more stroke earlier =
    let was : ℕ → Option Pattern = pattern_in (list_of_codes (pattern_back earlier)) in
    same_indexed 0x21 94 (pattern_back (stroke ∷ earlier)) (pattern_after stroke was) (λ d low high.
    pattern_after-same stroke (pattern_back earlier) was d
    (sym (entry-list_by_index None 0x21 94 (pattern_back earlier) d low high)))

-- ---- several more strokes

-- a part that each valid stroke makes of what stood before it
valid_after_all : {X : Type 0} (after : X → Stroke → X) (part : List Stroke → X)
    → ((stroke : Stroke) (earlier : List Stroke) → IsValidStroke stroke
    → part (stroke ∷ earlier) ≡ after (part earlier) stroke)
    → (more earlier : List Stroke) → AllByRecursion IsValidStroke more
    → part (reverse more ++ earlier) ≡ part_after_all after (part earlier) more
unfolding part_after_all
valid_after_all after part step [] earlier valid = refl
valid_after_all after part step (stroke ∷ more) earlier valid =
    ap (λ (all : List Stroke). part (all ++ earlier)) (reverse-append (stroke ∷ []) more)
    ∙ ap part (append_assoc (reverse more) (stroke ∷ []) earlier)
    ∙ valid_after_all after part step more (stroke ∷ earlier) valid.1
    ∙ ap (λ x. part_after_all after x more) (step stroke earlier valid.0)

-- a part that each stroke makes of it
parts_after_all : {X : Type 0} (after : X → Stroke → X) (part : List Stroke → X)
    → ((stroke : Stroke) (earlier : List Stroke) → part (stroke ∷ earlier) ≡ after (part earlier) stroke)
    → (more earlier : List Stroke) → part (reverse more ++ earlier) ≡ part_after_all after (part earlier) more
unfolding part_after_all
parts_after_all after part step [] earlier = refl
parts_after_all after part step (stroke ∷ more) earlier =
    ap (λ (all : List Stroke). part (all ++ earlier)) (reverse-append (stroke ∷ []) more)
    ∙ ap part (append_assoc (reverse more) (stroke ∷ []) earlier)
    ∙ parts_after_all after part step more (stroke ∷ earlier)
    ∙ ap (λ x. part_after_all after x more) (step stroke earlier)

pub row_pens-after_all : (more earlier : List Stroke) → AllByRecursion IsValidStroke more
    → list_of_rows (row_pen_back (reverse more ++ earlier))
    ≡ part_after_all row_pens_after (list_of_rows (row_pen_back earlier)) more
row_pens-after_all = valid_after_all row_pens_after (λ all. list_of_rows (row_pen_back all)) row_pens-more

pub screen_pen-after_all : (more earlier : List Stroke) → screen_pen_back (reverse more ++ earlier)
    ≡ part_after_all screen_pen_after (screen_pen_back earlier) more
screen_pen-after_all = parts_after_all screen_pen_after screen_pen_back (λ stroke earlier. refl)

pub paints-after_all : (more earlier : List Stroke) → list_of_colours (paint_back (reverse more ++ earlier))
    ≡ part_after_all paints_after (list_of_colours (paint_back earlier)) more
paints-after_all = parts_after_all paints_after (λ all. list_of_colours (paint_back all)) paints-more

pub dclut-after_all : (more earlier : List Stroke) → list_of_dclut (dclut_back (reverse more ++ earlier))
    ≡ part_after_all dclut_list_after (list_of_dclut (dclut_back earlier)) more
dclut-after_all = parts_after_all dclut_list_after (λ all. list_of_dclut (dclut_back all)) dclut-more

pub patterns-after_all : (more earlier : List Stroke) → list_of_codes (pattern_back (reverse more ++ earlier))
    ≡ part_after_all patterns_after (list_of_codes (pattern_back earlier)) more
patterns-after_all = parts_after_all patterns_after (λ all. list_of_codes (pattern_back all)) patterns-more
