-- The strokes of a written page make each part of the page what it is in the core: colours, DCLUT, patterns and
-- attributes.
use Rattle.std.proofs.Common.{◌≡◌, ℕ, zero, suc, ◌+◌, ◌≤◌, ◌<◌, Bool, true, false, cond, eqb, Option, None, Some}
use Rattle.std.proofs.Common.{List, [], ◌∷◌, map, refl, sym, ap, ◌∙◌, inl, inr, arith}
use Rattle.std.specs.Prelude.{IsTrue, ◌↔◌}
use Rattle.std.proofs.lemmas.Bool.Decides.{nat_tests}
use Rattle.cept_codes.specs.declared.attribute.Attr.{Attr}
use Rattle.cept_codes.specs.declared.attribute.Pen.{Pen}
use Rattle.cept_codes.specs.declared.look.Paint.{Paint}
use Rattle.cept_codes.specs.declared.look.Paint.TheVariants as paints
use Rattle.cept_codes.specs.declared.look.Pattern.{Pattern}
use Rattle.cept_codes.specs.declared.stroke.Stroke.{Stroke}
use Rattle.cept_codes.specs.declared.stroke.Stroke.TheVariants as strokes
use Rattle.cept_codes.specs.Attribute.{unset_pen}
use Rattle.cept_codes.specs.Same.{same_paint}
use Rattle.cept_codes.specs.Stroke.{IsPaintOf}
use Rattle.cept_profile.specs.Colours.{default_paint, default_paints}
use Rattle.cept_profile.specs.PageParts.{left_by, paint_after, paint_in, dclut_after, dclut_in, pattern_after, pattern_in}
use Rattle.cept_profile.specs.PageParts.{row_pen_after, row_pen_in, screen_pen_after}
use Rattle.cept_profile.specs.Pens.{pen_with}
use Rattle.cept_writer.specs.AttributeCommands.{attributes_of, pen_with_all}
use Rattle.cept_writer.specs.PageCommands.{is_default_dclut}
use Rattle.cept_writer.proofs.PageDrawn.{dclut_strokes, entries_strokes, entry_strokes, pattern_strokes, patterns_strokes}
use Rattle.cept_writer.proofs.PageDrawn.{row_strokes_of, rows_strokes, screen_strokes}
use Rattle.cept_writer.proofs.PenAttributes.{attributes-all}
use Rattle.cept_writer.proofs.StrokesByPart.{AllOf, IsKeptByOthers, IsWritten, KeepsValue, all_range, kind_of, only_one}
use Rattle.cept_writer.proofs.StrokesByPart.{value_after}
use Rattle.cept_writer.proofs.StrokesByPart.Kind.{Colours, Names, Patterns, Rows, Screen}

-- ---- colour entries

-- the paint of the colour entry i after the strokes, the last first
abbrev pub paint_back : List Stroke → ℕ → Paint
paint_back strokes = left_by paint_after default_paint strokes

abbrev pub paint_step : ℕ → Stroke → Paint → Paint
paint_step i s x = paint_after s (λ _. x) i

pub paint_more : (i : ℕ) (s : Stroke) (earlier : List Stroke)
    → paint_back (s ∷ earlier) i ≡ paint_step i s (paint_back earlier i)
paint_more i (strokes.Colour j paint) earlier = refl
paint_more i strokes.ColourDefaults earlier = refl
paint_more i _ earlier = refl

pub paint_left : (i : ℕ) → IsKeptByOthers (paint_step i) Colours
paint_left i (strokes.Colour j paint) x own reset other = elim (own refl) [ ]
paint_left i strokes.ColourDefaults x own reset other = elim (reset refl) [ ]
paint_left i _ x own reset other = refl

pub entries_colour : (defined : List Paint) (n : ℕ) → AllOf Colours (entries_strokes defined n)
unfolding entries_strokes
entries_colour defined n =
    all_range (λ s. kind_of s ≡ Colours) (λ i. entry_strokes i (paint_in defined i)) 0 n
    (λ j low high. each j (paint_in defined j)) 0 n (omega arith) (omega arith) where
      by_test : (j : ℕ) (paint : Paint) (same : Bool) → AllOf Colours (cond same [] (strokes.Colour j paint ∷ []))
      by_test j paint true = tt
      by_test j paint false = (refl, tt)

      each : (j : ℕ) (paint : Paint) → AllOf Colours (entry_strokes j paint)
      each j paints.Video = tt
      each j (paints.Ink c) = by_test j (paints.Ink c) (same_paint (paints.Ink c) (default_paint j))

-- a stroke of another entry
entry_passed : (i j : ℕ) (paint : Paint) → (j ≡ i → ⊥) → KeepsValue (paint_step i) (entry_strokes j paint)
entry_passed i j paints.Video apart x = refl
entry_passed i j (paints.Ink c) apart x = by_test (same_paint (paints.Ink c) (default_paint j)) where
  by_test : (same : Bool) → value_after (paint_step i) x (cond same [] (strokes.Colour j (paints.Ink c) ∷ [])) ≡ x
  by_test true = refl
  by_test false =
      let no : eqb j i ≡ false = grind (arith, nat_tests) in
      ap (λ (t : Bool). cond t (paints.Ink c) x) no

-- only the two entries that show the picture behind by default may show it
video_default : (i : ℕ) → IsPaintOf i paints.Video → default_paint i ≡ paints.Video
unfolding default_paints
video_default i (inl e) = ap default_paint e
video_default i (inr e) = ap default_paint e

entry_made : ((a b : Paint) → IsTrue (same_paint a b) ↔ (a ≡ b)) → (i : ℕ) (paint : Paint) → IsPaintOf i paint
    → value_after (paint_step i) (default_paint i) (entry_strokes i paint) ≡ paint
entry_made decides i paints.Video is = video_default i is
entry_made decides i (paints.Ink c) is = by_test (same_paint (paints.Ink c) (default_paint i)) refl where
  by_test : (same : Bool) → same_paint (paints.Ink c) (default_paint i) ≡ same
      → value_after (paint_step i) (default_paint i) (cond same [] (strokes.Colour i (paints.Ink c) ∷ [])) ≡ paints.Ink c
  by_test true e = sym ((decides (paints.Ink c) (default_paint i)).0 e)
  by_test false e =
      let yes : eqb i i ≡ true = grind (arith, nat_tests) in
      ap (λ (t : Bool). cond t (paints.Ink c) (default_paint i)) yes

pub entries_made : ((a b : Paint) → IsTrue (same_paint a b) ↔ (a ≡ b)) → (defined : List Paint) (i : ℕ) → i < 32
    → IsPaintOf i (paint_in defined i)
    → value_after (paint_step i) (default_paint i) (entries_strokes defined 32) ≡ paint_in defined i
unfolding entries_strokes
entries_made decides defined i below is =
    only_one (paint_step i) (λ j. entry_strokes j (paint_in defined j)) i
    (λ j apart. entry_passed i j (paint_in defined j) apart) (default_paint i) 0 32 (omega arith) (omega (arith, below))
    ∙ entry_made decides i (paint_in defined i) is

-- ---- the DCLUT

abbrev pub dclut_back : List Stroke → ℕ → ℕ
dclut_back strokes = left_by dclut_after (λ i. i) strokes

abbrev pub dclut_step : ℕ → Stroke → ℕ → ℕ
dclut_step i s x = dclut_after s (λ _. x) i

pub dclut_more : (i : ℕ) (s : Stroke) (earlier : List Stroke)
    → dclut_back (s ∷ earlier) i ≡ dclut_step i s (dclut_back earlier i)
dclut_more i (strokes.Dclut j v) earlier = refl
dclut_more i strokes.ColourDefaults earlier = refl
dclut_more i _ earlier = refl

pub dclut_left : (i : ℕ) → IsKeptByOthers (dclut_step i) Names
dclut_left i (strokes.Dclut j v) x own reset other = elim (own refl) [ ]
dclut_left i strokes.ColourDefaults x own reset other = elim (reset refl) [ ]
dclut_left i _ x own reset other = refl

-- the strokes of a DCLUT that isn't the default
abbrev all_names_of : List ℕ → List Stroke
all_names_of dclut =
    strokes.Dclut 0 (dclut_in dclut 0) ∷ strokes.Dclut 1 (dclut_in dclut 1) ∷ strokes.Dclut 2 (dclut_in dclut 2)
    ∷ strokes.Dclut 3 (dclut_in dclut 3) ∷ []

pub dclut_names : (dclut : List ℕ) → AllOf Names (dclut_strokes dclut)
dclut_names dclut = by_test (is_default_dclut dclut) where
  by_test : (same : Bool) → AllOf Names (cond same [] (all_names_of dclut))
  by_test true = tt
  by_test false = (refl, (refl, (refl, (refl, tt))))

-- each of the four
names_made : (dclut : List ℕ) (i : ℕ) → i < 4 → value_after (dclut_step i) i (all_names_of dclut) ≡ dclut_in dclut i
names_made dclut zero below = refl
names_made dclut (suc zero) below = refl
names_made dclut (suc (suc zero)) below = refl
names_made dclut (suc (suc (suc zero))) below = refl
names_made dclut (suc (suc (suc (suc i)))) below = absurd (omega (arith, below))

-- where all are defaults
default_names : (dclut : List ℕ) (i : ℕ) → i < 4 → is_default_dclut dclut ≡ true → i ≡ dclut_in dclut i
default_names dclut zero below e = grind (arith, nat_tests)
default_names dclut (suc zero) below e = grind (arith, nat_tests)
default_names dclut (suc (suc zero)) below e = grind (arith, nat_tests)
default_names dclut (suc (suc (suc zero))) below e = grind (arith, nat_tests)
default_names dclut (suc (suc (suc (suc i)))) below e = absurd (omega (arith, below))

pub dclut_made : (dclut : List ℕ) (i : ℕ) → i < 4 → value_after (dclut_step i) i (dclut_strokes dclut) ≡ dclut_in dclut i
dclut_made dclut i below = by_test (is_default_dclut dclut) refl where
  by_test : (same : Bool) → is_default_dclut dclut ≡ same
      → value_after (dclut_step i) i (cond same [] (all_names_of dclut)) ≡ dclut_in dclut i
  by_test true e = default_names dclut i below e
  by_test false e = names_made dclut i below

-- ---- patterns

abbrev pub pattern_back : List Stroke → ℕ → Option Pattern
pattern_back strokes = left_by pattern_after (λ d. None) strokes

abbrev pub pattern_step : ℕ → Stroke → Option Pattern → Option Pattern
pattern_step d s x = pattern_after s (λ _. x) d

pub pattern_more : (d : ℕ) (s : Stroke) (earlier : List Stroke)
    → pattern_back (s ∷ earlier) d ≡ pattern_step d s (pattern_back earlier d)
pattern_more d (strokes.Drcs code pattern) earlier = refl
pattern_more d strokes.DrcsClear earlier = refl
pattern_more d _ earlier = refl

pub pattern_left : (d : ℕ) → IsKeptByOthers (pattern_step d) Patterns
pattern_left d (strokes.Drcs code pattern) x own reset other = elim (own refl) [ ]
pattern_left d strokes.DrcsClear x own reset other = elim (reset refl) [ ]
pattern_left d _ x own reset other = refl

pub patterns_pattern : (patterns : List (Option Pattern)) (n : ℕ) → AllOf Patterns (patterns_strokes patterns n)
unfolding patterns_strokes
patterns_pattern patterns n =
    all_range (λ s. kind_of s ≡ Patterns) (λ d. pattern_strokes d (pattern_in patterns d)) 0 (0x21 + n)
    (λ j low high. each j (pattern_in patterns j)) 0x21 n (omega arith) (omega arith) where
      each : (d : ℕ) (o : Option Pattern) → AllOf Patterns (pattern_strokes d o)
      each d None = tt
      each d (Some p) = (refl, tt)

pattern_passed : (d j : ℕ) (o : Option Pattern) → (j ≡ d → ⊥) → KeepsValue (pattern_step d) (pattern_strokes j o)
pattern_passed d j None apart x = refl
pattern_passed d j (Some p) apart x =
    let no : eqb j d ≡ false = grind (arith, nat_tests) in
    ap (λ (t : Bool). cond t (Some p) x) no

pattern_made : (d : ℕ) (o : Option Pattern) → value_after (pattern_step d) None (pattern_strokes d o) ≡ o
pattern_made d None = refl
pattern_made d (Some p) =
    let yes : eqb d d ≡ true = grind (arith, nat_tests) in
    ap (λ (t : Bool). let o : Option Pattern = cond t (Some p) None in o) yes

pub patterns_made : (patterns : List (Option Pattern)) (d : ℕ) → 0x21 ≤ d → d < 0x21 + 94
    → value_after (pattern_step d) None (patterns_strokes patterns 94) ≡ pattern_in patterns d
unfolding patterns_strokes
patterns_made patterns d low high =
    only_one (pattern_step d) (λ j. pattern_strokes j (pattern_in patterns j)) d
    (λ j apart. pattern_passed d j (pattern_in patterns j) apart) None 0x21 94 low high
    ∙ pattern_made d (pattern_in patterns d)

-- ---- attributes

abbrev pub screen_pen_back : List Stroke → Pen
screen_pen_back strokes = left_by (λ stroke was. screen_pen_after was stroke) unset_pen strokes

abbrev pub screen_step : Stroke → Pen → Pen
screen_step s x = screen_pen_after x s

pub screen_more : (s : Stroke) (earlier : List Stroke)
    → screen_pen_back (s ∷ earlier) ≡ screen_step s (screen_pen_back earlier)
screen_more s earlier = refl

pub screen_left : IsKeptByOthers screen_step Screen
screen_left (strokes.ScreenAttr attr) x own reset other = elim (own refl) [ ]
screen_left strokes.ScreenClear x own reset other = elim (reset refl) [ ]
screen_left _ x own reset other = refl

pub screen_attributes : (list : List Attr) → AllOf Screen (map (λ attr. strokes.ScreenAttr attr) list)
screen_attributes [] = tt
screen_attributes (attr ∷ list) = (refl, screen_attributes list)

screen_folded : (list : List Attr) (x : Pen)
    → value_after screen_step x (map (λ attr. strokes.ScreenAttr attr) list) ≡ pen_with_all list x
screen_folded [] x = refl
screen_folded (attr ∷ list) x = screen_folded list (pen_with attr x)

pub screen_made : (pen : Pen) → value_after screen_step unset_pen (screen_strokes pen) ≡ pen
screen_made pen = screen_folded (attributes_of pen) unset_pen ∙ attributes-all pen

abbrev pub row_pen_back : List Stroke → ℕ → Pen
row_pen_back strokes = left_by row_pen_after (λ r. unset_pen) strokes

abbrev pub row_step : ℕ → Stroke → Pen → Pen
row_step r s x = row_pen_after s (λ _. x) r

pub row_more : (r : ℕ) (s : Stroke) (earlier : List Stroke) → IsWritten s
    → row_pen_back (s ∷ earlier) r ≡ row_step r s (row_pen_back earlier r)
row_more r strokes.Wipe earlier written = refl
row_more r (strokes.Carry first last way) earlier written = elim (written refl) [ ]
row_more r _ earlier written = refl

pub row_left : (r : ℕ) → IsKeptByOthers (row_step r) Rows
row_left r (strokes.RowAttr row attr) x own reset other = elim (own refl) [ ]
row_left r strokes.Wipe x own reset other = elim (reset refl) [ ]
row_left r (strokes.Carry first last way) x own reset other = elim (other refl) [ ]
row_left r _ x own reset other = refl

row_attributes : (r : ℕ) (list : List Attr) → AllOf Rows (map (λ attr. strokes.RowAttr r attr) list)
row_attributes r [] = tt
row_attributes r (attr ∷ list) = (refl, row_attributes r list)

pub rows_row : (pens : List Pen) (n : ℕ) → AllOf Rows (rows_strokes pens n)
unfolding rows_strokes
rows_row pens n =
    all_range (λ s. kind_of s ≡ Rows) (λ r. row_strokes_of r (row_pen_in pens r)) 0 (1 + n)
    (λ j low high. row_attributes j (attributes_of (row_pen_in pens j))) 1 n (omega arith) (omega arith)

row_passed : (r j : ℕ) (list : List Attr) → (j ≡ r → ⊥) → KeepsValue (row_step r) (map (λ attr. strokes.RowAttr j attr) list)
row_passed r j [] apart x = refl
row_passed r j (attr ∷ list) apart x =
    let no : eqb j r ≡ false = grind (arith, nat_tests) in
    ap (λ (t : Bool). value_after (row_step r) (cond t (pen_with attr x) x) (map (λ a. strokes.RowAttr j a) list)) no
    ∙ row_passed r j list apart x

row_folded : (r : ℕ) (list : List Attr) (x : Pen)
    → value_after (row_step r) x (map (λ attr. strokes.RowAttr r attr) list) ≡ pen_with_all list x
row_folded r [] x = refl
row_folded r (attr ∷ list) x =
    let yes : eqb r r ≡ true = grind (arith, nat_tests) in
    ap (λ (t : Bool). value_after (row_step r) (cond t (pen_with attr x) x) (map (λ a. strokes.RowAttr r a) list)) yes
    ∙ row_folded r list (pen_with attr x)

pub rows_made : (pens : List Pen) (r : ℕ) → 1 ≤ r → r < 1 + 24
    → value_after (row_step r) unset_pen (rows_strokes pens 24) ≡ row_pen_in pens r
unfolding rows_strokes
rows_made pens r low high =
    only_one (row_step r) (λ j. row_strokes_of j (row_pen_in pens j)) r
    (λ j apart. row_passed r j (attributes_of (row_pen_in pens j)) apart) unset_pen 1 24 low high
    ∙ row_folded r (attributes_of (row_pen_in pens r)) unset_pen ∙ attributes-all (row_pen_in pens r)
