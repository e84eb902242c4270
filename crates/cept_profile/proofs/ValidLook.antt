-- Valid looks: those of a core with a valid page.
use Rattle.std.proofs.Common.{rules, rules}
use Rattle.std.proofs.Common.{◌≡◌, ℕ, ◌≤◌, ◌+◌, ◌-◌, Bool, true, false, not, cond, zero, suc, ◌&&◌, eqb, Option}
use Rattle.std.proofs.Common.{Some, None, List, [], ◌∷◌, ◌++◌, length, refl, ap, sym, subst, ◌∙◌, inl, inr, arith}
use Rattle.std.specs.Prelude.{replicate}
use Rattle.std.proofs.Math.Seq.{drop-append_seam}
use Rattle.std.proofs.lemmas.List.{length-append, length-replicate}
use Rattle.std.specs.List.{AllByRecursion}
use Rattle.std.specs.Prelude.{IfSome, nat_lt}
use Rattle.std.proofs.lemmas.Bool.{cases_lt, cond_both}
use Rattle.cept_codes.specs.declared.attribute.Full.{Full}
use Rattle.cept_codes.specs.declared.attribute.Pen.{Pen}
use Rattle.cept_codes.specs.declared.attribute.Size.{Size}
use Rattle.cept_codes.specs.declared.cell.What.{What}
use Rattle.cept_codes.specs.declared.cell.What.TheVariants as whats
use Rattle.cept_codes.specs.declared.command.Command.{Command}
use Rattle.cept_codes.specs.declared.glyph.Glyph.{Glyph}
use Rattle.cept_codes.specs.declared.glyph.SetId.{SetId}
use Rattle.cept_codes.specs.declared.glyph.SetId.TheVariants as sets
use Rattle.cept_codes.specs.declared.look.Pattern.{Pattern}
use Rattle.cept_codes.specs.declared.look.Look.{Look}
use Rattle.cept_codes.specs.declared.look.Part.{Part}
use Rattle.cept_codes.specs.declared.look.Paint.{Paint}
use Rattle.cept_codes.specs.declared.look.Paint.TheVariants as paints
use Rattle.cept_codes.specs.declared.look.Shape.TheVariants as shapes
use Rattle.cept_codes.specs.Attribute.{IsEntry, IsValidPen, IsValidFull, unset_pen}
use Rattle.cept_codes.specs.Cell.{IsValidWhat}
use Rattle.cept_codes.specs.Glyph.{IsCodeOf, IsValidGlyph}
use Rattle.cept_codes.specs.Look.{IsValidPaint, IsValidPart, IsValidShape, IsValidLook, black_paint, blank_look}
use Rattle.cept_codes.specs.Look.{IsValidInks, IsValidPattern, ink_count}
use Rattle.cept_codes.specs.Table.{list_by_index}
use Rattle.cept_codes.specs.Place.{OnScreen}
use Rattle.cept_codes.specs.Stroke.{IsPaintOf}
use Rattle.cept_codes.proofs.Laws.{entry_past, indexed_more, indexed_none, length-list_by_index, value_at-table, IsTable-table}
use Rattle.cept_profile.specs.Attributes.{first_value, cascade}
use Rattle.cept_profile.specs.Colours.{ink, paint_over}
use Rattle.cept_profile.specs.Look.{shape_of_sign, attributes_of, look_of, look, looks_of, grid}
use Rattle.cept_profile.specs.Look.{contents_of_row, look_in_row, own_look, own_size}
use Rattle.cept_profile.specs.Look.{part_of, shape_in, shape_in_set}
use Rattle.cept_profile.specs.Definitions.{Definitions, inks_of, inks_with}
use Rattle.cept_profile.specs.PageParts.{dclut_in, paint_in, pattern_in, row_pen_in}
use Rattle.cept_profile.specs.RowsFromAbove.{look_with_part, look_by, look_from, look_seen, looks_in, row_from_above}
use Rattle.cept_profile.specs.Serial.{held_sign, own_attributes}
use Rattle.cept_profile.specs.Tiling.{column_entry, covers_below, is_covered_from_left, is_high, is_wide, origin_part}
use Rattle.cept_profile.proofs.ColumnEntries.{column_entry-default, column_entry-row_of}
use Rattle.cept_profile.proofs.LooksFromAbove.{look-seen, looks_in-from_above}
use Rattle.cept_profile.proofs.MarkersInForce.{held_sign-valid}
use Rattle.cept_profile.specs.State.{Core, Page, core, definitions_of}
use Rattle.cept_profile.specs.Valid.{AllValid, AreValidDefinitions, IsValidPage, IsValidGrid}
use Rattle.cept_profile.proofs.ValidState.{IsValidState-state}
use Rattle.cept_profile.specs.Edges.{edges_of_core, is_last}

-- ---- attributes and paints

first_value-valid : (a b c : Option ℕ) (d : ℕ) → IfSome a IsEntry → IfSome b IsEntry → IfSome c IsEntry → IsEntry d
    → IsEntry (first_value a b c d)
first_value-valid (Some x) b c d va vb vc vd = va
first_value-valid None (Some x) c d va vb vc vd = vb
first_value-valid None None (Some x) d va vb vc vd = vc
first_value-valid None None None d va vb vc vd = vd

pub unset_pen-valid : IsValidPen unset_pen
unset_pen-valid = record { fore = tt; back = tt }

pub IsValidFull-cascade : (pen row screen : Pen) → IsValidPen pen → IsValidPen row → IsValidPen screen
    → IsValidFull (cascade pen row screen)
IsValidFull-cascade pen row screen is_pen is_row is_screen = search rules

IsValidPaint-ink : (r g b : ℕ) → r ≤ 15 → g ≤ 15 → b ≤ 15 → IsValidPaint (ink r g b)
IsValidPaint-ink r g b hr hg hb = record { r = hr; g = hg; b = hb }

IsValidPaint-black_paint : IsValidPaint black_paint
IsValidPaint-black_paint = record { r = omega arith; g = omega arith; b = omega arith }

IsValidPaint-paint_over : (fore back : Paint) → IsValidPaint fore → IsValidPaint back
    → IsValidPaint (paint_over fore back)
IsValidPaint-paint_over paints.Video back is_fore is_back = is_back
IsValidPaint-paint_over (paints.Ink c) back is_fore is_back = is_fore

-- ---- inks and shapes

AllByRecursion-append : (P : Paint → Type 0) (xs ys : List Paint) → AllByRecursion P xs → AllByRecursion P ys
    → AllByRecursion P (xs ++ ys)
AllByRecursion-append P [] ys all more = more
AllByRecursion-append P (x ∷ xs) ys all more = (all.0, AllByRecursion-append P xs ys all.1 more)

AllByRecursion-replicate : (P : Paint → Type 0) (x : Paint) → P x → (n : ℕ) → AllByRecursion P (replicate n x)
AllByRecursion-replicate P x is zero = tt
AllByRecursion-replicate P x is (suc n) = (is, AllByRecursion-replicate P x is n)

IsValidInks-with : (xs : List Paint) (planes : ℕ) → length xs ≡ ink_count planes → length xs ≤ 16
    → AllByRecursion IsValidPaint xs → IsValidInks (inks_with xs) planes
IsValidInks-with xs planes count few all =
    let others : List Paint = replicate (16 - length xs) black_paint in
    record {
      count = count;
      places =
          omega (arith, few, length-append xs others, length-replicate (16 - length xs) black_paint);
      paints = AllByRecursion-append IsValidPaint xs others all
          (AllByRecursion-replicate IsValidPaint black_paint IsValidPaint-black_paint (16 - length xs));
      unused = subst (AllByRecursion (λ (paint : Paint). paint ≡ black_paint)) (sym (drop-append_seam xs others))
          (AllByRecursion-replicate (λ (paint : Paint). paint ≡ black_paint) black_paint refl (16 - length xs));
    }

AllByRecursion-list_by_index : (f : ℕ → Paint) → ((i : ℕ) → IsValidPaint (f i)) → (from count : ℕ)
    → AllByRecursion IsValidPaint (list_by_index from count f)
AllByRecursion-list_by_index f valid from zero = subst (AllByRecursion IsValidPaint) (sym (indexed_none from f)) tt
AllByRecursion-list_by_index f valid from (suc n) =
    subst (AllByRecursion IsValidPaint)
    (indexed_more from n (from + n) f refl
    ∙ ap (λ (k : ℕ). list_by_index from k f) (omega arith))
    (AllByRecursion-append IsValidPaint (list_by_index from n f) (f (from + n) ∷ [])
    (AllByRecursion-list_by_index f valid from n) (valid (from + n), tt))

IsValidInks-by : (named upper : List Paint) (planes : ℕ) → length named ≡ 4 → length upper ≡ 16
    → AllByRecursion IsValidPaint named → AllByRecursion IsValidPaint upper → (one two : Bool) → eqb planes 1 ≡ one
    → eqb planes 2 ≡ two
    → IsValidInks (cond one (inks_with []) (cond two (inks_with named) (inks_with upper))) planes
IsValidInks-by named upper planes four sixteen vn vu true two first second =
    IsValidInks-with [] planes (sym (ap (λ (b : Bool). cond b 0 (cond (eqb planes 2) 4 16)) first)) (omega arith) tt
IsValidInks-by named upper planes four sixteen vn vu false true first second =
    IsValidInks-with named planes
    (four ∙ sym (ap (λ (b : Bool). cond b 0 (cond (eqb planes 2) 4 16)) first
    ∙ ap (λ (b : Bool). cond b 4 16) second)) (omega (arith, four)) vn
IsValidInks-by named upper planes four sixteen vn vu false false first second =
    IsValidInks-with upper planes
    (sixteen ∙ sym (ap (λ (b : Bool). cond b 0 (cond (eqb planes 2) 4 16)) first
    ∙ ap (λ (b : Bool). cond b 4 16) second)) (omega (arith, sixteen)) vu

IsValidInks-inks_of : (defined : Definitions) → AreValidDefinitions defined → (planes : ℕ)
    → IsValidInks (inks_of defined planes) planes
unfolding inks_of
IsValidInks-inks_of defined are planes =
    let named : ℕ → Paint = λ i. paint_in defined.paints (dclut_in defined.dclut i) in
    let upper : ℕ → Paint = paint_in defined.paints in
    IsValidInks-by (list_by_index 0 4 named) (list_by_index 16 16 upper) planes (length-list_by_index 0 4 named)
    (length-list_by_index 16 16 upper) (AllByRecursion-list_by_index named (λ i. are.paints (dclut_in defined.dclut i)) 0 4)
    (AllByRecursion-list_by_index upper are.paints 16 16) (eqb planes 1) (eqb planes 2) refl refl

IsValidShape-by_pattern : (defined : Definitions) → AreValidDefinitions defined → (g : Glyph) → IsValidGlyph g
    → (pattern : Option Pattern) → IfSome pattern IsValidPattern → IsValidShape (shape_in_set defined g sets.D pattern)
IsValidShape-by_pattern defined are g valid None is = valid
IsValidShape-by_pattern defined are g valid (Some p) is = (is, IsValidInks-inks_of defined are p.planes)

IsValidShape-in_set : (defined : Definitions) → AreValidDefinitions defined → (g : Glyph) → IsValidGlyph g
    → (set : SetId) → IsCodeOf set g.code → IsValidShape (shape_in_set defined g set (pattern_in defined.patterns g.code))
IsValidShape-in_set defined are g valid sets.D code =
    IsValidShape-by_pattern defined are g valid (pattern_in defined.patterns g.code)
    (are.patterns g.code (omega (arith, code)))
IsValidShape-in_set defined are g valid sets.P code = valid
IsValidShape-in_set defined are g valid sets.S code = valid
IsValidShape-in_set defined are g valid sets.M code = valid
IsValidShape-in_set defined are g valid sets.N code = valid

IsValidShape-sign : (defined : Definitions) → AreValidDefinitions defined → (g : Glyph) → IsValidGlyph g
    → IsValidShape (shape_of_sign defined g)
IsValidShape-sign defined are g valid =
    cond_both (eqb g.code 0x20 && eqb g.accent 0) shapes.Space
    (shape_in_set defined g g.set (pattern_in defined.patterns g.code)) IsValidShape (λ e. tt)
    (λ e. IsValidShape-in_set defined are g valid g.set valid.code)

IsValidShape-shape_in : (defined : Definitions) → AreValidDefinitions defined → (w : What) (held : Option Glyph)
    → IsValidWhat w → IfSome held IsValidGlyph → IsValidShape (shape_in defined w held)
IsValidShape-shape_in defined are (whats.Marker m) (Some g) valid held = IsValidShape-sign defined are g held
IsValidShape-shape_in defined are whats.Blank held valid is = tt
IsValidShape-shape_in defined are (whats.Serial g) held valid is = IsValidShape-sign defined are g valid
IsValidShape-shape_in defined are (whats.Parallel g pen) held valid is = IsValidShape-sign defined are g valid.0
IsValidShape-shape_in defined are (whats.Marker m) None valid is = tt

-- ---- looks

pub IsValidLook-look_of : (defined : Definitions) (row screen : Pen) (what : What) → AreValidDefinitions defined
    → IsValidWhat what → IsValidLook (look_of defined row screen what)
unfolding look_of
IsValidLook-look_of defined row screen what are valid =
    let paint_of : ℕ → Paint = paint_in defined.paints in
    let f : Full = attributes_of row screen what in
    record {
      shape = IsValidShape-shape_in defined are what None valid tt;
      part = record {
        down = omega arith;
        right = omega arith;
        wide = (omega arith, omega arith);
        high = (omega arith, omega arith);
      };
      fore = IsValidPaint-paint_over (paint_of (cond f.invert f.back f.fore)) (paint_of (cond f.invert f.fore f.back)) (are.paints _)
          (are.paints _);
      back = are.paints _;
    }

-- the look at a column of a row of valid cells
pub IsValidLook-look_in_row : (defined : Definitions) (row : ℕ → What) (pen screen : Pen) (c : ℕ) → 1 ≤ c
    → AreValidDefinitions defined → ((d : ℕ) → 1 ≤ d → d ≤ c → IsValidWhat (row d))
    → IsValidLook (look_in_row defined row pen screen c)
unfolding look_in_row
IsValidLook-look_in_row defined row pen screen c low are valid =
    let paint_of : ℕ → Paint = paint_in defined.paints in
    let f : Full = own_attributes row pen screen c in
    record {
      shape = IsValidShape-shape_in defined are (row c) (held_sign row c) (valid c low (omega arith))
          (held_sign-valid row c low valid);
      part = record {
        down = omega arith;
        right = omega arith;
        wide = (omega arith, omega arith);
        high = (omega arith, omega arith);
      };
      fore = IsValidPaint-paint_over (paint_of (cond f.invert f.back f.fore)) (paint_of (cond f.invert f.fore f.back)) (are.paints _)
          (are.paints _);
      back = are.paints _;
    }

-- ---- rows beneath valid looks

IsValidLook-with_part : (p : Part) (l : Look) → IsValidPart p → IsValidLook l → IsValidLook (look_with_part p l)
IsValidLook-with_part p l part valid =
    record { shape = valid.shape; part = part; fore = valid.fore; back = valid.back }

one_or_two : (b : Bool) → (1 ≤ cond b 2 1) × (cond b 2 1 ≤ 2)
one_or_two true = (omega arith, omega arith)
one_or_two false = (omega arith, omega arith)

IsValidLook-look_by : (a al ar l own : Look) (size : Size) (last : Bool) (c : ℕ) → IsValidLook a → IsValidLook l
    → IsValidLook own → IsValidLook (look_by a al ar l own size last c)
IsValidLook-look_by a al ar l own size last c above before here =
    let wide : Bool = is_wide size && nat_lt c 40 && not (covers_below (part_of ar)) in
    let high : Bool = is_high size && not last in
    let origin : IsValidPart (origin_part wide high) = search rules in
    cond_both (covers_below (part_of a)) (look_with_part (record (part_of a) { dy = 1 }) a)
    (cond (is_covered_from_left (part_of al) (part_of l)) (look_with_part (record (part_of l) { dy = 0; dx = 1 }) l)
    (look_with_part (origin_part wide high) own)) IsValidLook
    (λ _. IsValidLook-with_part (record (part_of a) { dy = 1 }) a (search rules) above)
    (λ _. cond_both (is_covered_from_left (part_of al) (part_of l))
    (look_with_part (record (part_of l) { dy = 0; dx = 1 }) l) (look_with_part (origin_part wide high) own) IsValidLook
    (λ _. IsValidLook-with_part (record (part_of l) { dy = 0; dx = 1 }) l (search rules) before)
    (λ _. IsValidLook-with_part (origin_part wide high) own origin here))

IsValidLook-blank_look : IsValidLook blank_look
IsValidLook-blank_look = search rules

IsValidLook-look_from : (above own : ℕ → Look) (wanted : ℕ → Size) (last : Bool)
    → ((c : ℕ) → 1 ≤ c → c ≤ 40 → IsValidLook (above c)) → ((c : ℕ) → 1 ≤ c → c ≤ 40 → IsValidLook (own c)) → (c : ℕ)
    → c ≤ 40 → IsValidLook (look_from above own wanted last c)
unfolding look_from
IsValidLook-look_from above own wanted last valid here zero high = IsValidLook-blank_look
IsValidLook-look_from above own wanted last valid here (suc c) high =
    IsValidLook-look_by (above (suc c)) (above c) (above (suc (suc c))) (look_from above own wanted last c)
    (own (suc c)) (wanted (suc c)) last (suc c) (valid (suc c) (omega arith) high)
    (IsValidLook-look_from above own wanted last valid here c (omega arith)) (here (suc c) (omega arith) high)

pub IsValidLook-row_from_above : (above : List Look) (own : ℕ → Look) (wanted : ℕ → Size) (last : Bool)
    → ((c : ℕ) → 1 ≤ c → c ≤ 40 → IsValidLook (column_entry blank_look above c))
    → ((c : ℕ) → 1 ≤ c → c ≤ 40 → IsValidLook (own c)) → (c : ℕ) → 1 ≤ c → c ≤ 40
    → IsValidLook (column_entry blank_look (row_from_above above own wanted last) c)
unfolding row_from_above
IsValidLook-row_from_above above own wanted last valid here c low high =
    subst IsValidLook
    (sym (column_entry-row_of blank_look (look_from (column_entry blank_look above) own wanted last) c low high))
    (IsValidLook-look_from (column_entry blank_look above) own wanted last valid here c high)

-- ---- grids

-- a paint that an entry can have is valid
IsValidPaint-of : (i : ℕ) (paint : Paint) → IsPaintOf i paint → IsValidPaint paint
IsValidPaint-of i (paints.Ink c) is = is
IsValidPaint-of i paints.Video is = tt

-- so are the paints of a valid page, and what is read past the last entry
pub IsValidPaint-paint_in : (p : Page) → IsValidPage p → (i : ℕ) → IsValidPaint (paint_in p.paints i)
IsValidPaint-paint_in p is i =
    elim (cases_lt i 32) [
      | inl below ↦ IsValidPaint-of i (paint_in p.paints i) (is.paints i below)
      | inr past ↦
          subst IsValidPaint (sym (entry_past black_paint 0 p.paints i (omega (arith, is.colours, past))))
          IsValidPaint-black_paint
    ]

IsValidPattern-pattern_in : (p : Page) → IsValidPage p → (code : ℕ) → 0x21 ≤ code
    → IfSome (pattern_in p.patterns code) IsValidPattern
IsValidPattern-pattern_in p is code low =
    elim (cases_lt code 0x7F) [
      | inl below ↦ is.patterns code low (omega (arith, below))
      | inr past ↦
          subst (λ (pattern : Option Pattern). IfSome pattern IsValidPattern)
          (sym (entry_past None 0x21 p.patterns code (omega (arith, is.codes, past)))) tt
    ]

-- all that signs are drawn with on a valid page
pub AreValidDefinitions-page : (p : Page) → IsValidPage p → AreValidDefinitions (definitions_of p)
AreValidDefinitions-page p is =
    record { paints = IsValidPaint-paint_in p is; patterns = IsValidPattern-pattern_in p is }

IsValidLook-own_look : (k : Core) → IsValidPage k.page → (r c : ℕ) → OnScreen r c → IsValidLook (own_look k r c)
IsValidLook-own_look k is r c on =
    IsValidLook-look_in_row (definitions_of k.page) (contents_of_row k r) (row_pen_in k.page.row_pens r)
    k.page.screen_pen c on.from_left (AreValidDefinitions-page k.page is) (λ d low high. is.cells r d (record {
      from_top = on.from_top;
      to_bottom = on.to_bottom;
      from_left = low;
      to_right = omega (arith, on);
    }))

-- the rows from the top
IsValidLook-look_seen : (k : Core) → IsValidPage k.page → (r : ℕ) → r ≤ 24 → (c : ℕ) → 1 ≤ c → c ≤ 40
    → IsValidLook (look_seen (looks_of k) r c)
IsValidLook-look_seen k is zero high c from to =
    subst IsValidLook (sym (column_entry-default blank_look c)) IsValidLook-blank_look
IsValidLook-look_seen k is (suc r) high c from to =
    let back : suc r - 1 ≡ r = omega arith in
    subst (λ (row : List Look). IsValidLook (column_entry blank_look row c))
    (sym (looks_in-from_above k (suc r) (omega arith) high))
    (IsValidLook-row_from_above (looks_in (looks_of k) (suc r - 1)) (own_look k (suc r)) (own_size k (suc r))
    (is_last (edges_of_core k) (suc r))
    (λ d low left. subst (λ (q : ℕ). IsValidLook (look_seen (looks_of k) q d)) (sym back)
    (IsValidLook-look_seen k is r (omega arith) d low left))
    (λ d low left. IsValidLook-own_look k is (suc r) d (search rules)) c from to)

pub IsValidGrid-looks_of : (k : Core) → IsValidPage k.page → IsValidGrid (looks_of k)
IsValidGrid-looks_of k is = record {
  table = IsTable-table (look k);
  looks = λ r c on.
      subst IsValidLook (look-seen k r c on ∙ sym (value_at-table (look k) blank_look r c on))
      (IsValidLook-look_seen k is r on.to_bottom c on.from_left on.to_right);
}

pub IsValidGrid-grid : (history : List Command) → AllValid history → IsValidGrid (grid history)
IsValidGrid-grid history all = IsValidGrid-looks_of (core history) (IsValidState-state history all).page
