-- What a row names can be asked of the row of which it came: the same strokes define some of it anew.
use Rattle.std.proofs.Common.{◌≡◌, ℕ, ◌+◌, ◌-◌, ◌≤◌, ◌<◌, cond, ◌&&◌, ◌||◌, ◌==◌, inl, inr, Bool, true, false, List, [], ◌∷◌, Option}
use Rattle.std.proofs.Common.{Some, None, refl, sym, ◌∙◌, ap, subst, arith}
use Rattle.std.specs.Prelude.{IsTrue, is_some, nat_le, nat_lt}
use Rattle.std.specs.List.{list_any, range_with_len}
use Rattle.std.proofs.lemmas.Bool.{cases_Bool, true≢false}
use Rattle.std.proofs.lemmas.Bool.Decides.{nat_tests}
use Rattle.cept_codes.specs.declared.cell.What.{What}
use Rattle.cept_codes.specs.declared.cell.What.TheVariants as whats
use Rattle.cept_codes.specs.declared.glyph.Glyph.{Glyph}
use Rattle.cept_codes.specs.declared.glyph.SetId.{SetId}
use Rattle.cept_codes.specs.declared.glyph.SetId.TheVariants as sets
use Rattle.cept_codes.specs.declared.look.Look.{Look}
use Rattle.cept_codes.specs.declared.look.Part.{Part}
use Rattle.cept_codes.specs.declared.look.Pattern.{Pattern}
use Rattle.cept_codes.specs.declared.look.Shape.{Shape}
use Rattle.cept_codes.specs.declared.look.Shape.TheVariants as shapes
use Rattle.cept_codes.specs.declared.stroke.Stroke.{Stroke}
use Rattle.cept_codes.specs.declared.stroke.Stroke.TheVariants as strokes
use Rattle.cept_codes.specs.Cell.{IsValidWhat}
use Rattle.cept_codes.specs.Place.{OnScreen}
use Rattle.cept_codes.specs.Stroke.{IsRow}
use Rattle.cept_profile.specs.Definitions.{Definitions}
use Rattle.cept_profile.specs.Look.{contents_of_row, look, look_in_row, looks_of, own_look, parts_of}
use Rattle.cept_profile.specs.Look.{shape_in, shape_in_set, shape_of_sign}
use Rattle.cept_profile.specs.MovedRows.{row_before}
use Rattle.cept_profile.specs.Names.{Names, code_in_set, code_named, is_code, names_at, names_dclut}
use Rattle.cept_profile.specs.Names.{names_entry, names_pattern, names_some_pattern, pattern_shown, place_names_entry}
use Rattle.cept_profile.specs.Names.{shows_ink_of, shows_two_planes}
use Rattle.cept_profile.specs.PageParts.{dclut_in, pattern_in}
use Rattle.cept_profile.specs.Reach.{LeadsTo, has_other_attributes, is_redefined, is_written}
use Rattle.cept_profile.specs.Reach.{redefines}
use Rattle.cept_profile.specs.RowsFromAbove.{is_covered_otherwise}
use Rattle.cept_profile.specs.Serial.{held_sign, is_mosaic}
use Rattle.cept_profile.specs.State.{Core, definitions_of}
use Rattle.cept_profile.specs.Tiling.{covers_below, part_at}
use Rattle.cept_profile.specs.Valid.{IsValidPage}
use Rattle.cept_profile.proofs.ColumnEntries.{no_index, none_passes}
use Rattle.cept_profile.proofs.MarkersInForce.{held_sign-alike}
use Rattle.cept_profile.proofs.NamedDefinitions.{held_sign-mosaic, mosaic-no_code}
use Rattle.cept_profile.proofs.RowsAlike.{IsMadeAs, names_at-made, origin_column, part_at-made, part_of-seen, upper_part_at}
use Rattle.cept_profile.proofs.RowsMoved.{row_before-on}
use Rattle.cept_profile.proofs.RowsReached.{KeepsNames, code-low, contents-upper, look-covered, made-as, names-kept}
use Rattle.cept_profile.proofs.RowsReached.{dclut-named, pattern-named, shape-upper}

-- tests that agree on n numbers are passed by one of them or by none alike
same_tests : (from n : ℕ) (p s : ℕ → Bool) → ((k : ℕ) → from ≤ k → k < from + n → p k ≡ s k)
    → list_any p (range_with_len from n) ≡ list_any s (range_with_len from n)
same_tests from n p s same =
    elim (cases_Bool (list_any s (range_with_len from n))) [
      | inr none ↦ none_too p s same none ∙ sym none
      | inl some ↦
          elim (cases_Bool (list_any p (range_with_len from n))) [
            | inl also ↦ also ∙ sym some
            | inr none ↦
                absurd (true≢false (sym some ∙ none_too s p (λ k low high. sym (same k low high)) none))
          ]
    ]
  where
    none_too : (p s : ℕ → Bool) → ((k : ℕ) → from ≤ k → k < from + n → p k ≡ s k)
        → list_any s (range_with_len from n) ≡ false → list_any p (range_with_len from n) ≡ false
    none_too p s same none =
        none_passes from n p (λ k low high. same k low high ∙ no_index from n s none k low high)

-- ---- the pattern that is shown

shown_by : (defined : Definitions) (g : Glyph) (pattern : Option Pattern)
    → pattern_shown (shape_in_set defined g sets.D pattern) ≡ pattern
shown_by defined g None = refl
shown_by defined g (Some pattern) = refl

-- it stays, where the pattern of the code does
shown_in_set : (before after : Definitions) (g : Glyph) (set : SetId)
    → ((d : ℕ) → is_code (code_in_set set g.code) d ≡ true → pattern_in after.patterns d ≡ pattern_in before.patterns d)
    → pattern_shown (shape_in_set after g set (pattern_in after.patterns g.code))
    ≡ pattern_shown (shape_in_set before g set (pattern_in before.patterns g.code))
shown_in_set before after g sets.D code =
    shown_by after g (pattern_in after.patterns g.code) ∙ code g.code (grind (arith, nat_tests))
    ∙ sym (shown_by before g (pattern_in before.patterns g.code))
shown_in_set before after g sets.P code = refl
shown_in_set before after g sets.S code = refl
shown_in_set before after g sets.M code = refl
shown_in_set before after g sets.N code = refl

shown_unless_space : (space : Bool) (now was : Shape) → pattern_shown now ≡ pattern_shown was
    → pattern_shown (cond space shapes.Space now) ≡ pattern_shown (cond space shapes.Space was)
shown_unless_space true now was same = refl
shown_unless_space false now was same = same

shown_of_sign : (before after : Definitions) (g : Glyph)
    → ((d : ℕ) → is_code (code_in_set g.set g.code) d ≡ true
    → pattern_in after.patterns d ≡ pattern_in before.patterns d)
    → pattern_shown (shape_of_sign after g) ≡ pattern_shown (shape_of_sign before g)
shown_of_sign before after g code =
    shown_unless_space (g.code == 0x20 && g.accent == 0) (shape_in_set after g g.set (pattern_in after.patterns g.code))
    (shape_in_set before g g.set (pattern_in before.patterns g.code))
    (shown_in_set before after g g.set code)

shown_in : (before after : Definitions) (what : What) (held : Option Glyph)
    → ((g : Glyph) → held ≡ Some g → is_mosaic g.set ≡ true)
    → ((d : ℕ) → is_code (code_named what) d ≡ true → pattern_in after.patterns d ≡ pattern_in before.patterns d)
    → pattern_shown (shape_in after what held) ≡ pattern_shown (shape_in before what held)
shown_in before after (whats.Marker m) (Some g) mosaic code =
    shown_of_sign before after g
    (λ d is. absurd (true≢false (sym is ∙ mosaic-no_code g.set g.code d (mosaic g refl))))
shown_in before after (whats.Marker m) None mosaic code = refl
shown_in before after whats.Blank held mosaic code = refl
shown_in before after (whats.Serial g) held mosaic code = shown_of_sign before after g code
shown_in before after (whats.Parallel g pen) held mosaic code = shown_of_sign before after g code

own_shape : (k : Core) (r c : ℕ)
    → (own_look k r c).shape
    ≡ shape_in (definitions_of k.page) (contents_of_row k r c) (held_sign (contents_of_row k r) c)
unfolding look_in_row
own_shape k r c = refl

own_shown : (before after : Core) (q r d : ℕ) → IsMadeAs before q after r → 1 ≤ d → d ≤ 40
    → ((e : ℕ) → is_code (code_named (contents_of_row after r d)) e ≡ true
    → pattern_in after.page.patterns e ≡ pattern_in before.page.patterns e)
    → pattern_shown (own_look after r d).shape ≡ pattern_shown (own_look before q d).shape
own_shown before after q r d made low high code =
    let held : held_sign (contents_of_row after r) d ≡ held_sign (contents_of_row before q) d =
    held_sign-alike (contents_of_row after r) (contents_of_row before q) d low
    (λ e from to. made.contents e from (omega arith)) in
    ap (λ s. pattern_shown s) (own_shape after r d)
    ∙ shown_in (definitions_of before.page) (definitions_of after.page) (contents_of_row after r d)
    (held_sign (contents_of_row after r) d) (held_sign-mosaic (contents_of_row after r) d) code
    ∙ (λ i. pattern_shown (shape_in (definitions_of before.page) (made.contents d low high i) (held i)))
    ∙ sym (ap (λ s. pattern_shown s) (own_shape before q d))

-- the patterns whose codes a row names stay
abbrev KeepsPatterns : Core → Core → ℕ → Type 0
KeepsPatterns before after r =
    (d : ℕ) → 0x21 ≤ d → names_pattern after r d ≡ true
    → pattern_in after.page.patterns d ≡ pattern_in before.page.patterns d

shown-free : (before after : Core) (q r c : ℕ) → IsMadeAs before q after r → KeepsPatterns before after r
    → IsValidPage before.page → OnScreen q c → OnScreen r c
    → covers_below (part_at (parts_of after) (r - 1) c) ≡ false
    → pattern_shown (look after r c).shape ≡ pattern_shown (look before q c).shape
shown-free before after q r c made kept valid beneath on free =
    let p : Part = part_at (parts_of after) r c in
    let u : Part = part_at (parts_of before) q c in
    let same : p ≡ u =
    part_at-made before after q r made beneath.from_top beneath.to_bottom on.from_top on.to_bottom c on.to_right in
    let upper : p.dy ≡ 0 = upper_part_at after r c on free in
    let other : u.dy ≡ 0 = sym (ap (λ (o : Part). o.dy) same) ∙ upper in
    let column = origin_column after r c on in
    let d : ℕ = c - p.dx in
    let what_valid : IsValidWhat (contents_of_row after r d) =
    subst IsValidWhat (sym (made.contents d column.0 column.1)) (valid.cells q d (assumption)) in
    ap (λ s. pattern_shown s) (shape-upper after r c upper)
    ∙ own_shown before after q r d made column.0 column.1
    (λ e is. kept e (code-low (contents_of_row after r d) e what_valid is) (pattern-named after r e c on.from_left on.to_right
    (ap (λ w. is_code (code_named w) e) (contents-upper after r c upper) ∙ is)))
    ∙ ap (λ (o : Part). pattern_shown (own_look before q (c - o.dx)).shape) same
    ∙ sym (ap (λ s. pattern_shown s) (shape-upper before q c other))

shown-made : (before after : Core) (q r c : ℕ) → IsMadeAs before q after r → KeepsPatterns before after r
    → IsValidPage before.page → OnScreen q c → OnScreen r c
    → pattern_shown (look after r c).shape ≡ pattern_shown (look before q c).shape
shown-made before after q r c made kept valid beneath on =
    elim (cases_Bool (covers_below (part_at (parts_of after) (r - 1) c))) [
      | inl covered ↦
          ap (λ (l : Look). pattern_shown l.shape) (look-covered before after q r c made beneath on
          (ap (λ p. covers_below p) (part_of-seen after (r - 1) c (omega (arith, on))) ∙ covered))
      | inr free ↦ shown-free before after q r c made kept valid beneath on free
    ]

-- ---- what the row names

-- the same as the row of which it came: at each place, and of each pattern that is shown
record NamesAlike (before : Core) (q : ℕ) (after : Core) (r : ℕ) : Type 0 where
  pub names : (c : ℕ) → 1 ≤ c → c ≤ 40 → names_at after r c ≡ names_at before q c
  pub shown : (c : ℕ) → 1 ≤ c → c ≤ 40 → pattern_shown (look after r c).shape ≡ pattern_shown (look before q c).shape
  pub dclut : (c : ℕ) → 1 ≤ c → c ≤ 40 → shows_two_planes (pattern_shown (look after r c).shape) ≡ true → (j : ℕ) → j < 4
      → dclut_in after.page.dclut j ≡ dclut_in before.page.dclut j

names_pattern-same : (before after : Core) (q r d : ℕ)
    → ((c : ℕ) → 1 ≤ c → c ≤ 40 → names_at after r c ≡ names_at before q c)
    → names_pattern after r d ≡ names_pattern before q d
unfolding names_pattern
names_pattern-same before after q r d names =
    same_tests 1 40 (λ c. is_code (names_at after r c).code d) (λ c. is_code (names_at before q c).code d)
    (λ c low high. ap (λ (n : Names). is_code n.code d) (names c low (omega arith)))

names_some_pattern-same : (before after : Core) (q r : ℕ)
    → ((c : ℕ) → 1 ≤ c → c ≤ 40 → names_at after r c ≡ names_at before q c)
    → names_some_pattern after r ≡ names_some_pattern before q
unfolding names_some_pattern
names_some_pattern-same before after q r names =
    same_tests 1 40 (λ c. is_some (names_at after r c).code) (λ c. is_some (names_at before q c).code)
    (λ c low high. ap (λ (n : Names). is_some n.code) (names c low (omega arith)))

names_dclut-same : (before after : Core) (q r j : ℕ)
    → ((c : ℕ) → 1 ≤ c → c ≤ 40 → pattern_shown (look after r c).shape ≡ pattern_shown (look before q c).shape)
    → names_dclut after r j ≡ names_dclut before q j
unfolding names_dclut
names_dclut-same before after q r j shown =
    ap (λ b. nat_lt j 4 && b)
    (same_tests 1 40 (λ c. shows_two_planes (pattern_shown (look after r c).shape))
    (λ c. shows_two_planes (pattern_shown (look before q c).shape))
    (λ c low high. ap (λ o. shows_two_planes o) (shown c low (omega arith))))

-- the inks of a pattern, where the DCLUT stays if it has two planes
shows_ink-same : (before after : Definitions) (i : ℕ) (shown : Option Pattern)
    → (shows_two_planes shown ≡ true → (j : ℕ) → j < 4 → dclut_in after.dclut j ≡ dclut_in before.dclut j)
    → shows_ink_of after shown i ≡ shows_ink_of before shown i
shows_ink-same before after i None dclut = refl
shows_ink-same before after i (Some pattern) dclut = by_planes (pattern.planes == 1) (pattern.planes == 2) dclut
  where
    by_planes : (one two : Bool)
        → (two ≡ true → (j : ℕ) → j < 4 → dclut_in after.dclut j ≡ dclut_in before.dclut j)
        → cond one false (cond two (list_any (λ j. dclut_in after.dclut j == i) (range_with_len 0 4)) (nat_le 16 i && nat_lt i 32))
        ≡ cond one false
        (cond two (list_any (λ j. dclut_in before.dclut j == i) (range_with_len 0 4)) (nat_le 16 i && nat_lt i 32))
    by_planes true two same = refl
    by_planes false true same =
        same_tests 0 4 (λ j. dclut_in after.dclut j == i) (λ j. dclut_in before.dclut j == i)
        (λ j low high. ap (λ (k : ℕ). k == i) (same refl j (omega arith)))
    by_planes false false same = refl

names_entry-same : (before after : Core) (q r i : ℕ) → NamesAlike before q after r
    → names_entry after r i ≡ names_entry before q i
unfolding names_entry
names_entry-same before after q r i same =
    same_tests 1 40 (place_names_entry after r i) (place_names_entry before q i) (λ c low high.
    let within : c ≤ 40 = omega arith in
    let names : names_at after r c ≡ names_at before q c = same.names c low within in
    let inks : shows_ink_of (definitions_of after.page) (pattern_shown (look after r c).shape) i
    ≡ shows_ink_of (definitions_of before.page) (pattern_shown (look before q c).shape) i =
    shows_ink-same (definitions_of before.page) (definitions_of after.page) i (pattern_shown (look after r c).shape)
    (same.dclut c low within)
    ∙ ap (λ o. shows_ink_of (definitions_of before.page) o i) (same.shown c low within) in
    (λ j. (names j).fore == i || (names j).back == i || inks j))

redefines-same : (before after : Core) (q r : ℕ) → NamesAlike before q after r → (stroke : Stroke)
    → redefines after r stroke ≡ redefines before q stroke
redefines-same before after q r same (strokes.Colour i paint) = names_entry-same before after q r i same
redefines-same before after q r same (strokes.Dclut j entry) = names_dclut-same before after q r j same.shown
redefines-same before after q r same (strokes.Drcs code pattern) = names_pattern-same before after q r code same.names
redefines-same before after q r same strokes.DrcsClear = names_some_pattern-same before after q r same.names
redefines-same before after q r same _ = refl

-- ---- what is defined anew

all_same : {X : Type 0} (p s : X → Bool) → ((x : X) → p x ≡ s x) → (xs : List X) → list_any p xs ≡ list_any s xs
all_same p s same [] = refl
all_same p s same (x ∷ xs) = λ i. same x i || all_same p s same xs i

-- rows that are made alike and name the same at each place, where the patterns that they name stay and so does the DCLUT
-- where they show two planes, are redefined alike
redefined_alike : (before after : Core) (strokes : List Stroke) (q r : ℕ) → IsMadeAs before q after r → IsRow q
    → 1 ≤ r → r ≤ 24 → IsValidPage before.page
    → ((c : ℕ) → 1 ≤ c → c ≤ 40 → names_at after r c ≡ names_at before q c) → KeepsPatterns before after r
    → ((c : ℕ) → 1 ≤ c → c ≤ 40 → pattern_shown (look after r c).shape ≡ pattern_shown (look before q c).shape
    → shows_two_planes (pattern_shown (look after r c).shape) ≡ true → (j : ℕ) → j < 4
    → dclut_in after.page.dclut j ≡ dclut_in before.page.dclut j)
    → is_redefined after strokes r ≡ is_redefined before strokes q
unfolding is_redefined
redefined_alike before after strokes q r made there low high valid names patterns dclut =
    let shown : (c : ℕ) → 1 ≤ c → c ≤ 40 → pattern_shown (look after r c).shape ≡ pattern_shown (look before q c).shape =
    λ c left right.
    shown-made before after q r c made patterns valid
    (record { from_top = there.0; to_bottom = there.1; from_left = left; to_right = right })
    (record { from_top = low; to_bottom = high; from_left = left; to_right = right }) in
    let same : NamesAlike before q after r = record {
      names = names;
      shown = shown;
      dclut = λ c left right. dclut c left right (shown c left right);
    } in
    all_same (redefines after r) (redefines before q) (redefines-same before after q r same) strokes

-- a row in which no stroke writes, with the attributes and covers that it had, beneath the same names, is redefined where the
-- row of which it came is
pub is_redefined-unreached : (before after : Core) (strokes : List Stroke) (q r : ℕ) → LeadsTo before after strokes
    → 1 ≤ r → r ≤ 24 → row_before strokes r ≡ Some q → is_written strokes r ≡ false
    → has_other_attributes before q after r ≡ false → is_covered_otherwise (looks_of before) q (looks_of after) r ≡ false
    → ((c : ℕ) → 1 ≤ c → c ≤ 40 → IsTrue (covers_below (part_at (parts_of after) (r - 1) c))
    → names_at after (r - 1) c ≡ names_at before (q - 1) c)
    → is_redefined after strokes r ≡ is_redefined before strokes q
is_redefined-unreached before after strokes q r leads low high from free same covers above =
    let there : IsRow q = row_before-on strokes r q leads.each low high from in
    let made : IsMadeAs before q after r = made-as before after strokes q r leads low high from free same covers in
    let names : (c : ℕ) → 1 ≤ c → c ≤ 40 → names_at after r c ≡ names_at before q c =
    λ c left right.
    names_at-made before after q r made there.0 there.1 c
    (record { from_top = low; to_bottom = high; from_left = left; to_right = right }) (above c left right) in
    elim (cases_Bool (is_redefined after strokes r)) [
      | inr none ↦
          let kept : KeepsNames before after after r = names-kept before after after strokes r leads none in
          redefined_alike before after strokes q r made there low high leads.valid names kept.pattern
          (λ c left right shown two j below. kept.dclut j (dclut-named after r j c left right below two))
      | inl some ↦
          elim (cases_Bool (is_redefined before strokes q)) [
            | inl also ↦ some ∙ sym also
            | inr none ↦
                let kept : KeepsNames before after before q = names-kept before after before strokes q leads none in
                redefined_alike before after strokes q r made there low high leads.valid names
                (λ d first named. kept.pattern d first (sym (names_pattern-same before after q r d names) ∙ named))
                (λ c left right shown two j below.
                kept.dclut j (dclut-named before q j c left right below
                (sym (ap (λ o. shows_two_planes o) shown) ∙ two)))
          ]
    ]
