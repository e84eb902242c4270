-- What a place is drawn with: where the entries and the pattern that it names stay, it looks as before.
use Rattle.std.proofs.Common.{◌≡◌, ℕ, zero, suc, ◌+◌, ◌≤◌, ◌<◌, cond, ◌==◌, ◌&&◌, inl, inr, Bool, true, false, List}
use Rattle.std.proofs.Common.{Option, Some, None, is_none, unwrap_or, refl, sym, ◌∙◌, ap, arith}
use Rattle.std.specs.Prelude.{nat_le, nat_lt}
use Rattle.std.specs.Option.{option_or}
use Rattle.std.specs.List.{list_any, range_with_len}
use Rattle.std.proofs.lemmas.Bool.{cases_Bool, cond-false, cond-true, true≢false}
use Rattle.std.proofs.lemmas.Bool.Decides.{nat_tests}
use Rattle.cept_codes.specs.declared.attribute.Full.{Full}
use Rattle.cept_codes.specs.declared.cell.What.{What}
use Rattle.cept_codes.specs.declared.cell.What.TheVariants as whats
use Rattle.cept_codes.specs.declared.glyph.Glyph.{Glyph}
use Rattle.cept_codes.specs.declared.glyph.SetId.{SetId}
use Rattle.cept_codes.specs.declared.glyph.SetId.TheVariants as sets
use Rattle.cept_codes.specs.declared.look.Paint.{Paint}
use Rattle.cept_codes.specs.declared.look.Pattern.{Pattern}
use Rattle.cept_codes.specs.declared.look.Shape.{Shape}
use Rattle.cept_codes.specs.declared.look.Shape.TheVariants as shapes
use Rattle.cept_codes.proofs.Laws.{same_indexed}
use Rattle.cept_profile.specs.Colours.{paint_over}
use Rattle.cept_profile.specs.Definitions.{Definitions, inks_of, inks_with}
use Rattle.cept_profile.specs.Look.{look_with, shape_in, shape_in_set, shape_of_sign}
use Rattle.cept_profile.specs.Names.{code_in_set, code_named, is_code, is_ink_of, pattern_shown, shows_ink_of}
use Rattle.cept_profile.specs.Names.{shows_two_planes}
use Rattle.cept_profile.specs.PageParts.{dclut_in, paint_in, pattern_in}
use Rattle.cept_profile.specs.Serial.{held_sign, is_holding, is_marker, is_mosaic, kept_sign, marker_pen, mosaic_of, nearest_said}
use Rattle.cept_profile.proofs.ColumnEntries.{no_index}

-- a test that one of n numbers passes is passed by some
pub some_index : (from n : ℕ) (p : ℕ → Bool) (k : ℕ) → from ≤ k → k < from + n → p k ≡ true
    → list_any p (range_with_len from n) ≡ true
some_index from n p k low high passes =
    elim (cases_Bool (list_any p (range_with_len from n))) [
      | inl some ↦ some
      | inr none ↦ absurd (true≢false (sym passes ∙ no_index from n p none k low high))
    ]

-- what a place names stays: the paints of its entries and of the inks of the pattern shown, the entries of the DCLUT where
-- that has two planes, and the pattern of its code
pub record KeepsNamed (before after : Definitions) (f : Full) (what : What) (shape : Shape) : Type 0 where
  pub fore : paint_in after.paints f.fore ≡ paint_in before.paints f.fore
  pub back : paint_in after.paints f.back ≡ paint_in before.paints f.back
  pub ink : (i : ℕ) → shows_ink_of after (pattern_shown shape) i ≡ true
      → paint_in after.paints i ≡ paint_in before.paints i
  pub dclut : shows_two_planes (pattern_shown shape) ≡ true → (j : ℕ) → j < 4
      → dclut_in after.dclut j ≡ dclut_in before.dclut j
  pub code : (d : ℕ) → is_code (code_named what) d ≡ true
      → pattern_in after.patterns d ≡ pattern_in before.patterns d

-- ---- inks

is_ink-two : (defined : Definitions) (planes i j : ℕ) → (planes == 1) ≡ false → (planes == 2) ≡ true → j < 4
    → dclut_in defined.dclut j ≡ i → is_ink_of defined planes i ≡ true
is_ink-two defined planes i j one two below is =
    cond-false (planes == 1) false
    (cond (planes == 2) (list_any (λ n. dclut_in defined.dclut n == i) (range_with_len 0 4)) (nat_le 16 i && nat_lt i 32))
    one
    ∙ cond-true (planes == 2) (list_any (λ n. dclut_in defined.dclut n == i) (range_with_len 0 4))
    (nat_le 16 i && nat_lt i 32) two
    ∙ some_index 0 4 (λ n. dclut_in defined.dclut n == i) j (omega arith) (omega arith) (grind (arith, nat_tests))

is_ink-four : (defined : Definitions) (planes i : ℕ) → (planes == 1) ≡ false → (planes == 2) ≡ false → 16 ≤ i → i < 32
    → is_ink_of defined planes i ≡ true
is_ink-four defined planes i one two low high =
    let within : (nat_le 16 i && nat_lt i 32) ≡ true = grind (arith, nat_tests) in
    cond-false (planes == 1) false
    (cond (planes == 2) (list_any (λ n. dclut_in defined.dclut n == i) (range_with_len 0 4)) (nat_le 16 i && nat_lt i 32))
    one
    ∙ cond-false (planes == 2) (list_any (λ n. dclut_in defined.dclut n == i) (range_with_len 0 4))
    (nat_le 16 i && nat_lt i 32) two
    ∙ within

-- the paints of a pattern's inks stay
inks-kept : (before after : Definitions) (planes : ℕ)
    → ((i : ℕ) → is_ink_of after planes i ≡ true → paint_in after.paints i ≡ paint_in before.paints i)
    → ((planes == 2) ≡ true → (j : ℕ) → j < 4 → dclut_in after.dclut j ≡ dclut_in before.dclut j)
    → inks_of after planes ≡ inks_of before planes
unfolding inks_of
inks-kept before after planes ink dclut =
    elim (cases_Bool (planes == 1)) [
      | inl one ↦ cond-true (planes == 1) _ _ one ∙ sym (cond-true (planes == 1) _ _ one)
      | inr more ↦
          cond-false (planes == 1) _ _ more
          ∙ elim (cases_Bool (planes == 2)) [
            | inl two ↦
                cond-true (planes == 2) _ _ two
                ∙ ap inks_with (same_indexed 0 4 (λ j. paint_in after.paints (dclut_in after.dclut j))
                (λ j. paint_in before.paints (dclut_in before.dclut j)) (λ j low high.
                ink (dclut_in after.dclut j)
                (is_ink-two after planes (dclut_in after.dclut j) j more two (omega arith) refl)
                ∙ ap (paint_in before.paints) (dclut two j (omega arith))))
                ∙ sym (cond-true (planes == 2) _ _ two)
            | inr four ↦
                cond-false (planes == 2) _ _ four
                ∙ ap inks_with (same_indexed 16 16 (paint_in after.paints) (paint_in before.paints) (λ i low high.
                ink i (is_ink-four after planes i more four low (omega arith))))
                ∙ sym (cond-false (planes == 2) _ _ four)
          ]
          ∙ sym (cond-false (planes == 1) _ _ more)
    ]

inks-shown : (before after : Definitions) (f : Full) (what : What) (shape : Shape) (pattern : Pattern)
    → KeepsNamed before after f what shape → pattern_shown shape ≡ Some pattern
    → inks_of after pattern.planes ≡ inks_of before pattern.planes
inks-shown before after f what shape pattern kept shown =
    inks-kept before after pattern.planes
    (λ i is. kept.ink i (ap (λ o. shows_ink_of after o i) shown ∙ is))
    (λ two. kept.dclut (ap (λ o. shows_two_planes o) shown ∙ two))

-- ---- shapes

shape_of_downloaded-kept : (before after : Definitions) (g : Glyph) (now was : Option Pattern) → now ≡ was
    → ((pattern : Pattern) → pattern_shown (shape_in_set after g sets.D now) ≡ Some pattern
    → inks_of after pattern.planes ≡ inks_of before pattern.planes)
    → shape_in_set after g sets.D now ≡ shape_in_set before g sets.D was
shape_of_downloaded-kept before after g None was same inks = ap (shape_in_set before g sets.D) same
shape_of_downloaded-kept before after g (Some pattern) was same inks =
    ap (shapes.Drcs pattern) (inks pattern refl) ∙ ap (shape_in_set before g sets.D) same

shape_in_set-kept : (before after : Definitions) (g : Glyph) (set : SetId)
    → ((d : ℕ) → is_code (code_in_set set g.code) d ≡ true
    → pattern_in after.patterns d ≡ pattern_in before.patterns d)
    → ((pattern : Pattern) → pattern_shown (shape_in_set after g set (pattern_in after.patterns g.code)) ≡ Some pattern
    → inks_of after pattern.planes ≡ inks_of before pattern.planes)
    → shape_in_set after g set (pattern_in after.patterns g.code)
    ≡ shape_in_set before g set (pattern_in before.patterns g.code)
shape_in_set-kept before after g sets.D code inks =
    shape_of_downloaded-kept before after g (pattern_in after.patterns g.code) (pattern_in before.patterns g.code)
    (code g.code (grind (arith, nat_tests))) inks
shape_in_set-kept before after g sets.P code inks = refl
shape_in_set-kept before after g sets.S code inks = refl
shape_in_set-kept before after g sets.M code inks = refl
shape_in_set-kept before after g sets.N code inks = refl

-- of a space, or of what is no space
shape_unless_space : (before after : Definitions) (g : Glyph) (space : Bool) (now was : Shape)
    → (((pattern : Pattern) → pattern_shown now ≡ Some pattern
    → inks_of after pattern.planes ≡ inks_of before pattern.planes) → now ≡ was)
    → ((pattern : Pattern) → pattern_shown (cond space shapes.Space now) ≡ Some pattern
    → inks_of after pattern.planes ≡ inks_of before pattern.planes)
    → cond space shapes.Space now ≡ cond space shapes.Space was
shape_unless_space before after g true now was same inks = refl
shape_unless_space before after g false now was same inks = same inks

shape_of_sign-kept : (before after : Definitions) (g : Glyph)
    → ((d : ℕ) → is_code (code_in_set g.set g.code) d ≡ true
    → pattern_in after.patterns d ≡ pattern_in before.patterns d)
    → ((pattern : Pattern) → pattern_shown (shape_of_sign after g) ≡ Some pattern
    → inks_of after pattern.planes ≡ inks_of before pattern.planes)
    → shape_of_sign after g ≡ shape_of_sign before g
shape_of_sign-kept before after g code inks =
    shape_unless_space before after g (g.code == 0x20 && g.accent == 0)
    (shape_in_set after g g.set (pattern_in after.patterns g.code))
    (shape_in_set before g g.set (pattern_in before.patterns g.code)) (shape_in_set-kept before after g g.set code) inks

-- a mosaic is of no downloaded set
pub mosaic-no_code : (set : SetId) (code d : ℕ) → is_mosaic set ≡ true → is_code (code_in_set set code) d ≡ false
mosaic-no_code sets.M code d mosaic = refl
mosaic-no_code sets.N code d mosaic = refl
mosaic-no_code _ code d mosaic = absurd (true≢false (sym mosaic))

-- what stands in a cell, with the sign of a mosaic set that it holds
shape_in-kept : (before after : Definitions) (f : Full) (what : What) (held : Option Glyph)
    → ((g : Glyph) → held ≡ Some g → is_mosaic g.set ≡ true)
    → KeepsNamed before after f what (shape_in after what held) → shape_in after what held ≡ shape_in before what held
shape_in-kept before after f (whats.Marker m) (Some g) mosaic kept =
    shape_of_sign-kept before after g
    (λ d is. absurd (true≢false (sym is ∙ mosaic-no_code g.set g.code d (mosaic g refl))))
    (λ pattern shown. inks-shown before after f (whats.Marker m) (shape_of_sign after g) pattern kept shown)
shape_in-kept before after f (whats.Marker m) None mosaic kept = refl
shape_in-kept before after f whats.Blank held mosaic kept = refl
shape_in-kept before after f (whats.Serial g) held mosaic kept =
    shape_of_sign-kept before after g kept.code
    (λ pattern shown. inks-shown before after f (whats.Serial g) (shape_of_sign after g) pattern kept shown)
shape_in-kept before after f (whats.Parallel g pen) held mosaic kept =
    shape_of_sign-kept before after g kept.code
    (λ pattern shown. inks-shown before after f (whats.Parallel g pen) (shape_of_sign after g) pattern kept shown)

-- ---- held signs

mosaic_of-mosaic : (what : What) (g : Glyph) → mosaic_of what ≡ Some g → is_mosaic g.set ≡ true
mosaic_of-mosaic (whats.Serial h) g is = mosaic_chosen h g (is_mosaic h.set) refl is
  where
    mosaic_chosen : (h g : Glyph) (b : Bool) → is_mosaic h.set ≡ b → cond b (Some h) None ≡ Some g
        → is_mosaic g.set ≡ true
    mosaic_chosen h g true mosaic is = let same : h ≡ g = cc in sym (ap (λ (k : Glyph). is_mosaic k.set) same) ∙ mosaic
    mosaic_chosen h g false mosaic is = absurd (cc)
mosaic_of-mosaic _ g is = absurd (cc)

unless-mosaic : (b : Bool) (what : What) (g : Glyph) → cond b None (Some (mosaic_of what)) ≡ Some (Some g)
    → is_mosaic g.set ≡ true
unless-mosaic true what g is = absurd (cc)
unless-mosaic false what g is = let same : mosaic_of what ≡ Some g = cc in mosaic_of-mosaic what g same

either-mosaic : (a b : Option (Option Glyph)) (g : Glyph) → (a ≡ Some (Some g) → is_mosaic g.set ≡ true)
    → (unwrap_or b None ≡ Some g → is_mosaic g.set ≡ true)
    → unwrap_or (option_or a b) None ≡ Some g → is_mosaic g.set ≡ true
either-mosaic None b g first second is = second is
either-mosaic (Some found) b g first second is = first (ap Some is)

-- what is said nearest is of a mosaic set, where all that may be said is
nearest-mosaic : (says : ℕ → Option (Option Glyph)) (c : ℕ) (g : Glyph)
    → ((d : ℕ) → says d ≡ Some (Some g) → is_mosaic g.set ≡ true)
    → unwrap_or (nearest_said says c) None ≡ Some g → is_mosaic g.set ≡ true
nearest-mosaic says zero g all is = absurd (cc)
nearest-mosaic says (suc c) g all is =
    either-mosaic (says (suc c)) (nearest_said says c) g (all (suc c)) (nearest-mosaic says c g all) is

kept_sign-mosaic : (row : ℕ → What) (c : ℕ) (g : Glyph) → kept_sign row c ≡ Some g → is_mosaic g.set ≡ true
unfolding kept_sign
kept_sign-mosaic row c g is =
    nearest-mosaic
    (λ d. cond (is_marker (row d) && is_none (marker_pen 0 (row d)).size) None (Some (mosaic_of (row d)))) c g
    (λ d said. unless-mosaic (is_marker (row d) && is_none (marker_pen 0 (row d)).size) (row d) g said) is

-- a held sign is one of a mosaic set
pub held_sign-mosaic : (row : ℕ → What) (c : ℕ) (g : Glyph) → held_sign row c ≡ Some g → is_mosaic g.set ≡ true
held_sign-mosaic row c g is =
    held_where (is_marker (row c) && is_holding row c) (kept_sign row c) g is (kept_sign-mosaic row c g)
  where
    held_where : (b : Bool) (kept : Option Glyph) (g : Glyph) → cond b kept None ≡ Some g
        → (kept ≡ Some g → is_mosaic g.set ≡ true) → is_mosaic g.set ≡ true
    held_where true kept g is mosaic = mosaic is
    held_where false kept g is mosaic = absurd (cc)

-- ---- the look

paint_chosen : (now was : List Paint) (b : Bool) (i j : ℕ) → paint_in now i ≡ paint_in was i
    → paint_in now j ≡ paint_in was j → paint_in now (cond b i j) ≡ paint_in was (cond b i j)
paint_chosen now was true i j first second = first
paint_chosen now was false i j first second = second

-- what stands in a column of a row looks as before, where what it names stays
pub look-kept : (before after : Definitions) (f : Full) (row : ℕ → What) (c : ℕ)
    → KeepsNamed before after f (row c) (shape_in after (row c) (held_sign row c))
    → look_with (paint_in after.paints) (shape_in after (row c) (held_sign row c)) f
    ≡ look_with (paint_in before.paints) (shape_in before (row c) (held_sign row c)) f
look-kept before after f row c kept =
    let behind : ℕ = cond f.invert f.fore f.back in
    let ahead : ℕ = cond f.invert f.back f.fore in
    let back : paint_in after.paints behind ≡ paint_in before.paints behind =
    paint_chosen after.paints before.paints f.invert f.fore f.back kept.fore kept.back in
    let fore : paint_in after.paints ahead ≡ paint_in before.paints ahead =
    paint_chosen after.paints before.paints f.invert f.back f.fore kept.back kept.fore in
    let shape : shape_in after (row c) (held_sign row c) ≡ shape_in before (row c) (held_sign row c) =
    shape_in-kept before after f (row c) (held_sign row c) (held_sign-mosaic row c) kept in
    λ i. record (look_with (paint_in before.paints) (shape_in before (row c) (held_sign row c)) f) {
      shape = shape i;
      fore = paint_over (fore i) (back i);
      back = back i;
    }
