-- Definitions that stay: what no stroke sets or clears is as before, so what a row depends on stays where none of its names
-- is defined anew.
use Rattle.std.proofs.Common.{◌≡◌, ℕ, ◌+◌, ◌≤◌, ◌==◌, inl, inr, Bool, true, false, List, [], ◌∷◌}
use Rattle.std.proofs.Common.{length, Option, Some, None, refl, sym, ◌∙◌, ap, arith}
use Rattle.std.specs.Prelude.{is_some}
use Rattle.std.specs.List.{list_any, range_with_len}
use Rattle.std.proofs.lemmas.Bool.{cases_lt, cond-false, eqb-true, false_from_ne_true, or_from, or_parts}
use Rattle.std.proofs.lemmas.Bool.{true≢false}
use Rattle.cept_codes.specs.declared.look.Paint.{Paint}
use Rattle.cept_codes.specs.declared.look.Pattern.{Pattern}
use Rattle.cept_codes.specs.declared.stroke.Stroke.{Stroke}
use Rattle.cept_codes.specs.declared.stroke.Stroke.TheVariants as strokes
use Rattle.cept_codes.specs.Look.{black_paint}
use Rattle.cept_codes.specs.Table.{entry, list_by_index}
use Rattle.cept_codes.proofs.Laws.{entry-list_by_index, entry_past, length-list_by_index}
use Rattle.cept_profile.specs.Names.{is_code, names_at, names_dclut, names_entry, names_pattern, names_some_pattern}
use Rattle.cept_profile.specs.PageParts.{dclut_after, dclut_in, dclut_list_after, paint_after, paint_in, paints_after}
use Rattle.cept_profile.specs.PageParts.{part_after_all, pattern_after, pattern_in, patterns_after}
use Rattle.cept_profile.specs.Reach.{is_redefined, redefines}
use Rattle.cept_profile.specs.State.{Core}

-- ---- an entry that no stroke sets

-- the stroke sets the colour entry i
sets_paint : ℕ → Stroke → Bool
sets_paint i (strokes.Colour j paint) = j == i
sets_paint i strokes.ColourDefaults = true
sets_paint i _ = false

-- the entry i of the DCLUT
sets_dclut : ℕ → Stroke → Bool
sets_dclut i (strokes.Dclut j colour) = j == i
sets_dclut i strokes.ColourDefaults = true
sets_dclut i _ = false

-- the pattern of a code
sets_pattern : ℕ → Stroke → Bool
sets_pattern d (strokes.Drcs code pattern) = code == d
sets_pattern d strokes.DrcsClear = true
sets_pattern d _ = false

paint_after-unset : (i : ℕ) (stroke : Stroke) (was : ℕ → Paint) → sets_paint i stroke ≡ false
    → paint_after stroke was i ≡ was i
unfolding sets_paint
paint_after-unset i (strokes.Colour j paint) was out = cond-false (j == i) paint (was i) out
paint_after-unset i strokes.ColourDefaults was out = absurd (true≢false out)
paint_after-unset i _ was out = refl

dclut_after-unset : (i : ℕ) (stroke : Stroke) (was : ℕ → ℕ) → sets_dclut i stroke ≡ false
    → dclut_after stroke was i ≡ was i
unfolding sets_dclut
dclut_after-unset i (strokes.Dclut j colour) was out = cond-false (j == i) colour (was i) out
dclut_after-unset i strokes.ColourDefaults was out = absurd (true≢false out)
dclut_after-unset i _ was out = refl

pattern_after-unset : (d : ℕ) (stroke : Stroke) (was : ℕ → Option Pattern) → sets_pattern d stroke ≡ false
    → pattern_after stroke was d ≡ was d
unfolding sets_pattern
pattern_after-unset d (strokes.Drcs code pattern) was out = cond-false (code == d) (Some pattern) (was d) out
pattern_after-unset d strokes.DrcsClear was out = absurd (true≢false out)
pattern_after-unset d _ was out = refl

-- a list made anew has at an index what it had, where it is made of that, and past the last the default as before
entry-same : {X : Type 0} (d : X) (from count : ℕ) (f : ℕ → X) (list : List X) (k : ℕ) → from ≤ k
    → length list ≡ count → f k ≡ entry d from list k
    → entry d from (list_by_index from count f) k ≡ entry d from list k
entry-same d from count f list k low long same =
    elim (cases_lt k (from + count)) [
      | inl below ↦ entry-list_by_index d from count f k low below ∙ same
      | inr past ↦
          entry_past d from (list_by_index from count f) k
          (omega (arith, length-list_by_index from count f))
          ∙ sym (entry_past d from list k (omega (arith, long)))
    ]

-- so does a list after strokes of which none sets that index
entry-unset : {X : Type 0} (d : X) (from count k : ℕ) (after : Stroke → (ℕ → X) → ℕ → X) (sets : Stroke → Bool)
    → ((stroke : Stroke) (was : ℕ → X) → sets stroke ≡ false → after stroke was k ≡ was k) → from ≤ k
    → (list : List X) (xs : List Stroke) → length list ≡ count → list_any sets xs ≡ false
    → entry d from (part_after_all (λ l x. list_by_index from count (after x (entry d from l))) list xs) k
    ≡ entry d from list k
unfolding part_after_all
entry-unset d from count k after sets unset low list [] long out = refl
entry-unset d from count k after sets unset low list (x ∷ xs) long out =
    let parts = or_parts (sets x) (list_any sets xs) out in
    entry-unset d from count k after sets unset low (list_by_index from count (after x (entry d from list))) xs
    (length-list_by_index from count (after x (entry d from list))) parts.1
    ∙ entry-same d from count (after x (entry d from list)) list k low long (unset x (entry d from list) parts.0)

-- ---- what a row names, where nothing that it names is defined anew

-- a test that fails with another fails for all of a list with it
none_with : {X : Type 0} (p s : X → Bool) → ((x : X) → p x ≡ false → s x ≡ false) → (xs : List X)
    → list_any p xs ≡ false → list_any s xs ≡ false
none_with p s fails [] out = refl
none_with p s fails (x ∷ xs) out =
    let parts = or_parts (p x) (list_any p xs) out in
    or_from (s x) (list_any s xs) (fails x parts.0) (none_with p s fails xs parts.1)

-- two numbers of which one is named and the other isn't differ
apart : (named : ℕ → Bool) (i j : ℕ) → named i ≡ true → named j ≡ false → (j == i) ≡ false
apart named i j here other =
    false_from_ne_true (j == i) (λ same. true≢false (sym here ∙ ap named (sym (eqb-true j i same)) ∙ other))

unset_paint : (after : Core) (r i : ℕ) → names_entry after r i ≡ true → (stroke : Stroke)
    → redefines after r stroke ≡ false → sets_paint i stroke ≡ false
unfolding sets_paint
unset_paint after r i named (strokes.Colour j paint) out = apart (names_entry after r) i j named out
unset_paint after r i named strokes.ColourDefaults out = absurd (true≢false out)
unset_paint after r i named _ out = refl

unset_dclut : (after : Core) (r j : ℕ) → names_dclut after r j ≡ true → (stroke : Stroke)
    → redefines after r stroke ≡ false → sets_dclut j stroke ≡ false
unfolding sets_dclut
unset_dclut after r j named (strokes.Dclut i colour) out = apart (names_dclut after r) j i named out
unset_dclut after r j named strokes.ColourDefaults out = absurd (true≢false out)
unset_dclut after r j named _ out = refl

code-some : (code : Option ℕ) (d : ℕ) → is_some code ≡ false → is_code code d ≡ false
code-some None d none = refl
code-some (Some c) d none = absurd (true≢false none)

-- a row that names no pattern doesn't name this one
names_pattern-none : (k : Core) (r d : ℕ) → names_some_pattern k r ≡ false → names_pattern k r d ≡ false
unfolding names_some_pattern names_pattern
names_pattern-none k r d none =
    none_with (λ c. is_some (names_at k r c).code) (λ c. is_code (names_at k r c).code d)
    (λ c out. code-some (names_at k r c).code d out) (range_with_len 1 40) none

unset_pattern : (after : Core) (r d : ℕ) → names_pattern after r d ≡ true → (stroke : Stroke)
    → redefines after r stroke ≡ false → sets_pattern d stroke ≡ false
unfolding sets_pattern
unset_pattern after r d named (strokes.Drcs code pattern) out = apart (names_pattern after r) d code named out
unset_pattern after r d named strokes.DrcsClear out =
    absurd (true≢false (sym named ∙ names_pattern-none after r d out))
unset_pattern after r d named _ out = refl

-- the paint of an entry that it names stays
pub paint-kept : (after : Core) (r i : ℕ) (paints : List Paint) (xs : List Stroke) → length paints ≡ 32
    → is_redefined after xs r ≡ false → names_entry after r i ≡ true
    → paint_in (part_after_all paints_after paints xs) i ≡ paint_in paints i
unfolding is_redefined
paint-kept after r i paints xs long out named =
    entry-unset black_paint 0 32 i paint_after (sets_paint i) (paint_after-unset i) (omega arith) paints xs long
    (none_with (redefines after r) (sets_paint i) (unset_paint after r i named) xs out)

-- the colour entry that an entry of the DCLUT names
pub dclut-kept : (after : Core) (r j : ℕ) (dclut : List ℕ) (xs : List Stroke) → length dclut ≡ 4
    → is_redefined after xs r ≡ false → names_dclut after r j ≡ true
    → dclut_in (part_after_all dclut_list_after dclut xs) j ≡ dclut_in dclut j
unfolding is_redefined
dclut-kept after r j dclut xs long out named =
    entry-unset 0 0 4 j dclut_after (sets_dclut j) (dclut_after-unset j) (omega arith) dclut xs long
    (none_with (redefines after r) (sets_dclut j) (unset_dclut after r j named) xs out)

-- the pattern of a code
pub pattern-kept : (after : Core) (r d : ℕ) (patterns : List (Option Pattern)) (xs : List Stroke)
    → length patterns ≡ 94 → 0x21 ≤ d → is_redefined after xs r ≡ false → names_pattern after r d ≡ true
    → pattern_in (part_after_all patterns_after patterns xs) d ≡ pattern_in patterns d
unfolding is_redefined
pattern-kept after r d patterns xs long low out named =
    entry-unset None 0x21 94 d pattern_after (sets_pattern d) (pattern_after-unset d) low patterns xs long
    (none_with (redefines after r) (sets_pattern d) (unset_pattern after r d named) xs out)
