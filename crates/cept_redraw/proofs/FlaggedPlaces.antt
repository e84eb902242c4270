-- Flags of the places of a row that strokes define anew, set besides one stroke after the other.
use Rattle.std.proofs.Common.{◌≡◌, ℕ, ◌+◌, ◌-◌, ◌<◌, ◌||◌, Bool, true, false, List, [], length, replicate, get_or, take, Option}
use Rattle.std.proofs.Common.{refl, sym, ap, ◌∙◌, arith}
use Rattle.std.specs.List.{list_any}
use Rattle.std.proofs.lemmas.Bool.{or_right, true≢false}
use Rattle.std.proofs.lemmas.List.{get_or-replicate, length-replicate}
use Rattle.std.proofs.lemmas.List.Folds.{list_any_more}
use Rattle.cept_codes.specs.declared.look.Look.{Look}
use Rattle.cept_codes.specs.declared.look.Pattern.{Pattern}
use Rattle.cept_codes.specs.declared.stroke.Stroke.{Stroke}
use Rattle.cept_codes.specs.declared.stroke.Stroke.TheVariants as strokes
use Rattle.cept_codes.specs.Look.{blank_look}
use Rattle.cept_codes.specs.Table.{entry, list_by_index}
use Rattle.cept_codes.proofs.Laws.{entry-list_by_index, entry_from, list_by_index-entry, same_indexed}
use Rattle.cept_profile.specs.Names.{Names, pattern_shown}
use Rattle.cept_profile.specs.Tiling.{column_entry}
use Rattle.cept_redraw.specs.inside.Redefined.{redefines_place}
use Rattle.cept_redraw.specs.Resolved.{defines}
use Rattle.cept_rows.specs.declared.naming.RowNames.{RowNames}
use Rattle.cept_rows.specs.KeptNames.{names_kept}

or_none : (a b : Bool) → b ≡ false → a ≡ (a || b)
or_none true b none = refl
or_none false b none = sym none

-- none set besides
pub none_flagged : (flags : List Bool) (f : ℕ → Bool) → length flags ≡ 40 → ((c : ℕ) → f c ≡ false)
    → flags ≡ list_by_index 1 40 (λ c. entry false 1 flags c || f c)
none_flagged flags f long none =
    sym (list_by_index-entry false 1 40 flags long)
    ∙ same_indexed 1 40 (entry false 1 flags) (λ c. entry false 1 flags c || f c)
    (λ c low high. or_none (entry false 1 flags c) (f c) (none c))

redefines_nothing : (names : Names) (shown : Option Pattern) (x : Stroke) → defines x ≡ false
    → redefines_place names shown x ≡ false
redefines_nothing names shown (strokes.Colour i paint) nothing = absurd (true≢false nothing)
redefines_nothing names shown (strokes.Dclut j entry) nothing = absurd (true≢false nothing)
redefines_nothing names shown strokes.ColourDefaults nothing = absurd (true≢false nothing)
redefines_nothing names shown (strokes.Drcs code pattern) nothing = absurd (true≢false nothing)
redefines_nothing names shown strokes.DrcsClear nothing = absurd (true≢false nothing)
redefines_nothing names shown (strokes.Put p cell) nothing = refl
redefines_nothing names shown (strokes.Erase row from) nothing = refl
redefines_nothing names shown strokes.Wipe nothing = refl
redefines_nothing names shown (strokes.Shift first last way) nothing = refl
redefines_nothing names shown (strokes.Carry first last way) nothing = refl
redefines_nothing names shown (strokes.RowAttr row attr) nothing = refl
redefines_nothing names shown (strokes.ScreenAttr attr) nothing = refl
redefines_nothing names shown strokes.ScreenClear nothing = refl
redefines_nothing names shown (strokes.Format rows) nothing = refl

-- all set
pub all_flagged : (flags : List Bool) (f : ℕ → Bool) → ((c : ℕ) → f c ≡ true)
    → replicate 40 true ≡ list_by_index 1 40 (λ c. entry false 1 flags c || f c)
all_flagged flags f all =
    sym (list_by_index-entry false 1 40 (replicate 40 true) (length-replicate 40 true))
    ∙ same_indexed 1 40 (entry false 1 (replicate 40 true)) (λ c. entry false 1 flags c || f c) (λ c low high.
    entry_from false 1 (replicate 40 true) c low ∙ get_or-replicate 40 (c - 1) true false (omega (arith, low, high))
    ∙ sym (or_right (entry false 1 flags c) (f c) (all c)))

or_assoc : (a b d : Bool) → ((a || b) || d) ≡ (a || (b || d))
or_assoc true b d = refl
or_assoc false b d = refl

-- two kinds set besides, one after the other
pub both_flagged : (flags mid now : List Bool) (f g : ℕ → Bool)
    → mid ≡ list_by_index 1 40 (λ c. entry false 1 flags c || f c)
    → now ≡ list_by_index 1 40 (λ c. entry false 1 mid c || g c)
    → now ≡ list_by_index 1 40 (λ c. entry false 1 flags c || (f c || g c))
both_flagged flags mid now f g first second =
    second
    ∙ same_indexed 1 40 (λ c. entry false 1 mid c || g c) (λ c. entry false 1 flags c || (f c || g c)) (λ c low high.
    ap (λ b. b || g c) (ap (λ (l : List Bool). entry false 1 l c) first
    ∙ entry-list_by_index false 1 40 (λ d. entry false 1 flags d || f d) c low high)
    ∙ or_assoc (entry false 1 flags c) (f c) (g c))

-- one stroke more
pub flagged_more : {X : Type 0} (f : X → ℕ → Bool) (xs : List X) (i : ℕ) (x : X) (flags now : List Bool) → i < length xs
    → x ≡ get_or xs i x
    → flags ≡ list_by_index 1 40 (λ c. list_any (λ y. f y c) (take i xs))
    → now ≡ list_by_index 1 40 (λ c. entry false 1 flags c || f x c)
    → now ≡ list_by_index 1 40 (λ c. list_any (λ y. f y c) (take (i + 1) xs))
flagged_more f xs i x flags now below is so more =
    more
    ∙ same_indexed 1 40 (λ c. entry false 1 flags c || f x c) (λ c. list_any (λ y. f y c) (take (i + 1) xs))
    (λ c low high.
    ap (λ b. b || f x c) (ap (λ (l : List Bool). entry false 1 l c) so
    ∙ entry-list_by_index false 1 40 (λ d. list_any (λ y. f y d) (take i xs)) c low high)
    ∙ ap (λ y. list_any (λ z. f z c) (take i xs) || f y c) is
    ∙ sym (list_any_more (λ y. f y c) xs i x below))

-- no stroke
pub flagged_first : {X : Type 0} (f : X → ℕ → Bool) → replicate 40 false ≡ list_by_index 1 40 (λ c. list_any (λ y. f y c) [])
flagged_first f =
    sym (list_by_index-entry false 1 40 (replicate 40 false) (length-replicate 40 false))
    ∙ same_indexed 1 40 (entry false 1 (replicate 40 false)) (λ c. list_any (λ y. f y c) []) (λ c low high.
    entry_from false 1 (replicate 40 false) c low ∙ get_or-replicate 40 (c - 1) false false (omega (arith, low, high)))

-- a stroke that defines nothing sets no flag
pub none_defined : (flags : List Bool) (names : RowNames) (looks : List Look) (x : Stroke) → length flags ≡ 40
    → defines x ≡ false
    → flags ≡ list_by_index 1 40 (λ c. entry false 1 flags c
    || redefines_place (names_kept names c) (pattern_shown (column_entry blank_look looks c).shape) x)
none_defined flags names looks x long nothing =
    none_flagged flags (λ c. redefines_place (names_kept names c) (pattern_shown (column_entry blank_look looks c).shape) x)
    long (λ c. redefines_nothing (names_kept names c) (pattern_shown (column_entry blank_look looks c).shape) x nothing)
