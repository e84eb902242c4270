-- Drawings: compared by pattern and inks, and the inks of a pattern.
use Rattle.std.proofs.Common.{◌≡◌, ℕ, ◌+◌, ◌-◌, ◌≤◌, ◌<◌, ◌==◌, ◌++◌, Bool, true, false, Decides, List, length, get_or}
use Rattle.std.proofs.Common.{replicate, inl, inr}
use Rattle.std.proofs.Common.{refl, sym, ap, ◌∙◌, arith, rules}
use Rattle.std.specs.Cmp.Lexicographic.{pointwise}
use Rattle.std.proofs.lemmas.Bool.{cases_lt, false≢true}
use Rattle.std.proofs.lemmas.List.{append-nil, ext_get_or, get_or-append_right, get_or-replicate, get_or_append_left}
use Rattle.std.proofs.lemmas.List.{length-append, length-replicate}
use Rattle.std.proofs.lemmas.Bool.Decides.{Decides-and, Decides-eqb, Decides-like, nat_tests}
use Rattle.std.proofs.lemmas.Slice.Eq.{slice_eq-Decides}
use Rattle.cept_codes.specs.declared.look.Inks.{Inks}
use Rattle.cept_codes.specs.declared.look.Paint.{Paint}
use Rattle.cept_codes.specs.declared.look.Pattern.{Pattern}
use Rattle.cept_codes.specs.Same.{same_inks, same_paint, same_pattern}
use Rattle.cept_codes.specs.Look.{black_paint}
use Rattle.cept_codes.specs.Table.{HasMadeEntries, list_by_index}
use Rattle.cept_codes.specs.Table.{entry}
use Rattle.cept_codes.proofs.Laws.{HasMadeEntries-all, entry-list_by_index, length-list_by_index}
use Rattle.cept_codes.proofs.Laws.{entry_from}
use Rattle.cept_profile.specs.Definitions.{Definitions, inks_of}
use Rattle.cept_profile.specs.PageParts.{dclut_in, list_of_dclut, paint_in}
use Rattle.cept_rows.specs.declared.drawing.Drawing.{Drawing}

-- ---- comparison

paint_decides : (a b : Paint) → Decides (same_paint a b) (a ≡ b)
paint_decides a b = search rules

pattern_decides : (a b : Pattern) → Decides (same_pattern a b) (a ≡ b)
pattern_decides a b = search rules

paints_decide : (a b : List Paint) → Decides (pointwise same_paint a b) (a ≡ b)
paints_decide a b = slice_eq-Decides paint_decides a b (pointwise same_paint a b) refl

inks_decides : (a b : Inks) → Decides (same_inks a b) (a ≡ b)
inks_decides a b =
    Decides-like (same_inks a b)
    (λ h. λ i. record { count = h.0 i; paints = h.1 i })
    (λ e. (ap (λ p. p.count) e, ap (λ p. p.paints) e))
    (Decides-and _ _ (Decides-eqb a.count b.count) (paints_decide a.paints b.paints))

-- drawings whose patterns differ
pub other_pattern : (r : Bool) (a b : Drawing) → r ≡ same_pattern a.pattern b.pattern → r ≡ false → Decides r (a ≡ b)
other_pattern r a b e f = (
  λ yes. absurd (false≢true (sym f ∙ yes)),
  λ same. e ∙ (pattern_decides a.pattern b.pattern).1 (ap (λ d. d.pattern) same),
)

-- and those that have one pattern are the same where the inks are
pub by_inks : (r : Bool) (a b : Drawing) → same_pattern a.pattern b.pattern ≡ true → r ≡ same_inks a.inks b.inks
    → Decides r (a ≡ b)
by_inks r a b e f =
    let pattern : a.pattern ≡ b.pattern = (pattern_decides a.pattern b.pattern).0 e in
    let inks = inks_decides a.inks b.inks in (
      λ yes. let same : a.inks ≡ b.inks = inks.0 (sym f ∙ yes) in λ i. record { pattern = pattern i; inks = same i },
      λ same. f ∙ inks.1 (ap (λ d. d.inks) same),
    )

-- ---- inks

-- sixteen black paints, before any is given
pub all_black : (from : ℕ) (f : ℕ → Paint)
    → HasMadeEntries black_paint from 16 f (λ _. black_paint) (replicate 16 black_paint) 0
all_black from f = record {
  long = length-replicate 16 black_paint;
  made = λ k low high none. absurd (omega arith);
  left = λ k low high more. entry_from black_paint from (replicate 16 black_paint) k low
      ∙ get_or-replicate 16 (k - from) black_paint black_paint (omega arith);
}

-- read from index 0 on
read_first : (list : List Paint) (k : ℕ) → get_or list k black_paint ≡ entry black_paint 0 list k
read_first list k =
    let index : k ≡ k - 0 = omega arith in
    ap (λ j. get_or list j black_paint) index ∙ sym (entry_from black_paint 0 list k (omega arith))

-- the first four given, and the others black
four_made : (f : ℕ → Paint) (list : List Paint) (n : ℕ)
    → HasMadeEntries black_paint 0 16 f (λ _. black_paint) list n → n ≡ 4
    → list ≡ list_of_dclut f ++ replicate 12 black_paint
four_made f list n made whole =
    let long : length (list_of_dclut f) ≡ 4 = length-list_by_index 0 4 f in
    ext_get_or black_paint list (list_of_dclut f ++ replicate 12 black_paint)
    (made.long ∙ sym (length-append (list_of_dclut f) (replicate 12 black_paint)
    ∙ (λ i. long i + length-replicate 12 black_paint i)))
    (λ k below.
    let inside : k < 16 = omega (arith, below, made.long) in
    read_first list k
    ∙ elim (cases_lt k 4) [
      | inl first ↦
          made.made k (omega arith) inside (omega (arith, first, whole))
          ∙ sym (entry-list_by_index black_paint 0 4 f k (omega arith) first)
          ∙ sym (read_first (list_of_dclut f) k)
          ∙ sym (get_or_append_left (list_of_dclut f) (replicate 12 black_paint) black_paint k (omega
          (arith, first, long)))
      | inr past ↦
          made.left k (omega arith) inside (omega (arith, past, whole))
          ∙ sym (get_or-replicate 12 (k - 4) black_paint black_paint (omega arith))
          ∙ sym (get_or-append_right (list_of_dclut f) (replicate 12 black_paint) 4 k black_paint long past)
    ])

-- the inks of two planes
pub two_planes : (defined : Definitions) (list : List Paint) (n : ℕ)
    → HasMadeEntries black_paint 0 16 (λ i. paint_in defined.paints (dclut_in defined.dclut i))
    (λ _. black_paint) list n
    → n ≡ 4 → (let inks : Inks = record { count = 4; paints = list } in inks) ≡ inks_of defined 2
unfolding inks_of
two_planes defined list n made whole =
    let f : ℕ → Paint = λ i. paint_in defined.paints (dclut_in defined.dclut i) in
    let long : 4 ≡ length (list_of_dclut f) = sym (length-list_by_index 0 4 f) in
    λ i. record {
      count = long i;
      paints = (four_made f list n made whole ∙ ap (λ k. list_of_dclut f ++ replicate (16 - k) black_paint) long) i;
    }

-- the inks of four planes
pub four_planes : (defined : Definitions) (list : List Paint) (n : ℕ)
    → HasMadeEntries black_paint 16 16 (paint_in defined.paints) (λ _. black_paint) list n
    → 16 ≤ n → (let inks : Inks = record { count = 16; paints = list } in inks) ≡ inks_of defined 4
unfolding inks_of
four_planes defined list n made whole =
    let f : ℕ → Paint = paint_in defined.paints in
    let long : 16 ≡ length (list_by_index 16 16 f) = sym (length-list_by_index 16 16 f) in
    λ i. record {
      count = long i;
      paints = (HasMadeEntries-all black_paint 16 16 f (λ _. black_paint) list n made whole
          ∙ sym (append-nil (list_by_index 16 16 f))
          ∙ ap (λ k. list_by_index 16 16 f ++ replicate (16 - k) black_paint) long) i;
    }

-- and of any count but one and two
pub more_planes : (defined : Definitions) (planes : ℕ) → (planes ≡ 1 → ⊥) → (planes ≡ 2 → ⊥)
    → inks_of defined 4 ≡ inks_of defined planes
unfolding inks_of
more_planes defined planes one two =
    let f : (planes == 1) ≡ false = grind (arith, nat_tests) in
    let g : (planes == 2) ≡ false = grind (arith, nat_tests) in rw (f, g) refl
