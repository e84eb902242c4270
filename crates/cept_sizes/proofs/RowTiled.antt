-- The parts of a row, made one after the other from the left.
use Rattle.std.proofs.Common.{◌≡◌, ℕ, ◌+◌, ◌-◌, ◌<◌, ◌≤◌, ◌&&◌, not, nat_lt, Bool, true, false, List}
use Rattle.std.proofs.Common.{length}
use Rattle.std.proofs.Common.{get_or, set, refl, sym, ap, subst, ◌∙◌, suc, arith}
use Rattle.std.proofs.lemmas.Bool.{cond-true, cond-false, false≢true, true≢false}
use Rattle.std.proofs.lemmas.List.{get_or_default}
use Rattle.cept_codes.specs.declared.attribute.Size.{Size}
use Rattle.cept_codes.specs.declared.attribute.Size.TheVariants as sizes
use Rattle.cept_codes.specs.declared.look.Part.{Part}
use Rattle.cept_codes.specs.Table.{HasMadeEntries, entry, row_of}
use Rattle.cept_codes.proofs.Laws.{HasMadeEntries-none, HasMadeEntries-more, HasMadeEntries-all, entry_from, row_of-list_by_index}
use Rattle.cept_profile.specs.Tiling.{column_entry, flat_parts, covers_below, covers_right, is_covered_from_left}
use Rattle.cept_profile.specs.Tiling.{is_high, is_wide, origin_part}
use Rattle.cept_profile.specs.Tiling.{part_by, part_from, single_part, tiled_row}

-- column k + 1 stands at the index k, whichever value the reading gives outside
pub column_entry-index : {X : Type 0} (d e : X) (row : List X) (k : ℕ) → k < length row
    → column_entry d row (k + 1) ≡ get_or row k e
column_entry-index d e row k below =
    let back : (k + 1) - 1 ≡ k = omega arith in
    entry_from d 1 row (k + 1) (omega arith) ∙ (λ i. get_or row (back i) d) ∙ get_or_default row k d e below

pub part_from-none : (above : ℕ → Part) (wanted : ℕ → Size) (last : Bool) → part_from above wanted last 0 ≡ single_part
unfolding part_from
part_from-none above wanted last = refl

-- the part in the next column, by the four parts around it
pub part_from-more : (above : ℕ → Part) (wanted : ℕ → Size) (last : Bool) (k : ℕ)
    → part_from above wanted last (k + 1)
    ≡ part_by (above (k + 1)) (above k) (above (k + 2)) (part_from above wanted last k) (wanted (k + 1)) last (k + 1)
unfolding part_from
part_from-more above wanted last k =
    let e : k + 1 ≡ suc k = omega arith in
    let f : k + 2 ≡ suc (suc k) = omega arith in
    rw (e, f) refl

-- the part in column c of the row that is tiled beneath these parts
abbrev pub part_there : List Part → List Size → Bool → ℕ → Part
part_there above wanted last c = part_from (column_entry single_part above) (column_entry sizes.Normal wanted) last c

-- the same by the parts around it and the size there
abbrev pub part_after : List Part → List Size → Bool → ℕ → Part
part_after above wanted last k =
    part_by (column_entry single_part above (k + 1)) (column_entry single_part above k)
    (column_entry single_part above (k + 2)) (part_there above wanted last k)
    (column_entry sizes.Normal wanted (k + 1)) last (k + 1)

-- the part p is made as wanted, beneath this one: `across` where it is the origin of a sign that covers the next place,
-- which is high where `high`
pub record IsMade (above wanted p : Part) (across high : Bool) : Type 0 where
  pub part : p ≡ wanted
  pub covers : across ≡ is_covered_from_left above p
  pub origin : across ≡ true → p ≡ origin_part true high

-- beneath a part that covers the place
pub IsMade-below : (a al ar l p : Part) (size : Size) (last high : Bool) (c : ℕ) → covers_below a ≡ true
    → p ≡ record a { dy = 1 } → IsMade a (part_by a al ar l size last c) p false high
IsMade-below a al ar l p size last high c covered is = record {
  part = is ∙ sym (cond-true _ _ _ covered);
  covers = sym (ap (λ b. not b && covers_right p) covered);
  origin = λ on. absurd (false≢true on);
}

-- to the right of an origin that covers the place
pub IsMade-right : (a al ar l p : Part) (size : Size) (last high next : Bool) (c : ℕ) → covers_below a ≡ false
    → IsMade al l l true high → p ≡ record (origin_part true high) { dy = 0; dx = 1 }
    → IsMade a (part_by a al ar l size last c) p false next
IsMade-right a al ar l p size last high next c uncovered left is = record {
  part =
      is ∙ sym (ap (λ (p : Part). let q : Part = record p { dy = 0; dx = 1 } in q) (left.origin refl))
      ∙ sym (cond-true _ _ _ (sym left.covers))
      ∙ sym (cond-false _ _ _ uncovered);
  covers = sym (λ i. not (uncovered i) && covers_right (is i));
  origin = λ on. absurd (false≢true on);
}

covers_right-origin_part : (wide high : Bool) → covers_right (origin_part wide high) ≡ wide
covers_right-origin_part true high = refl
covers_right-origin_part false high = refl

-- where nothing covers the place
pub IsMade-origin : (a al ar l p : Part) (size : Size) (last before wide high : Bool) (c : ℕ) → covers_below a ≡ false
    → IsMade al l l false before → wide ≡ (is_wide size && nat_lt c 40 && not (covers_below ar))
    → high ≡ (is_high size && not last) → p ≡ origin_part wide high
    → IsMade a (part_by a al ar l size last c) p wide high
IsMade-origin a al ar l p size last before wide high c uncovered left is_wide is_high is = record {
  part = is ∙ (λ i. origin_part (is_wide i) (is_high i)) ∙ sym (cond-false _ _ _ (sym left.covers))
      ∙ sym (cond-false _ _ _ uncovered);
  covers = sym ((λ i. not (uncovered i) && covers_right (is i)) ∙ covers_right-origin_part wide high);
  origin = λ on. is ∙ ap (λ b. origin_part b high) on;
}

-- the same for a sign of single size
pub IsMade-single : (a al ar l p : Part) (size : Size) (last before high : Bool) (c : ℕ) → covers_below a ≡ false
    → IsMade al l l false before → true ≡ (not (is_high size) && not (is_wide size)) → p ≡ single_part
    → IsMade a (part_by a al ar l size last c) p false high
IsMade-single a al ar l p sizes.Normal last before high c uncovered left single is = record {
  part = is ∙ sym (cond-false _ _ _ (sym left.covers)) ∙ sym (cond-false _ _ _ uncovered);
  covers = sym (λ i. not (uncovered i) && covers_right (is i));
  origin = λ on. absurd (false≢true on);
}
IsMade-single a al ar l p sizes.High last before high c uncovered left single is = absurd (true≢false single)
IsMade-single a al ar l p sizes.Wide last before high c uncovered left single is = absurd (true≢false single)
IsMade-single a al ar l p sizes.Both last before high c uncovered left single is = absurd (true≢false single)

-- ---- the parts of the first k columns

-- the first k parts of the row are made, the last of them with `across` and `high`
pub record HasMadeParts (above : List Part) (wanted : List Size) (last : Bool) (row : List Part) (k : ℕ)
    (across high : Bool) : Type 0 where
  pub left : IsMade (column_entry single_part above k) (part_there above wanted last k)
      (part_there above wanted last k) across high
  pub made : HasMadeEntries single_part 1 40 (part_there above wanted last) (entry single_part 1 flat_parts) row k

length-flat_parts : length flat_parts ≡ 40
unfolding row_of
length-flat_parts = refl

pub HasMadeParts-none : (above : List Part) (wanted : List Size) (last high : Bool)
    → HasMadeParts above wanted last flat_parts 0 false high
HasMadeParts-none above wanted last high =
    let none : part_there above wanted last 0 ≡ single_part =
    part_from-none (column_entry single_part above) (column_entry sizes.Normal wanted) last in
    record {
      left = record {
        part = refl;
        covers = sym (ap (is_covered_from_left (column_entry single_part above 0)) none);
        origin = λ on. absurd (false≢true on);
      };
      made = HasMadeEntries-none single_part 1 40 (part_there above wanted last) flat_parts length-flat_parts;
    }

pub HasMadeParts-more : (above : List Part) (wanted : List Size) (last : Bool) (row next : List Part) (k : ℕ)
    (before tall before_next high_next across high : Bool) (p : Part)
    → HasMadeParts above wanted last row k before tall → k < 40
    → IsMade (column_entry single_part above (k + 1)) (part_after above wanted last k) p across high
    → next ≡ set row k p → before_next ≡ across → high_next ≡ high
    → HasMadeParts above wanted last next (k + 1) before_next high_next
HasMadeParts-more above wanted last row next k before tall before_next high_next across high p so_far below m next_is
    across_is high_is =
    let f : ℕ → Part = part_there above wanted last in
    let is : p ≡ f (k + 1) = m.part
    ∙ sym (part_from-more (column_entry single_part above) (column_entry sizes.Normal wanted) last k) in
    record {
      left = record {
        part = refl;
        covers = across_is ∙ m.covers ∙ ap (is_covered_from_left (column_entry single_part above (k + 1))) is;
        origin = λ on. sym is ∙ m.origin (sym across_is ∙ on) ∙ ap (origin_part true) (sym high_is);
      };
      made = subst (λ r. HasMadeEntries single_part 1 40 f (entry single_part 1 flat_parts) r (k + 1)) (sym next_is)
          (HasMadeEntries-more single_part p 1 40 f (entry single_part 1 flat_parts) row k k (k + 1) so_far.made below
          refl (omega arith) is);
    }

-- a row of parts that were all made is the tiled one
pub tiled_row-made : (above : List Part) (wanted : List Size) (last : Bool) (row : List Part) (k : ℕ)
    (across high : Bool) → HasMadeParts above wanted last row k across high → 40 ≤ k
    → row ≡ tiled_row above (column_entry sizes.Normal wanted) last
unfolding tiled_row
tiled_row-made above wanted last row k across high so_far whole =
    let f : ℕ → Part = part_there above wanted last in
    HasMadeEntries-all single_part 1 40 f (entry single_part 1 flat_parts) row k so_far.made whole
    ∙ sym (row_of-list_by_index f)
