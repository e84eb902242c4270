-- What a row names is made of its own cells, of its parts and of what the row above names.
use Rattle.std.proofs.Common.{◌≡◌, ℕ, ◌-◌, ◌≤◌, cond, not, ◌==◌, inl, inr, zero, suc, true, false, refl, sym, rules}
use Rattle.std.proofs.Common.{◌∙◌, ap, arith}
use Rattle.std.specs.Prelude.{IsTrue, nat_lt}
use Rattle.std.proofs.lemmas.Bool.{and_parts, cases_Bool, cases_lt, cond_both, eqb-true, not-true, true≢false}
use Rattle.std.proofs.lemmas.Bool.Decides.{nat_tests}
use Rattle.cept_codes.specs.declared.look.Part.{Part}
use Rattle.cept_codes.specs.Place.{OnScreen}
use Rattle.cept_profile.specs.Edges.{edges_of_core, is_last}
use Rattle.cept_profile.specs.Look.{contents_of_row, own_size, parts_of}
use Rattle.cept_profile.specs.Names.{Names, at_origin, contents_at_origin, full_attributes, names_at, names_with}
use Rattle.cept_profile.specs.Names.{own_attributes_in}
use Rattle.cept_profile.specs.NamesFromAbove.{names_by, names_from_above, names_in_row, own_names}
use Rattle.cept_profile.specs.State.{Core}
use Rattle.cept_profile.specs.Tiling.{IsTiledAt, covers_below, covers_right, is_covered_from_left, part_at}
use Rattle.cept_profile.specs.Tiling.{single_part}
use Rattle.cept_profile.proofs.ColumnEntries.{column_entry-default}
use Rattle.cept_profile.proofs.LooksFromAbove.{tiled_parts}
use Rattle.cept_profile.proofs.LooksOfOrigins.{upper_at}
use Rattle.cept_profile.proofs.RowsAlike.{covered_part, names_at-below, upper_part_at}

-- the part of a place of a core
abbrev part_there : Core → ℕ → ℕ → Part
part_there k r c = part_at (parts_of k) r c

-- ---- lower parts

covered_above : (k : Core) (r c : ℕ) → OnScreen r c → 1 ≤ (part_there k r c).dy
    → covers_below (part_there k (r - 1) c) ≡ true
covered_above k r c on lower =
    elim (cases_Bool (covers_below (part_there k (r - 1) c))) [
      | inl covered ↦ covered
      | inr free ↦
          let upper : (part_there k r c).dy ≡ 0 = upper_part_at k r c on free in
          absurd (omega (arith, upper, lower))
    ]

pub names_at-lower : (k : Core) (r c : ℕ) → OnScreen r c → 1 ≤ (part_at (parts_of k) r c).dy
    → names_at k r c ≡ names_at k (r - 1) c
names_at-lower k r c on lower = names_at-below k r c on (covered_above k r c on lower)

-- above the first row none covers
no_first_covers : (k : Core) (c : ℕ) → covers_below (part_there k 0 c) ≡ false
no_first_covers k c = ap (λ p. covers_below p) (column_entry-default single_part c)

-- so what covers a place stands on the screen
covering_on : (k : Core) (r c : ℕ) → OnScreen r c → covers_below (part_there k (r - 1) c) ≡ true → OnScreen (r - 1) c
covering_on k r c on covered =
    elim (cases_lt 1 r) [
      | inl more ↦ search rules
      | inr first ↦
          let top : r - 1 ≡ 0 = omega (arith, first) in
          absurd (true≢false (sym covered ∙ ap (λ q. covers_below (part_there k q c)) top ∙ no_first_covers k c))
    ]

-- ---- right parts

-- an upper part is covered by none
free_above : (k : Core) (r c : ℕ) → OnScreen r c → (part_there k r c).dy ≡ 0
    → covers_below (part_there k (r - 1) c) ≡ false
free_above k r c on upper =
    elim (cases_Bool (covers_below (part_there k (r - 1) c))) [
      | inr free ↦ free
      | inl covered ↦
          let lower : (part_there k r c).dy ≡ 1 = ap (λ (p : Part). p.dy) (covered_part k r c on covered) in
          absurd (omega (arith, upper, lower))
    ]

-- a right part stands beside the upper left one of its sign
record IsBeside (p l : Part) : Type 0 where
  pub right : p ≡ record l { dy = 0; dx = 1 }
  pub upper : l.dy ≡ 0
  pub first : l.dx ≡ 0
  pub wide : l.w ≡ 2

beside : (k : Core) (r c : ℕ) → OnScreen r c → (part_there k r c).dy ≡ 0 → 1 ≤ (part_there k r c).dx
    → IsBeside (part_there k r c) (part_there k r (c - 1))
beside k r c on upper right =
    let is : IsTiledAt (part_there k (r - 1)) (part_there k r) (own_size k r c) (is_last (edges_of_core k) r) c =
    (tiled_parts k).places r c on in
    let free : covers_below (part_there k (r - 1) c) ≡ false = free_above k r c on upper in
    let l : Part = part_there k r (c - 1) in
    let ul : Part = part_there k (r - 1) (c - 1) in
    elim (cases_Bool (is_covered_from_left ul l)) [
      | inr whole ↦
          let none : (part_there k r c).dx ≡ 0 = ap (λ (p : Part). p.dx) (is.origin free whole) in
          absurd (omega (arith, none, right))
      | inl covered ↦
          let both = and_parts (not (covers_below ul)) (covers_right l) covered in
          let sides = and_parts (l.dx == 0) (l.w == 2) both.1 in
          record {
            right = is.from_left free covered;
            upper = upper_at (tiled_parts k) r (c - 1) on.from_top on.to_bottom (omega (arith, on))
                (not-true (covers_below ul) both.0);
            first = eqb-true l.dx 0 sides.0;
            wide = eqb-true l.w 2 sides.1;
          }
    ]

-- left of it there is a column
not_first : (k : Core) (r c : ℕ) → IsBeside (part_there k r c) (part_there k r (c - 1)) → 2 ≤ c
not_first k r c is =
    elim (cases_lt 1 c) [
      | inl more ↦ omega (arith, more)
      | inr first ↦
          let left : c - 1 ≡ 0 = omega (arith, first) in
          let single : (part_there k r (c - 1)).w ≡ 1 = ap (λ (d : ℕ). (part_there k r d).w) left in
          absurd (omega (arith, single, is.wide))
    ]

-- both have the same origin
at_origin-right : {X : Type 0} (own : ℕ → ℕ → X) (r c : ℕ) (p l : Part) → IsBeside p l
    → at_origin own r c p ≡ at_origin own r (c - 1) l
at_origin-right own r c p l is =
    let row : r - 0 ≡ r - l.dy = omega (arith, is.upper) in
    let column : c - 1 ≡ c - 1 - l.dx = omega (arith, is.first) in
    ap (at_origin own r c) is.right ∙ (λ i. own (row i) (column i))

names_at-beside : (k : Core) (r c : ℕ) → IsBeside (part_there k r c) (part_there k r (c - 1))
    → names_at k r c ≡ names_at k r (c - 1)
unfolding full_attributes contents_at_origin
names_at-beside k r c is =
    let attributes : at_origin (own_attributes_in k) r c (part_there k r c)
    ≡ at_origin (own_attributes_in k) r (c - 1) (part_there k r (c - 1)) =
    at_origin-right (own_attributes_in k) r c (part_there k r c) (part_there k r (c - 1)) is in
    let contents : at_origin (contents_of_row k) r c (part_there k r c)
    ≡ at_origin (contents_of_row k) r (c - 1) (part_there k r (c - 1)) =
    at_origin-right (contents_of_row k) r c (part_there k r c) (part_there k r (c - 1)) is in
    λ i. names_with (attributes i) (contents i)

pub names_at-right : (k : Core) (r c : ℕ) → OnScreen r c → (part_at (parts_of k) r c).dy ≡ 0
    → 1 ≤ (part_at (parts_of k) r c).dx → names_at k r c ≡ names_at k r (c - 1)
names_at-right k r c on upper right = names_at-beside k r c (beside k r c on upper right)

-- ---- origins

at_origin-itself : {X : Type 0} (own : ℕ → ℕ → X) (r c : ℕ) (p : Part) → p.dy ≡ 0 → p.dx ≡ 0
    → at_origin own r c p ≡ own r c
at_origin-itself own r c p upper first =
    let row : r - p.dy ≡ r = omega (arith, upper) in
    let column : c - p.dx ≡ c = omega (arith, first) in
    λ i. own (row i) (column i)

pub names_at-itself : (k : Core) (r c : ℕ) → OnScreen r c → (part_at (parts_of k) r c).dy ≡ 0
    → (part_at (parts_of k) r c).dx ≡ 0 → names_at k r c ≡ own_names k r c
unfolding full_attributes contents_at_origin names_in_row
names_at-itself k r c on upper first =
    let attributes : at_origin (own_attributes_in k) r c (part_there k r c) ≡ own_attributes_in k r c =
    at_origin-itself (own_attributes_in k) r c (part_there k r c) upper first in
    let contents : at_origin (contents_of_row k) r c (part_there k r c) ≡ contents_of_row k r c =
    at_origin-itself (contents_of_row k) r c (part_there k r c) upper first in
    λ i. names_with (attributes i) (contents i)

-- ---- rows

-- the names of a place are those of one of three, by its part
names_by-one : (p : Part) (above left own wanted : Names) → (1 ≤ p.dy → wanted ≡ above)
    → (p.dy ≡ 0 → 1 ≤ p.dx → wanted ≡ left) → (p.dy ≡ 0 → p.dx ≡ 0 → wanted ≡ own)
    → wanted ≡ names_by p above left own
names_by-one p above left own wanted lower right first =
    cond_both (nat_lt 0 p.dy) above (cond (nat_lt 0 p.dx) left own) (λ n. wanted ≡ n)
    (λ is. lower (grind (arith, nat_tests)))
    (λ none.
    let upper : p.dy ≡ 0 = grind (arith, nat_tests) in
    cond_both (nat_lt 0 p.dx) left own (λ n. wanted ≡ n)
    (λ is. right upper (grind (arith, nat_tests))) (λ no. first upper (grind (arith, nat_tests))))

names_from_above-at : (above : ℕ → Names) (parts : ℕ → Part) (own : ℕ → Names) (c : ℕ) → 1 ≤ c
    → names_from_above above parts own c
    ≡ names_by (parts c) (above c) (names_from_above above parts own (c - 1)) (own c)
unfolding names_from_above
names_from_above-at above parts own zero low = absurd (omega arith)
names_from_above-at above parts own (suc c) low =
    let back : suc c - 1 ≡ c = omega arith in
    rw back refl

-- names of the places above that cover one below
abbrev AreNamesAbove : Core → ℕ → (ℕ → Names) → Type 0
AreNamesAbove k r above =
    (d : ℕ) → OnScreen (r - 1) d → IsTrue (covers_below (part_at (parts_of k) (r - 1) d))
    → above d ≡ names_at k (r - 1) d

columns_named : (k : Core) (above : ℕ → Names) (r : ℕ) → 1 ≤ r → r ≤ 24 → AreNamesAbove k r above → (c : ℕ) → 1 ≤ c
    → c ≤ 40 → names_at k r c ≡ names_from_above above (part_there k r) (own_names k r) c
columns_named k above r low high names zero left right = absurd (omega arith)
columns_named k above r low high names (suc c) left right =
    let on : OnScreen r (suc c) = record { from_top = low; to_bottom = high; from_left = left; to_right = right } in
    let back : c ≡ suc c - 1 = omega arith in
    let named : ℕ → Names = names_from_above above (part_there k r) (own_names k r) in
    names_by-one (part_there k r (suc c)) (above (suc c)) (named (suc c - 1)) (own_names k r (suc c)) (names_at k r (suc c))
    (λ lower.
    let covered : covers_below (part_there k (r - 1) (suc c)) ≡ true = covered_above k r (suc c) on lower in
    names_at-lower k r (suc c) on lower ∙ sym (names (suc c) (covering_on k r (suc c) on covered) covered))
    (λ upper second.
    let is = beside k r (suc c) on upper second in
    let more : 2 ≤ suc c = not_first k r (suc c) is in
    names_at-beside k r (suc c) is ∙ ap (names_at k r) (sym back)
    ∙ columns_named k above r low high names c (omega (arith, more)) (omega (arith, right)) ∙ ap named back)
    (λ upper first. names_at-itself k r (suc c) on upper first)
    ∙ sym (names_from_above-at above (part_there k r) (own_names k r) (suc c) left)

pub names_at-covered : (k : Core) (above : ℕ → Names) (r c : ℕ) → OnScreen r c
    → ((d : ℕ) → OnScreen (r - 1) d → IsTrue (covers_below (part_at (parts_of k) (r - 1) d))
    → above d ≡ names_at k (r - 1) d)
    → names_at k r c ≡ names_from_above above (part_at (parts_of k) r) (own_names k r) c
names_at-covered k above r c on names =
    columns_named k above r on.from_top on.to_bottom names c on.from_left on.to_right

pub names_at-from_above : (k : Core) (r c : ℕ) → OnScreen r c
    → names_at k r c ≡ names_from_above (names_at k (r - 1)) (part_at (parts_of k) r) (own_names k r) c
names_at-from_above k r c on = names_at-covered k (names_at k (r - 1)) r c on (λ d there covers. refl)
