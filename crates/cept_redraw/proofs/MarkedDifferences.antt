-- The places of a row marked at which two rows of looks differ, and whether a look that differs covers the place below
-- it.
use Rattle.std.proofs.Common.{◌≡◌, ℕ, ◌+◌, ◌-◌, ◌||◌, Bool, false, not, List, get_or}
use Rattle.std.proofs.Common.{refl, sym, ap, ◌∙◌, arith}
use Rattle.std.proofs.lemmas.Bool.{or_from, and_left}
use Rattle.cept_codes.specs.declared.look.Look.{Look}
use Rattle.cept_codes.specs.Look.{blank_look}
use Rattle.cept_codes.specs.Place.{number}
use Rattle.cept_codes.specs.Same.{same_look}
use Rattle.cept_codes.specs.Table.{entry, list_by_index}
use Rattle.cept_codes.proofs.Laws.{entry-list_by_index, entry_from}
use Rattle.cept_profile.specs.Look.{part_of}
use Rattle.cept_profile.specs.Names.{some_place}
use Rattle.cept_profile.specs.RowsFromAbove.{is_other_covering}
use Rattle.cept_profile.specs.Tiling.{column_entry, covers_below}
use Rattle.cept_redraw.specs.inside.Kept.{HasMarkedRow, is_other_above, is_other_look}
use Rattle.cept_redraw.specs.Marks.{is_marked}
use Rattle.cept_redraw.specs.inside.Marks.{HasFlags}
use Rattle.cept_redraw.proofs.RowsOfLooks.{is_other_above-none}

-- what stands in a column of two rows is the same
abbrev pub is_same_in : List Look → List Look → ℕ → Bool
is_same_in was fresh c = same_look (column_entry blank_look was c) (column_entry blank_look fresh c)

-- the looks in this column cover the place below it, before or after
abbrev pub is_covered_below : List Look → List Look → ℕ → Bool
is_covered_below was fresh c =
    covers_below (part_of (column_entry blank_look was c)) || covers_below (part_of (column_entry blank_look fresh c))

differ-not : (a b : Look) → is_other_look a b ≡ not (same_look a b)
unfolding is_other_look
differ-not a b = refl

-- the places of a row marked that are flagged where its looks differ
pub HasMarkedRow-flags : (was fresh : List Look) (r first : ℕ) (flags before marks : List Bool)
    → flags ≡ list_by_index 1 40 (λ c. not (same_look (column_entry blank_look was c) (column_entry blank_look fresh c)))
    → first ≡ number r 1 → HasFlags flags first before marks → HasMarkedRow was fresh r 41 before marks
HasMarkedRow-flags was fresh r first flags before marks e ef has = record {
  places = has.places;
  marked = λ c on below.
      let here : first + (c - 1) ≡ number r c = omega (arith, ef, on) in
      let flag : get_or flags (c - 1) false
      ≡ not (same_look (column_entry blank_look was c) (column_entry blank_look fresh c)) =
      sym (entry_from false 1 flags c on.from_left)
      ∙ ap (λ (l : List Bool). entry false 1 l c) e
      ∙ entry-list_by_index false 1 40
      (λ d. not (same_look (column_entry blank_look was d) (column_entry blank_look fresh d))) c on.from_left
      (omega (arith, on)) in
      ap (is_marked marks) (sym here) ∙ has.row (c - 1) (omega (arith, on))
      ∙ (λ i. is_marked before (here i) || flag i)
      ∙ ap (λ b. is_marked before (number r c) || b)
      (sym (differ-not (column_entry blank_look was c) (column_entry blank_look fresh c)));
  marks_above = λ n up. has.above n (omega (arith, ef, up));
  marks_below = λ n down. has.below n (omega (arith, ef, down));
}

-- two rows that cover nothing
pub uncovered : (was fresh : List Look) → ((c : ℕ) → covers_below (part_of (column_entry blank_look was c)) ≡ false)
    → ((c : ℕ) → covers_below (part_of (column_entry blank_look fresh c)) ≡ false) → is_other_above was fresh ≡ false
uncovered was fresh before after =
    is_other_above-none was fresh (λ c low high.
    and_left (is_covered_below was fresh c) (not (is_same_in was fresh c))
    (or_from (covers_below (part_of (column_entry blank_look was c)))
    (covers_below (part_of (column_entry blank_look fresh c))) (before c) (after c)))

-- what covers the places below is not the same, where it is so in some place
pub other_above : (was fresh : List Look)
    → some_place (λ c. is_other_covering (column_entry blank_look was c) (column_entry blank_look fresh c))
    ≡ is_other_above was fresh
unfolding is_other_above
other_above was fresh = refl
