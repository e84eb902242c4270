-- The slots of an area turned by one, against the order that a turn makes of them.
use Rattle.std.proofs.Common.{◌≡◌, ℕ, ◌+◌, ◌-◌, ◌<◌, ◌≤◌, inl, inr, List, ◌++◌, get_or, length, take, drop}
use Rattle.std.proofs.Common.{sym, ap, ◌∙◌, arith, rules}
use Rattle.std.proofs.lemmas.List.{places}
use Rattle.std.proofs.lemmas.Bool.{cases_lt}
use Rattle.std.proofs.lemmas.Bool.Decides.{nat_tests}
use borrow.Rule.Slice.PartMut.{put_mid, mid_of}
use Rattle.cept_codes.specs.declared.command.Up.{Up}
use Rattle.cept_codes.specs.declared.command.Up.TheVariants as ways
use Rattle.cept_codes.specs.Command.{IsArea}
use Rattle.cept_codes.proofs.Laws.{same_lists, entry_from, entry-list_by_index, length-list_by_index}
use Rattle.cept_profile.specs.Cells.{shifted}
use Rattle.cept_scroll.specs.Order.{order_after, slot_of, freed_slot}

-- ---- what stands below, in and past a part of a list that was written, and how long the list is

below_part : (top k i : ℕ) (slots part : List ℕ) → top + k ≤ length slots → length part ≡ k → i < top
    → get_or (put_mid top k slots part) i 0 ≡ get_or slots i 0
below_part top k i slots part room many low = grind (arith, places)

in_part : (top k i : ℕ) (slots part : List ℕ) → top + k ≤ length slots → length part ≡ k → top ≤ i → i < top + k
    → get_or (put_mid top k slots part) i 0 ≡ get_or part (i - top) 0
in_part top k i slots part room many low high = grind (arith, places)

past_part : (top k i : ℕ) (slots part : List ℕ) → top + k ≤ length slots → length part ≡ k → top + k ≤ i
    → get_or (put_mid top k slots part) i 0 ≡ get_or slots i 0
past_part top k i slots part room many high = grind (arith, places)

length-put_mid : (top k : ℕ) (slots part : List ℕ) → top + k ≤ length slots → length part ≡ k
    → length (put_mid top k slots part) ≡ length slots
length-put_mid top k slots part room many = search (rules, places)

-- ---- an area whose slots are as a shift makes them

above_area : (way : Up) (first last blank r : ℕ) (was : ℕ → ℕ) → r < first → was r ≡ shifted way first last blank was r
above_area ways.Up first last blank r was above = grind (arith, nat_tests)
above_area ways.Down first last blank r was above = grind (arith, nat_tests)

below_area : (way : Up) (first last blank r : ℕ) (was : ℕ → ℕ) → last < r → was r ≡ shifted way first last blank was r
below_area ways.Up first last blank r was below = grind (arith, nat_tests)
below_area ways.Down first last blank r was below = grind (arith, nat_tests)

-- ---- the slots of the area, cut after n, with both sides in each other's place

pub length-mid_of : (top k : ℕ) (slots : List ℕ) → top + k ≤ length slots → length (mid_of top k slots) ≡ k
length-mid_of top k slots room = grind (arith, places)

read-mid_of : (top k i r : ℕ) (slots : List ℕ) → i < k → top + i + 1 ≡ r
    → get_or (mid_of top k slots) i 0 ≡ slot_of slots r
read-mid_of top k i r slots low e =
    let index : top + i ≡ r - 1 = omega arith in
    let read : get_or (mid_of top k slots) i 0 ≡ get_or slots (top + i) 0 = grind (arith, places) in
    read ∙ ap (λ j. get_or slots j 0) index ∙ sym (entry_from 0 1 slots r (omega arith))

length-cut : (n : ℕ) (part : List ℕ) → n ≤ length part → length (drop n part ++ take n part) ≡ length part
length-cut n part le = grind (arith, places)

from_right : (n i : ℕ) (part : List ℕ) → n + i < length part
    → get_or (drop n part ++ take n part) i 0 ≡ get_or part (n + i) 0
from_right n i part low = grind (arith, places)

from_left : (n i j : ℕ) (part : List ℕ) → n ≤ length part → length part + j ≡ n + i → j < n
    → get_or (drop n part ++ take n part) i 0 ≡ get_or part j 0
from_left n i j part le e low =
    let index : i ≡ (length part - n) + j = omega arith in
    let read : get_or (drop n part ++ take n part) ((length part - n) + j) 0 ≡ get_or part j 0 = grind (arith, places) in
    ap (λ m. get_or (drop n part ++ take n part) m 0) index ∙ read

turned : (way : Up) (slots part : List ℕ) (first last top k n : ℕ) → IsArea first last → length slots ≡ 24
    → top + 1 ≡ first → top + k ≡ last → n ≤ k → part ≡ drop n (mid_of top k slots) ++ take n (mid_of top k slots)
    → ((r : ℕ) → first ≤ r → r + n ≤ last
    → slot_of slots (r + n) ≡ shifted way first last (freed_slot way first last slots) (slot_of slots) r)
    → ((r : ℕ) → r ≤ last → last < r + n
    → slot_of slots (r + n - k) ≡ shifted way first last (freed_slot way first last slots) (slot_of slots) r)
    → put_mid top k slots part ≡ order_after way first last slots
turned way slots part first last top k n area rows et ek le same right left =
    let room : top + k ≤ length slots = omega (arith, area, rows) in
    let mid : length (mid_of top k slots) ≡ k = length-mid_of top k slots room in
    let many : length part ≡ k = ap length same ∙ length-cut n (mid_of top k slots) (omega (arith, le, mid)) ∙ mid in
    let all : length (put_mid top k slots part) ≡ 24 = length-put_mid top k slots part room many ∙ rows in
    let blank : ℕ = freed_slot way first last slots in
    let in_area : (r : ℕ) → first ≤ r → r ≤ last
    → get_or part (r - 1 - top) 0 ≡ shifted way first last blank (slot_of slots) r =
    λ r low high.
    ap (λ (l : List ℕ). get_or l (r - 1 - top) 0) same
    ∙ elim (cases_lt last (r + n)) [
      | inl past ↦
          from_left n (r - 1 - top) (r - 1 - top + n - k) (mid_of top k slots) (omega (arith, le, mid))
          (omega (arith, mid)) (omega (arith, low, high))
          ∙ read-mid_of top k (r - 1 - top + n - k) (r + n - k) slots (omega (arith, low, high, le)) (omega arith)
          ∙ left r high past
      | inr within ↦
          from_right n (r - 1 - top) (mid_of top k slots) (omega (arith, mid))
          ∙ read-mid_of top k (n + (r - 1 - top)) (r + n) slots (omega arith) (omega arith)
          ∙ right r low within
    ] in
    same_lists 0 1 (put_mid top k slots part) (order_after way first last slots)
    (all ∙ sym (length-list_by_index 1 24 _))
    (λ r low high.
    let read : get_or (put_mid top k slots part) (r - 1) 0 ≡ shifted way first last blank (slot_of slots) r =
    elim (cases_lt r first) [
      | inl above ↦
          below_part top k (r - 1) slots part room many (omega arith) ∙ sym (entry_from 0 1 slots r low)
          ∙ above_area way first last blank r (slot_of slots) above
      | inr from_first ↦
          elim (cases_lt last r) [
            | inl below ↦
                past_part top k (r - 1) slots part room many (omega arith) ∙ sym (entry_from 0 1 slots r low)
                ∙ below_area way first last blank r (slot_of slots) below
            | inr to_last ↦
                in_part top k (r - 1) slots part room many (omega arith) (omega arith) ∙ in_area r from_first to_last
          ]
    ] in
    entry_from 0 1 (put_mid top k slots part) r low ∙ read
    ∙ sym (entry-list_by_index 0 1 24 _ r low (omega (arith, high, all))))

-- ---- turned by one, up and down

pub turned_up : (slots part : List ℕ) (first last top k : ℕ) → IsArea first last → length slots ≡ 24
    → top + 1 ≡ first → top + k ≡ last → part ≡ drop 1 (mid_of top k slots) ++ take 1 (mid_of top k slots)
    → put_mid top k slots part ≡ order_after ways.Up first last slots
turned_up slots part first last top k area rows et ek same =
    turned ways.Up slots part first last top k 1 area rows et ek (omega (arith, area)) same
    (λ r low high. grind (arith, nat_tests))
    (λ r high past. let e : r + 1 - k ≡ first = omega arith in grind (arith, nat_tests))

pub turned_down : (slots part : List ℕ) (first last top k n : ℕ) → IsArea first last → length slots ≡ 24
    → top + 1 ≡ first → top + k ≡ last → n + 1 ≡ k
    → part ≡ drop n (mid_of top k slots) ++ take n (mid_of top k slots)
    → put_mid top k slots part ≡ order_after ways.Down first last slots
turned_down slots part first last top k n area rows et ek en same =
    turned ways.Down slots part first last top k n area rows et ek (omega arith) same
    (λ r low high. let e : r + n ≡ last = omega arith in grind (arith, nat_tests))
    (λ r high past. let e : r + n - k ≡ r - 1 = omega arith in grind (arith, nat_tests))
