-- What a turn makes of an order of rows, and what is kept in the slots by the rows that they hold.
use Rattle.std.proofs.Common.{◌≡◌, ◌≢◌, ℕ, ◌≤◌, ◌==◌, inl, inr, List, cond, true, false}
use Rattle.std.proofs.Common.{sym, ap, subst, ◌∙◌, arith}
use Rattle.std.proofs.lemmas.Bool.{cases_eq}
use Rattle.std.proofs.lemmas.Bool.Decides.{nat_tests}
use Rattle.cept_codes.specs.declared.command.Up.{Up}
use Rattle.cept_codes.specs.declared.command.Up.TheVariants as ways
use Rattle.cept_codes.specs.Command.{IsArea}
use Rattle.cept_codes.specs.Table.{entry, list_by_index}
use Rattle.cept_codes.proofs.Laws.{entry-list_by_index, length-list_by_index}
use Rattle.cept_profile.specs.Cells.{shifted}
use Rattle.cept_scroll.specs.Order.{IsRowOrder, by_row, first_order, freed_slot, leaving_row, order_after, slot_of, with_slot}

-- ---- the row whose slot a row has after a turn: the one that came to it, or the one that left the area

abbrev row_of_slot : Up → ℕ → ℕ → ℕ → ℕ
row_of_slot way first last r = shifted way first last (leaving_row way first last) (λ q. q) r

on_screen : (way : Up) (first last r : ℕ) → IsArea first last → 1 ≤ r → r ≤ 24
    → (1 ≤ row_of_slot way first last r) × (row_of_slot way first last r ≤ 24)
on_screen ways.Up first last r area low high = (grind (arith, nat_tests), grind (arith, nat_tests))
on_screen ways.Down first last r area low high = (grind (arith, nat_tests), grind (arith, nat_tests))

one_row : (way : Up) (first last r q : ℕ) → IsArea first last
    → row_of_slot way first last r ≡ row_of_slot way first last q → r ≡ q
one_row ways.Up first last r q area same = grind (arith, nat_tests)
one_row ways.Down first last r q area same = grind (arith, nat_tests)

leaves : (way : Up) (first last : ℕ) → IsArea first last
    → (1 ≤ leaving_row way first last) × (leaving_row way first last ≤ 24)
leaves ways.Up first last area = (omega (arith, area), omega (arith, area))
leaves ways.Down first last area = (omega (arith, area), omega (arith, area))

freed : {X : Type 0} (way : Up) (first last r : ℕ) (blank : X) (was : ℕ → X) → IsArea first last
    → row_of_slot way first last r ≡ leaving_row way first last → shifted way first last blank was r ≡ blank
freed ways.Up first last r blank was area left = grind (arith, nat_tests)
freed ways.Down first last r blank was area left = grind (arith, nat_tests)

moved : {X : Type 0} (way : Up) (first last r : ℕ) (blank : X) (was : ℕ → X)
    → row_of_slot way first last r ≢ leaving_row way first last
    → shifted way first last blank was r ≡ was (row_of_slot way first last r)
moved ways.Up first last r blank was other = grind (arith, nat_tests)
moved ways.Down first last r blank was other = grind (arith, nat_tests)

-- the slot of a row after a turn
slot_after : (way : Up) (first last r : ℕ) (order : List ℕ) → IsArea first last → 1 ≤ r → r ≤ 24
    → slot_of (order_after way first last order) r ≡ slot_of order (row_of_slot way first last r)
slot_after way first last r order area low high =
    entry-list_by_index 0 1 24 _ r low (omega (arith, high))
    ∙ elim (cases_eq (row_of_slot way first last r) (leaving_row way first last)) [
      | inl e ↦
          freed way first last r (freed_slot way first last order) (slot_of order) area e
          ∙ ap (slot_of order) (sym e)
      | inr ne ↦ moved way first last r (freed_slot way first last order) (slot_of order) ne
    ]

-- ---- orders

pub IsRowOrder-order_after : (way : Up) (first last : ℕ) (order : List ℕ) → IsArea first last → IsRowOrder order
    → IsRowOrder (order_after way first last order)
IsRowOrder-order_after way first last order area is = record {
  rows = length-list_by_index 1 24 _;
  slots = λ r low high.
      let on : (1 ≤ row_of_slot way first last r) × (row_of_slot way first last r ≤ 24) =
      on_screen way first last r area low high in
      subst (λ s. (1 ≤ s) × (s ≤ 24)) (sym (slot_after way first last r order area low high)) (is.slots _ on.0 on.1);
  once = λ r q r_low r_high q_low q_high same.
      let on_r : (1 ≤ row_of_slot way first last r) × (row_of_slot way first last r ≤ 24) =
      on_screen way first last r area r_low r_high in
      let on_q : (1 ≤ row_of_slot way first last q) × (row_of_slot way first last q ≤ 24) =
      on_screen way first last q area q_low q_high in
      one_row way first last r q area (is.once _ _ on_r.0 on_r.1 on_q.0 on_q.1
      (sym (slot_after way first last r order area r_low r_high) ∙ same
      ∙ slot_after way first last q order area q_low q_high));
}

-- ---- what is kept in the slots

pub by_row-first : {X : Type 0} (kept : ℕ → X) (r : ℕ) → 1 ≤ r → r ≤ 24 → by_row first_order kept r ≡ kept r
by_row-first kept r low high = ap kept (entry-list_by_index 0 1 24 (λ q. q) r low (omega (arith, high)))

-- a slot written, read at a row
pub by_row-with_slot : {X : Type 0} (order : List ℕ) (kept : ℕ → X) (x : X) (q r : ℕ) → IsRowOrder order
    → 1 ≤ q → q ≤ 24 → 1 ≤ r → r ≤ 24
    → by_row order (with_slot (slot_of order q) x kept) r ≡ cond (q == r) x (by_row order kept r)
by_row-with_slot order kept x q r is q_low q_high r_low r_high =
    elim (cases_eq r q) [
      | inl e ↦
          let here : (slot_of order q == slot_of order r) ≡ (q == r) = grind (arith, nat_tests) in
          ap (λ b. cond b x (by_row order kept r)) here
      | inr ne ↦
          let apart : slot_of order r ≢ slot_of order q = λ same. ne (is.once r q r_low r_high q_low q_high same) in
          let here : (slot_of order q == slot_of order r) ≡ (q == r) = grind (arith, nat_tests) in
          ap (λ b. cond b x (by_row order kept r)) here
    ]

pub by_row-turned : {X : Type 0} (order : List ℕ) (kept : ℕ → X) (blank : X) (way : Up) (first last r : ℕ)
    → IsRowOrder order → IsArea first last → 1 ≤ r → r ≤ 24
    → by_row (order_after way first last order) (with_slot (freed_slot way first last order) blank kept) r
    ≡ shifted way first last blank (by_row order kept) r
by_row-turned {X} order kept blank way first last r is area low high =
    let from : ℕ = row_of_slot way first last r in
    let left : ℕ = leaving_row way first last in
    let on : (1 ≤ from) × (from ≤ 24) = on_screen way first last r area low high in
    let left_on : (1 ≤ left) × (left ≤ 24) = leaves way first last area in
    ap (with_slot (freed_slot way first last order) blank kept) (slot_after way first last r order area low high)
    ∙ by_row-with_slot order kept blank left from is left_on.0 left_on.1 on.0 on.1
    ∙ elim (cases_eq from left) [
      | inl e ↦
          let yes : (left == from) ≡ true = grind (arith, nat_tests) in
          ap (λ b. cond b blank (by_row order kept from)) yes
          ∙ sym (freed way first last r blank (by_row order kept) area e)
      | inr ne ↦
          let no : (left == from) ≡ false = grind (arith, nat_tests) in
          ap (λ b. cond b blank (by_row order kept from)) no
          ∙ sym (moved way first last r blank (by_row order kept) ne)
    ]

-- a row after a turn, by the rows before it
pub by_row-turned_rows : {X : Type 0} (d : X) (order : List ℕ) (kept : ℕ → X) (way : Up) (first last r : ℕ)
    → IsArea first last → 1 ≤ r → r ≤ 24
    → by_row (order_after way first last order) kept r
    ≡ shifted way first last (entry d 1 (list_by_index 1 24 (by_row order kept)) (leaving_row way first last))
    (entry d 1 (list_by_index 1 24 (by_row order kept))) r
by_row-turned_rows {X} d order kept way first last r area low high =
    let from : ℕ = row_of_slot way first last r in
    let left : ℕ = leaving_row way first last in
    let rows : ℕ → X = entry d 1 (list_by_index 1 24 (by_row order kept)) in
    let on : (1 ≤ from) × (from ≤ 24) = on_screen way first last r area low high in
    ap kept (slot_after way first last r order area low high)
    ∙ sym (entry-list_by_index d 1 24 (by_row order kept) from on.0 (omega (arith, on.1)))
    ∙ elim (cases_eq from left) [
      | inl e ↦ ap rows e ∙ sym (freed way first last r (rows left) rows area e)
      | inr ne ↦ sym (moved way first last r (rows left) rows ne)
    ]
