-- Rows kept under slots, by the rows that the slots hold: read, written and turned.
use Rattle.std.proofs.Common.{◌≡◌, ℕ, ◌+◌, ◌-◌, ◌<◌, ◌≤◌, ◌==◌, inl, inr, cond, List, [], get_or, set, length, refl}
use Rattle.std.proofs.Common.{sym, ap, ◌∙◌, arith}
use Rattle.std.proofs.lemmas.Bool.{cases_eq}
use Rattle.std.proofs.lemmas.List.{get_or_default, get_or-set_other, get_or-set_same, length-set}
use Rattle.cept_codes.specs.declared.command.Up.{Up}
use Rattle.cept_codes.specs.Command.{IsArea}
use Rattle.cept_codes.specs.Table.{entry, list_by_index, IsTable}
use Rattle.cept_codes.proofs.Laws.{entry_from, entry-list_by_index, length-list_by_index, list_by_index-entry}
use Rattle.cept_codes.proofs.Laws.{same_indexed, set-entry}
use Rattle.cept_profile.specs.Cells.{shifted}
use Rattle.cept_scroll.specs.Order.{AreInSlots, by_row, first_order, leaving_row, order_after}
use Rattle.cept_scroll.specs.Order.{rows_in_order, rows_turned, slot_of, with_slot}
use Rattle.cept_scroll.proofs.Orders.{IsRowOrder-order_after, by_row-first, by_row-turned_rows, by_row-with_slot}

pub rows_in_order-first : {X : Type 0} (kept : List (List X)) → IsTable kept → rows_in_order first_order kept ≡ kept
rows_in_order-first kept is =
    same_indexed 1 24 (by_row first_order (entry [] 1 kept)) (entry [] 1 kept)
    (λ r low high. by_row-first (entry [] 1 kept) r low (omega (arith, high)))
    ∙ list_by_index-entry [] 1 24 kept is.rows

-- ---- a row read

length-rows_in_order : {X : Type 0} (order : List ℕ) (kept : List (List X)) → length (rows_in_order order kept) ≡ 24
length-rows_in_order order kept = length-list_by_index 1 24 (by_row order (entry [] 1 kept))

entry-rows_in_order : {X : Type 0} (order : List ℕ) (kept : List (List X)) (r : ℕ) → 1 ≤ r → r ≤ 24
    → entry [] 1 (rows_in_order order kept) r ≡ by_row order (entry [] 1 kept) r
entry-rows_in_order order kept r low high =
    entry-list_by_index [] 1 24 (by_row order (entry [] 1 kept)) r low (omega (arith, high))

pub row_read : {X : Type 0} {order : List ℕ} {kept rows : List (List X)} → AreInSlots order kept
    → rows_in_order order kept ≡ rows → (r i : ℕ) (d e : List X) → 1 ≤ r → r ≤ 24 → i ≡ slot_of order r - 1
    → get_or kept i d ≡ get_or rows (r - 1) e
row_read {X} {order} {kept} are view r i d e low high at =
    let slot : (1 ≤ slot_of order r) × (slot_of order r ≤ 24) = are.ordered.slots r low high in
    get_or_default kept i d [] (omega (arith, at, slot, are.table.rows))
    ∙ ap (λ k. get_or kept k []) at
    ∙ sym (entry_from [] 1 kept (slot_of order r) slot.0)
    ∙ sym (entry-rows_in_order order kept r low high)
    ∙ entry_from [] 1 (rows_in_order order kept) r low
    ∙ get_or_default (rows_in_order order kept) (r - 1) [] e (omega (arith, length-rows_in_order order kept, low, high))
    ∙ ap (λ (t : List (List X)). get_or t (r - 1) e) view

pub IsTable-rows : {X : Type 0} {order : List ℕ} {kept rows : List (List X)} → AreInSlots order kept
    → rows_in_order order kept ≡ rows → IsTable rows
IsTable-rows {X} {order} {kept} {rows} are view = record {
  rows = ap length (sym view) ∙ length-rows_in_order order kept;
  columns = λ i d below.
      let back : i ≡ i + 1 - 1 = omega arith in
      let slot : (1 ≤ slot_of order (i + 1)) × (slot_of order (i + 1) ≤ 24) =
      are.ordered.slots (i + 1) (omega arith) (omega (arith, below)) in
      let read : get_or rows i d ≡ get_or kept (slot_of order (i + 1) - 1) d =
      ap (λ k. get_or rows k d) back
      ∙ sym (row_read are view (i + 1) (slot_of order (i + 1) - 1) d d (omega arith) (omega (arith, below)) refl) in
      ap length read ∙ are.table.columns (slot_of order (i + 1) - 1) d (omega (arith, slot));
}

-- ---- a row written

pub row_written : {X : Type 0} {order : List ℕ} {kept rows : List (List X)} → AreInSlots order kept
    → rows_in_order order kept ≡ rows → (r i : ℕ) (row : List X) → 1 ≤ r → r ≤ 24 → i ≡ slot_of order r - 1
    → rows_in_order order (set kept i row) ≡ set rows (r - 1) row
row_written {X} {order} {kept} are view q i row low high at =
    let slot : (1 ≤ slot_of order q) × (slot_of order q ≤ 24) = are.ordered.slots q low high in
    let was : List (List X) = rows_in_order order kept in
    let one : List (List X) = set kept i row in
    let in_slots : one ≡ list_by_index 1 24 (with_slot (slot_of order q) row (entry [] 1 kept)) =
    set-entry [] row 1 24 i (slot_of order q) kept are.table.rows (omega (arith, slot, at)) (omega (arith, slot, at)) in
    same_indexed 1 24 (by_row order (entry [] 1 one)) (λ r. cond (q == r) row (entry [] 1 was r)) (λ r from_top past.
    let to_bottom : r ≤ 24 = omega (arith, past) in
    let there : (1 ≤ slot_of order r) × (slot_of order r ≤ 24) = are.ordered.slots r from_top to_bottom in
    ap (λ (t : List (List X)). entry [] 1 t (slot_of order r)) in_slots
    ∙ entry-list_by_index [] 1 24 (with_slot (slot_of order q) row (entry [] 1 kept)) (slot_of order r) there.0
    (omega (arith, there.1))
    ∙ by_row-with_slot order (entry [] 1 kept) row q r are.ordered low high from_top to_bottom
    ∙ ap (λ (l : List X). cond (q == r) row l) (sym (entry-rows_in_order order kept r from_top to_bottom)))
    ∙ sym (set-entry [] row 1 24 (q - 1) q was (length-rows_in_order order kept) (omega (arith, low, high))
    (omega (arith, low)))
    ∙ ap (λ (t : List (List X)). set t (q - 1) row) view

pub AreInSlots-set : {X : Type 0} {order : List ℕ} {kept : List (List X)} → AreInSlots order kept
    → (i : ℕ) (row : List X) → i < 24 → length row ≡ 40 → AreInSlots order (set kept i row)
AreInSlots-set {X} {order} {kept} are i row below long = record {
  ordered = are.ordered;
  table = record {
    rows = length-set kept i row ∙ are.table.rows;
    columns = λ k d to_end.
        elim (cases_eq k i) [
          | inl e ↦
              ap (λ n. length (get_or (set kept i row) n d)) e
              ∙ ap length (get_or-set_same kept i row d (omega (arith, below, are.table.rows))) ∙ long
          | inr ne ↦ ap length (get_or-set_other kept i k row d ne) ∙ are.table.columns k d to_end
        ];
  };
}

-- ---- rows turned

pub rows_in_order-turned : {X : Type 0} (order : List ℕ) (kept : List (List X)) {rows : List (List X)}
    → rows_in_order order kept ≡ rows → (way : Up) (first last : ℕ) → IsArea first last
    → rows_in_order (order_after way first last order) kept ≡ rows_turned way first last rows
rows_in_order-turned {X} order kept view way first last area =
    let was : ℕ → List X = entry [] 1 (rows_in_order order kept) in
    same_indexed 1 24 (by_row (order_after way first last order) (entry [] 1 kept))
    (shifted way first last (was (leaving_row way first last)) was)
    (λ r low high. by_row-turned_rows [] order (entry [] 1 kept) way first last r area low (omega (arith, high)))
    ∙ ap (λ (t : List (List X)). rows_turned way first last t) view

pub AreInSlots-turned : {X : Type 0} {order : List ℕ} {kept : List (List X)} → AreInSlots order kept
    → (way : Up) (first last : ℕ) → IsArea first last → AreInSlots (order_after way first last order) kept
AreInSlots-turned {order = order} are way first last area =
    record { ordered = IsRowOrder-order_after way first last order area are.ordered; table = are.table }
