-- Orders of rows (own): which slot holds each row of the screen, what the rows of an area that move make of it, and
-- what is kept in the slots by the row that each holds.
use Rattle.std.specs.Prelude.{ℕ, ◌≡◌, ◌≤◌, ◌==◌, if◌then◌else◌, List, [], length}
use Rattle.cept_codes.specs.declared.command.Up.{Up}
use Rattle.cept_codes.specs.declared.command.Up.TheVariants as ways
use Rattle.cept_codes.specs.Table.{entry, list_by_index, IsTable}
use Rattle.cept_profile.specs.Cells.{shifted}

-- the slot that holds this row, rows from 1
abbrev pub slot_of : List ℕ → ℕ → ℕ
slot_of order r = entry 0 1 order r

-- the slots of the 24 rows are the numbers 1 to 24, each once
pub record IsRowOrder (order : List ℕ) : Type 0 where
  pub rows : length order ≡ 24
  pub slots : (r : ℕ) → 1 ≤ r → r ≤ 24 → (1 ≤ slot_of order r) × (slot_of order r ≤ 24)
  pub once : (r q : ℕ) → 1 ≤ r → r ≤ 24 → 1 ≤ q → q ≤ 24 → slot_of order r ≡ slot_of order q → r ≡ q

-- this slot holds a row
abbrev pub HoldsRow : List ℕ → ℕ → Type 0
HoldsRow order slot = (r : ℕ) × (1 ≤ r) × (r ≤ 24) × (slot_of order r ≡ slot)

-- each row in the slot of its own number
abbrev pub first_order : List ℕ
first_order = list_by_index 1 24 (λ r. r)

-- the row that leaves the area when its rows go up, or down
abbrev pub leaving_row : Up → ℕ → ℕ → ℕ
leaving_row ways.Up first last = first
leaving_row ways.Down first last = last

-- the slot of that row, which comes free
abbrev pub freed_slot : Up → ℕ → ℕ → List ℕ → ℕ
freed_slot way first last order = slot_of order (leaving_row way first last)

-- the order after the rows of an area went one up or down, each with its slot: the freed slot holds the row that came
-- free
abbrev pub order_after : Up → ℕ → ℕ → List ℕ → List ℕ
order_after way first last order =
    list_by_index 1 24 (shifted way first last (freed_slot way first last order) (slot_of order))

-- what is kept in the slots, by the row that each holds
abbrev pub by_row : {X : Type 0} → List ℕ → (ℕ → X) → ℕ → X
by_row order kept r = kept (slot_of order r)

-- what is kept in the slots after one was written
abbrev pub with_slot : {X : Type 0} → ℕ → X → (ℕ → X) → ℕ → X
with_slot slot x kept s = if slot == s then x else kept s

-- rows that are kept in slots, from slot 1, in the order of the screen
abbrev pub rows_in_order : {X : Type 0} → List ℕ → List (List X) → List (List X)
rows_in_order order kept = list_by_index 1 24 (by_row order (entry [] 1 kept))

-- rows after those of an area went one up or down: the one that left the area stands in the row that came free
abbrev pub rows_turned : {X : Type 0} → Up → ℕ → ℕ → List (List X) → List (List X)
rows_turned way first last rows =
    list_by_index 1 24 (shifted way first last (entry [] 1 rows (leaving_row way first last)) (entry [] 1 rows))

-- 24 rows of 40, each kept in a slot
pub record AreInSlots {X : Type 0} (order : List ℕ) (kept : List (List X)) : Type 0 where
  pub ordered : IsRowOrder order
  pub table : IsTable kept
