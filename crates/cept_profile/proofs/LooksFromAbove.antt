-- Looks of a row from its own cells and from the looks of the row above.
use Rattle.std.proofs.Common.{◌≡◌, ℕ, ◌+◌, ◌-◌, ◌≤◌, ◌||◌, not, Bool, false, Some, None, List, length, map}
use Rattle.std.proofs.Common.{sym, ap, ◌∙◌, subst, inl, inr, refl, arith}
use Rattle.std.specs.Prelude.{IsTrue, IsFalse}
use Rattle.std.proofs.lemmas.Bool.{and_cases, and_left, cond-false, not-false, or_from, or_parts}
use Rattle.std.proofs.lemmas.List.{length-map}
use Rattle.cept_codes.specs.declared.attribute.Size.{Size}
use Rattle.cept_codes.specs.declared.attribute.Size.TheVariants as sizes
use Rattle.cept_codes.specs.declared.look.Look.{Look}
use Rattle.cept_codes.specs.declared.look.Part.{Part}
use Rattle.cept_codes.specs.Look.{blank_look}
use Rattle.cept_codes.specs.Place.{OnScreen}
use Rattle.cept_codes.specs.Same.{same_look}
use Rattle.cept_codes.specs.Table.{IsTable}
use Rattle.cept_codes.proofs.Laws.{look_decides}
use Rattle.cept_profile.specs.Look.{look, look_in_row, looks_of, own_look, own_size}
use Rattle.cept_profile.specs.Look.{part_of, parts_of}
use Rattle.cept_profile.specs.RowsFromAbove.{covering, is_covered_otherwise, is_other_covering, look_by, look_seen}
use Rattle.cept_profile.specs.RowsFromAbove.{look_of_origin, look_with_part, looks_in, row_from_above}
use Rattle.cept_profile.specs.State.{Core}
use Rattle.cept_profile.specs.Tiling.{IsTiled, column_entry, covers_below, is_covered_from_left, part_at}
use Rattle.cept_profile.specs.Tiling.{single_part}
use Rattle.cept_profile.proofs.ColumnEntries.{column_entry-default, column_entry-map, length-row_in, no_index}
use Rattle.cept_profile.proofs.ColumnEntries.{none_passes}
use Rattle.cept_profile.proofs.ColumnEntries.{same_columns}
use Rattle.cept_profile.proofs.LookByNeighbours.{look_by-above, look_by-itself, look_by-left}
use Rattle.cept_profile.proofs.LooksOfOrigins.{look_seen-by, look_seen-on, looks_in-by, looks_through}
use Rattle.cept_profile.proofs.LooksOfOrigins.{row_from_above-alike, single_covers_nothing, single_shows_itself}
use Rattle.cept_profile.proofs.TiledTables.{IsTiled-only, IsTiled-tiled_table, OnScreen-origin}
use Rattle.cept_profile.specs.Edges.{edges_of_core, is_last}

-- ---- a core's looks are those through the origins of its parts

pub tiled_parts : (k : Core) → IsTiled (own_size k) (is_last (edges_of_core k)) (parts_of k)
tiled_parts k = IsTiled-tiled_table (own_size k) (is_last (edges_of_core k))

-- no other parts are tiled by the sizes of a core
pub tiled_parts-only : (k : Core) (t : List (List Part)) → IsTiled (own_size k) (is_last (edges_of_core k)) t → t ≡ parts_of k
tiled_parts-only k t is = IsTiled-only (own_size k) (is_last (edges_of_core k)) t is

-- so a look is told by any parts that are tiled so, and each origin is on the screen
pub look-by_origin : (k : Core) (t : List (List Part)) (r c : ℕ) → IsTiled (own_size k) (is_last (edges_of_core k)) t
    → look k r c ≡ look_of_origin (own_look k) r c (part_at t r c)
unfolding look
look-by_origin k t r c is =
    ap (λ (parts : List (List Part)). look_of_origin (own_look k) r c (part_at parts r c))
    (sym (tiled_parts-only k t is))

pub origin-on_screen : (k : Core) (t : List (List Part)) (r c : ℕ) → IsTiled (own_size k) (is_last (edges_of_core k)) t
    → OnScreen r c → OnScreen (r - (part_at t r c).dy) (c - (part_at t r c).dx)
origin-on_screen k t r c is on = OnScreen-origin (own_size k) (is_last (edges_of_core k)) t r c is on

looks-through : (k : Core) → looks_of k ≡ looks_through (own_look k) (parts_of k)
unfolding look
looks-through k = refl

-- the look of a place is the one that the grid shows there
pub look-seen : (k : Core) (r c : ℕ) → OnScreen r c → look_seen (looks_of k) r c ≡ look k r c
unfolding look
look-seen k r c on = look_seen-on (own_look k) (parts_of k) r c on

pub looks_in-from_above : (k : Core) (r : ℕ) → 1 ≤ r → r ≤ 24
    → looks_in (looks_of k) r
    ≡ row_from_above (looks_in (looks_of k) (r - 1)) (own_look k r) (own_size k r) (is_last (edges_of_core k) r)
looks_in-from_above k r low high =
    subst (λ g. looks_in g r ≡ row_from_above (looks_in g (r - 1)) (own_look k r) (own_size k r) (is_last (edges_of_core k) r))
    (sym (looks-through k)) (looks_in-by (tiled_parts k) (own_look k) r low high)

-- the look of a place by the looks seen around it
look-by : (k : Core) (r c : ℕ) → OnScreen r c
    → look k r c
    ≡ look_by (look_seen (looks_of k) (r - 1) c) (look_seen (looks_of k) (r - 1) (c - 1))
    (look_seen (looks_of k) (r - 1) (c + 1)) (look_seen (looks_of k) r (c - 1)) (own_look k r c) (own_size k r c)
    (is_last (edges_of_core k) r) c
unfolding look
look-by k r c on =
    sym (look-seen k r c on) ∙ look_seen-by (tiled_parts k) (own_look k) r c on

pub look-above : (k : Core) (r c : ℕ) → OnScreen r c
    → IsTrue (covers_below (part_of (look_seen (looks_of k) (r - 1) c)))
    → look k r c
    ≡ look_with_part (record (part_of (look_seen (looks_of k) (r - 1) c)) { dy = 1 }) (look_seen (looks_of k) (r - 1) c)
look-above k r c on covered =
    look-by k r c on
    ∙ look_by-above (look_seen (looks_of k) (r - 1) c) (look_seen (looks_of k) (r - 1) (c - 1))
    (look_seen (looks_of k) (r - 1) (c + 1)) (look_seen (looks_of k) r (c - 1)) (own_look k r c) (own_size k r c)
    (is_last (edges_of_core k) r) c covered

pub look-left : (k : Core) (r c : ℕ) → OnScreen r c
    → IsFalse (covers_below (part_of (look_seen (looks_of k) (r - 1) c)))
    → IsTrue (is_covered_from_left (part_of (look_seen (looks_of k) (r - 1) (c - 1)))
    (part_of (look_seen (looks_of k) r (c - 1))))
    → look k r c
    ≡ look_with_part (record (part_of (look_seen (looks_of k) r (c - 1))) { dy = 0; dx = 1 })
    (look_seen (looks_of k) r (c - 1))
look-left k r c on free covered =
    look-by k r c on
    ∙ look_by-left (look_seen (looks_of k) (r - 1) c) (look_seen (looks_of k) (r - 1) (c - 1))
    (look_seen (looks_of k) (r - 1) (c + 1)) (look_seen (looks_of k) r (c - 1)) (own_look k r c) (own_size k r c)
    (is_last (edges_of_core k) r) c free covered

pub part_of-look : (k : Core) (r c : ℕ) → part_of (look k r c) ≡ part_at (parts_of k) r c
unfolding look
part_of-look k r c = refl

pub look-itself : (k : Core) (r c : ℕ) → OnScreen r c
    → IsFalse (covers_below (part_of (look_seen (looks_of k) (r - 1) c)))
    → IsFalse (is_covered_from_left (part_of (look_seen (looks_of k) (r - 1) (c - 1)))
    (part_of (look_seen (looks_of k) r (c - 1))))
    → look k r c ≡ look_with_part (part_at (parts_of k) r c) (own_look k r c)
look-itself k r c on free whole =
    look_by-itself (look_seen (looks_of k) (r - 1) c) (look_seen (looks_of k) (r - 1) (c - 1))
    (look_seen (looks_of k) (r - 1) (c + 1)) (look_seen (looks_of k) r (c - 1)) (own_look k r c) (look k r c)
    (part_at (parts_of k) r c) (own_size k r c) (is_last (edges_of_core k) r) c (look-by k r c on) (part_of-look k r c) free
    whole

-- a row keeps its looks under what covers it
pub row_from_above-same : (above next : List Look) (own own_next : ℕ → Look) (wanted wanted_next : ℕ → Size)
    (last : Bool) → map covering above ≡ map covering next → ((c : ℕ) → 1 ≤ c → c ≤ 40 → own c ≡ own_next c)
    → ((c : ℕ) → 1 ≤ c → c ≤ 40 → wanted c ≡ wanted_next c)
    → row_from_above above own wanted last ≡ row_from_above next own_next wanted_next last
row_from_above-same = row_from_above-alike

pub looks_in-same : (k m : Core) (r q : ℕ) → 1 ≤ r → r ≤ 24 → 1 ≤ q → q ≤ 24
    → map covering (looks_in (looks_of k) (r - 1)) ≡ map covering (looks_in (looks_of m) (q - 1))
    → ((c : ℕ) → 1 ≤ c → c ≤ 40 → own_look k r c ≡ own_look m q c)
    → ((c : ℕ) → 1 ≤ c → c ≤ 40 → own_size k r c ≡ own_size m q c)
    → is_last (edges_of_core k) r ≡ is_last (edges_of_core m) q → looks_in (looks_of k) r ≡ looks_in (looks_of m) q
looks_in-same k m r q low high low_next high_next covers here sizes last =
    looks_in-from_above k r low high
    ∙ row_from_above-same (looks_in (looks_of k) (r - 1)) (looks_in (looks_of m) (q - 1)) (own_look k r)
    (own_look m q) (own_size k r) (own_size m q) (is_last (edges_of_core k) r) covers here sizes
    ∙ ap (λ (b : Bool). row_from_above (looks_in (looks_of m) (q - 1)) (own_look m q) (own_size m q) b) last
    ∙ sym (looks_in-from_above m q low_next high_next)

-- ---- what covers a row from above

pub covering-alike : (a b : Look) → is_other_covering a b ≡ false → covering a ≡ covering b
covering-alike a b alike =
    elim (and_cases (covers_below (part_of a) || covers_below (part_of b)) (not (same_look a b)) alike) [
      | inl neither ↦
          let both = or_parts (covers_below (part_of a)) (covers_below (part_of b)) neither in
          cond-false (covers_below (part_of a)) (Some a) None both.0
          ∙ sym (cond-false (covers_below (part_of b)) (Some b) None both.1)
      | inr same ↦ ap (λ l. covering l) ((look_decides a b).0 (not-false (same_look a b) same))
    ]

none_differs : (g h : List (List Look)) (q r : ℕ) → is_covered_otherwise g q h r ≡ false → (c : ℕ) → 1 ≤ c → c ≤ 40
    → covering (look_seen g (q - 1) c) ≡ covering (look_seen h (r - 1) c)
unfolding is_covered_otherwise
none_differs g h q r none c low high =
    covering-alike (look_seen g (q - 1) c) (look_seen h (r - 1) c)
    (no_index 1 40 (λ d. is_other_covering (look_seen g (q - 1) d) (look_seen h (r - 1) d)) none c low (omega arith))

-- where nothing covers in either grid, nothing differs
pub covering-none : (g h : List (List Look)) (q r : ℕ)
    → ((c : ℕ) → covers_below (part_of (look_seen g (q - 1) c)) ≡ false)
    → ((c : ℕ) → covers_below (part_of (look_seen h (r - 1) c)) ≡ false) → is_covered_otherwise g q h r ≡ false
unfolding is_covered_otherwise
covering-none g h q r free also =
    none_passes 1 40 (λ c. is_other_covering (look_seen g (q - 1) c) (look_seen h (r - 1) c)) (λ c low high.
    and_left
    (covers_below (part_of (look_seen g (q - 1) c)) || covers_below (part_of (look_seen h (r - 1) c)))
    (not (same_look (look_seen g (q - 1) c) (look_seen h (r - 1) c)))
    (or_from (covers_below (part_of (look_seen g (q - 1) c))) (covers_below (part_of (look_seen h (r - 1) c)))
    (free c) (also c)))

same_covering : (above next : List Look) → length above ≡ 40 → length next ≡ 40
    → ((c : ℕ) → 1 ≤ c → c ≤ 40
    → covering (column_entry blank_look above c) ≡ covering (column_entry blank_look next c))
    → map covering above ≡ map covering next
same_covering above next long also same =
    same_columns None (map covering above) (map covering next) (length-map above covering ∙ long)
    (length-map next covering ∙ also) (λ c low high.
    column_entry-map covering blank_look above c ∙ same c low high ∙ sym (column_entry-map covering blank_look next c))

pub covering-same : (g h : List (List Look)) (q r : ℕ) → IsTable g → IsTable h → 1 ≤ q → q ≤ 24 → 1 ≤ r → r ≤ 24
    → is_covered_otherwise g q h r ≡ false → map covering (looks_in g (q - 1)) ≡ map covering (looks_in h (r - 1))
covering-same g h q r is also from to low high none =
    same_covering (looks_in g (q - 1)) (looks_in h (r - 1)) (length-row_in (λ _. blank_look) g (q - 1) is (omega arith))
    (length-row_in (λ _. blank_look) h (r - 1) also (omega arith)) (none_differs g h q r none)

-- ---- rows of single size

pub covers_nothing : (k : Core) (r : ℕ) → 1 ≤ r → r ≤ 24
    → ((c : ℕ) → 1 ≤ c → c ≤ 40 → own_size k r c ≡ sizes.Normal) → (c : ℕ)
    → covers_below (part_of (look_seen (looks_of k) r c)) ≡ false
covers_nothing k r low high single c =
    subst (λ g. covers_below (part_of (look_seen g r c)) ≡ false) (sym (looks-through k))
    (single_covers_nothing (tiled_parts k) (own_look k) r low high single c)

pub covers_nothing-first : (k : Core) (c : ℕ) → covers_below (part_of (look_seen (looks_of k) 0 c)) ≡ false
covers_nothing-first k c = ap (λ (l : Look). covers_below (part_of l)) (column_entry-default blank_look c)

whole_look : (k : Core) (r c : ℕ) → look_with_part single_part (own_look k r c) ≡ own_look k r c
unfolding look_in_row
whole_look k r c = refl

pub look-single : (k : Core) (r c : ℕ) → OnScreen r c → ((d : ℕ) → 1 ≤ d → d ≤ 40 → own_size k r d ≡ sizes.Normal)
    → ((d : ℕ) → covers_below (part_of (look_seen (looks_of k) (r - 1) d)) ≡ false) → look k r c ≡ own_look k r c
unfolding look
look-single k r c on single free =
    single_shows_itself (tiled_parts k) (own_look k) r c on single free ∙ whole_look k r c
