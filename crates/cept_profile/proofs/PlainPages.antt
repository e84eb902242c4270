-- A page on which no marker stands and nothing sets a size is seen cell by cell.
use Rattle.std.proofs.Common.{rules}
use Rattle.std.proofs.Common.{◌≡◌, ℕ, ◌-◌, ◌≤◌, ◌||◌, ◌++◌, Bool, false, List, [], ◌∷◌, ap, ◌∙◌, inl, inr, arith}
use Rattle.std.specs.List.{list_any, range_with_len}
use Rattle.std.proofs.lemmas.Bool.{cases_lt, or_parts}
use Rattle.cept_codes.specs.declared.attribute.Size.TheVariants as sizes
use Rattle.cept_codes.specs.declared.cell.What.{What}
use Rattle.cept_codes.specs.declared.command.Command.{Command}
use Rattle.cept_codes.specs.declared.look.Look.{Look}
use Rattle.cept_codes.specs.Place.{OnScreen}
use Rattle.cept_codes.specs.Table.{table}
use Rattle.cept_codes.proofs.Laws.{same_table}
use Rattle.cept_profile.specs.Changes.{changes, changes_between}
use Rattle.cept_profile.specs.Look.{contents_of_row, is_double_set, look, look_of, looks_of, own_size, part_of}
use Rattle.cept_profile.specs.Look.{sets_double_size}
use Rattle.cept_profile.specs.PageParts.{row_pen_in}
use Rattle.cept_profile.specs.RowsFromAbove.{look_seen}
use Rattle.cept_profile.specs.Serial.{is_marker}
use Rattle.cept_profile.specs.State.{Core, core, definitions_of}
use Rattle.cept_profile.specs.Tiling.{covers_below}
use Rattle.cept_profile.proofs.ColumnEntries.{no_index}
use Rattle.cept_profile.proofs.LooksFromAbove.{covers_nothing, covers_nothing-first, look-single}
use Rattle.cept_profile.proofs.LooksInRows.{look_in_row-unmarked, size_in_row-single}

-- it is a marker or sets a size
abbrev pub acts_beyond : What → Bool
acts_beyond w = is_marker w || sets_double_size w

-- no cell is so, and no row and not the screen sets a size
pub record IsPlain (k : Core) : Type 0 where
  pub cells : (r c : ℕ) → OnScreen r c → acts_beyond (contents_of_row k r c) ≡ false
  pub rows : (r : ℕ) → 1 ≤ r → r ≤ 24 → is_double_set (row_pen_in k.page.row_pens r).size ≡ false
  pub screen : is_double_set k.page.screen_pen.size ≡ false

-- the same by a test
abbrev pub is_beyond_in_row : Core → ℕ → Bool
is_beyond_in_row k r =
    list_any (λ c. acts_beyond (contents_of_row k r c)) (range_with_len 1 40)
    || is_double_set (row_pen_in k.page.row_pens r).size

abbrev pub one_acts_beyond : Core → Bool
one_acts_beyond k = list_any (is_beyond_in_row k) (range_with_len 1 24) || is_double_set k.page.screen_pen.size

IsPlain-row : (k : Core) → one_acts_beyond k ≡ false → (r : ℕ) → 1 ≤ r → r ≤ 24
    → (list_any (λ d. acts_beyond (contents_of_row k r d)) (range_with_len 1 40) ≡ false)
    × (is_double_set (row_pen_in k.page.row_pens r).size ≡ false)
IsPlain-row k none r low high =
    let both = or_parts (list_any (is_beyond_in_row k) (range_with_len 1 24)) (is_double_set k.page.screen_pen.size)
    none in
    or_parts (list_any (λ d. acts_beyond (contents_of_row k r d)) (range_with_len 1 40))
    (is_double_set (row_pen_in k.page.row_pens r).size)
    (no_index 1 24 (is_beyond_in_row k) both.0 r low (omega (arith, high)))

pub IsPlain-tested : (k : Core) → one_acts_beyond k ≡ false → IsPlain k
IsPlain-tested k none = record {
  cells = λ r c on.
      no_index 1 40 (λ d. acts_beyond (contents_of_row k r d)) (IsPlain-row k none r on.from_top on.to_bottom).0 c
      on.from_left (omega (arith, on));
  rows = λ r low high. (IsPlain-row k none r low high).1;
  screen =
      (or_parts (list_any (is_beyond_in_row k) (range_with_len 1 24)) (is_double_set k.page.screen_pen.size) none).1;
}

single_there : (k : Core) → IsPlain k → (r : ℕ) → 1 ≤ r → r ≤ 24 → (c : ℕ) → 1 ≤ c → c ≤ 40
    → own_size k r c ≡ sizes.Normal
single_there k plain r low high c from to =
    size_in_row-single (contents_of_row k r) (row_pen_in k.page.row_pens r) k.page.screen_pen c from (λ d left right.
    (or_parts (is_marker (contents_of_row k r d)) (sets_double_size (contents_of_row k r d)) (plain.cells r d (search rules))).1) (plain.rows r low high) plain.screen

nothing_above : (k : Core) → IsPlain k → (r : ℕ) → 1 ≤ r → r ≤ 24 → (c : ℕ)
    → covers_below (part_of (look_seen (looks_of k) (r - 1) c)) ≡ false
nothing_above k plain r low high c =
    elim (cases_lt 1 r) [
      | inl more ↦
          covers_nothing k (r - 1) (omega arith) (omega arith)
          (single_there k plain (r - 1) (omega arith) (omega arith)) c
      | inr first ↦
          let top : r - 1 ≡ 0 = omega arith in
          ap (λ (q : ℕ). covers_below (part_of (look_seen (looks_of k) q c))) top ∙ covers_nothing-first k c
    ]

-- the look of a cell by itself
abbrev pub plain_look : Core → ℕ → ℕ → Look
plain_look k r c =
    look_of (definitions_of k.page) (row_pen_in k.page.row_pens r) k.page.screen_pen (contents_of_row k r c)

pub look-plain : (k : Core) → IsPlain k → (r c : ℕ) → OnScreen r c → look k r c ≡ plain_look k r c
look-plain k plain r c on =
    look-single k r c on (single_there k plain r on.from_top on.to_bottom)
    (nothing_above k plain r on.from_top on.to_bottom)
    ∙ look_in_row-unmarked (definitions_of k.page) (contents_of_row k r) (row_pen_in k.page.row_pens r)
    k.page.screen_pen c on.from_left (λ d low high.
    (or_parts (is_marker (contents_of_row k r d)) (sets_double_size (contents_of_row k r d)) (plain.cells r d (search rules))).0)

pub looks_of-plain : (k : Core) → IsPlain k → looks_of k ≡ table (plain_look k)
looks_of-plain k plain = same_table (look k) (plain_look k) (look-plain k plain)

-- what a command changes on pages on which no marker stands and nothing sets a size, cell by cell
pub changes-plain : (history : List Command) (command : Command) → one_acts_beyond (core history) ≡ false
    → one_acts_beyond (core (history ++ command ∷ [])) ≡ false
    → changes history command
    ≡ changes_between (table (plain_look (core history))) (table (plain_look (core (history ++ command ∷ []))))
changes-plain history command before after i =
    changes_between (looks_of-plain (core history) (IsPlain-tested (core history) before) i)
    (looks_of-plain (core (history ++ command ∷ [])) (IsPlain-tested (core (history ++ command ∷ [])) after) i)
