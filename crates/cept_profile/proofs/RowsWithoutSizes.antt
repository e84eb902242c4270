-- Rows in which nothing sets a size cover nothing.
use Rattle.std.proofs.Common.{◌≡◌, ℕ, ◌≤◌, ◌||◌, Bool, false, arith}
use Rattle.std.specs.List.{list_any, range_with_len}
use Rattle.std.proofs.lemmas.Bool.{or_parts}
use Rattle.cept_codes.specs.declared.attribute.Pen.{Pen}
use Rattle.cept_profile.specs.Look.{contents_of_row, is_double_set, looks_of, part_of, sets_double_size}
use Rattle.cept_profile.specs.PageParts.{row_pen_in}
use Rattle.cept_profile.specs.RowsFromAbove.{look_seen}
use Rattle.cept_profile.specs.State.{Core}
use Rattle.cept_profile.specs.Tiling.{covers_below}
use Rattle.cept_profile.proofs.ColumnEntries.{no_index}
use Rattle.cept_profile.proofs.LooksFromAbove.{covers_nothing}
use Rattle.cept_profile.proofs.LooksInRows.{size_in_row-single}

-- something in the row, the row itself or the screen sets a size
abbrev pub sets_a_size : Core → ℕ → Bool
sets_a_size k r =
    list_any (λ c. sets_double_size (contents_of_row k r c)) (range_with_len 1 40)
    || (is_double_set (row_pen_in k.page.row_pens r).size || is_double_set k.page.screen_pen.size)

pub without_sizes : (k : Core) (r : ℕ) → 1 ≤ r → r ≤ 24 → sets_a_size k r ≡ false → (c : ℕ)
    → covers_below (part_of (look_seen (looks_of k) r c)) ≡ false
without_sizes k r low high none =
    let in_row : Pen = row_pen_in k.page.row_pens r in
    let screen : Pen = k.page.screen_pen in
    let parts = or_parts (list_any (λ c. sets_double_size (contents_of_row k r c)) (range_with_len 1 40))
    (is_double_set in_row.size || is_double_set screen.size) none in
    let pens = or_parts (is_double_set in_row.size) (is_double_set screen.size) parts.1 in
    covers_nothing k r low high (λ c from to.
    size_in_row-single (contents_of_row k r) in_row screen c from (λ d left right.
    no_index 1 40 (λ e. sets_double_size (contents_of_row k r e)) parts.0 d left (omega arith)) pens.0 pens.1)
