-- The looks of a screen as they are seen in its rows: which one stands in a column, and which part it shows.
use Rattle.std.proofs.Common.{◌≡◌, ℕ, List, refl, ap, ◌∙◌}
use Rattle.cept_codes.specs.declared.look.Look.{Look}
use Rattle.cept_codes.specs.Look.{blank_look}
use Rattle.cept_codes.specs.Place.{Place, OnScreen}
use Rattle.cept_codes.specs.Table.{value_at}
use Rattle.cept_codes.proofs.Laws.{IsTable-table, value_at-table}
use Rattle.cept_profile.specs.Changes.{look_at}
use Rattle.cept_profile.specs.Look.{look, looks_of, part_of, parts_of}
use Rattle.cept_profile.specs.RowsFromAbove.{look_seen, looks_in}
use Rattle.cept_profile.specs.State.{Core}
use Rattle.cept_profile.specs.Tiling.{column_entry, part_at}
use Rattle.cept_redraw.proofs.Laws.{look_seen-at}

-- in a column of the looks of a row stands the look of that place
pub look_at-in_row : (k : Core) (place : Place) (looks : List Look) (row column : ℕ) → OnScreen place.row place.column
    → looks ≡ looks_in (looks_of k) row → row ≡ place.row → column ≡ place.column
    → column_entry blank_look looks column ≡ look_at (looks_of k) place
look_at-in_row k place looks row column on is at_row at_column =
    ap (λ (l : List Look). column_entry blank_look l column) is
    ∙ ap (λ r. look_seen (looks_of k) r column) at_row
    ∙ ap (λ c. look_seen (looks_of k) place.row c) at_column
    ∙ look_seen-at (looks_of k) place.row place.column (IsTable-table (look k)) on

-- a look shows the part that the tiling has at its place
part_of-look : (k : Core) (r c : ℕ) → part_of (look k r c) ≡ part_at (parts_of k) r c
unfolding look
part_of-look k r c = refl

pub part_of-look_at : (k : Core) (r c : ℕ) → OnScreen r c
    → part_of (value_at blank_look (looks_of k) r c) ≡ part_at (parts_of k) r c
part_of-look_at k r c on =
    ap (λ (l : Look). part_of l) (value_at-table (look k) blank_look r c on) ∙ part_of-look k r c

pub part_of-look_seen : (k : Core) (r c : ℕ) → OnScreen r c
    → part_of (look_seen (looks_of k) r c) ≡ part_at (parts_of k) r c
part_of-look_seen k r c on =
    ap (λ (l : Look). part_of l) (look_seen-at (looks_of k) r c (IsTable-table (look k)) on) ∙ part_of-look_at k r c on
