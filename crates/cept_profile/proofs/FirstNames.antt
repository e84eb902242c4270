-- What the places of the first core name.
use Rattle.std.proofs.Common.{◌≡◌, ℕ, ◌≤◌, List, [], ap, sym, ◌∙◌, arith, rules}
use Rattle.cept_codes.specs.declared.attribute.Full.{Full}
use Rattle.cept_codes.specs.declared.attribute.Pen.{Pen}
use Rattle.cept_codes.specs.declared.cell.Cell.{Cell}
use Rattle.cept_codes.specs.declared.cell.What.{What}
use Rattle.cept_codes.specs.declared.cell.What.TheVariants as whats
use Rattle.cept_codes.specs.declared.look.Look.{Look}
use Rattle.cept_codes.specs.declared.look.Part.{Part}
use Rattle.cept_codes.specs.Attribute.{unset_pen}
use Rattle.cept_codes.specs.Cell.{blank_cell}
use Rattle.cept_codes.specs.Look.{blank_look}
use Rattle.cept_codes.specs.Place.{OnScreen}
use Rattle.cept_codes.specs.Table.{value_at}
use Rattle.cept_codes.proofs.Laws.{entry-list_by_index, value_at-table}
use Rattle.cept_profile.specs.Attributes.{cascade}
use Rattle.cept_profile.specs.Look.{contents_of_row, looks_of, part_of, parts_of}
use Rattle.cept_profile.specs.Names.{names_at, names_with}
use Rattle.cept_profile.specs.NamesFromAbove.{default_names, names_in_row}
use Rattle.cept_profile.specs.PageParts.{row_pen_in}
use Rattle.cept_profile.specs.RowsFromAbove.{blank_looks, look_seen}
use Rattle.cept_profile.specs.Serial.{is_marker, own_attributes_of, serial_attributes}
use Rattle.cept_profile.specs.State.{Page, core, state}
use Rattle.cept_profile.specs.Tiling.{column_entry, part_at, single_part}
use Rattle.cept_profile.proofs.ColumnEntries.{column_entry-row_of, column_entry-table}
use Rattle.cept_profile.proofs.FirstGrid.{looks_of-blank_cell, page-none}
use Rattle.cept_profile.proofs.MarkersInForce.{serial_attributes-unmarked}
use Rattle.cept_profile.proofs.NamesFromAbove.{names_at-itself}
use Rattle.cept_profile.proofs.RowsAlike.{part_of-seen}

-- each shows a whole sign
whole_sign : (r c : ℕ) → OnScreen r c → part_at (parts_of (core [])) r c ≡ single_part
whole_sign r c on =
    let seen : look_seen (looks_of (core [])) r c ≡ blank_look =
    ap (λ (g : List (List Look)). look_seen g r c) looks_of-blank_cell
    ∙ ap (λ row. column_entry blank_look row c)
    (column_entry-table blank_looks (λ _ _. blank_look) r on.from_top on.to_bottom)
    ∙ column_entry-row_of blank_look (λ _. blank_look) c on.from_left on.to_right in
    sym (part_of-seen (core []) r c on.to_bottom) ∙ ap (λ l. part_of l) seen

-- in a row in which nothing stands, and without attributes
blank_named : (row : ℕ → What) (pen screen : Pen) (c : ℕ) → 1 ≤ c → ((d : ℕ) → 1 ≤ d → d ≤ c → row d ≡ whats.Blank)
    → pen ≡ unset_pen → screen ≡ unset_pen → names_in_row row pen screen c ≡ default_names
unfolding names_in_row
blank_named row pen screen c low blank no_pen no_screen =
    let here : row c ≡ whats.Blank = blank c low (omega arith) in
    (λ i. names_with (own_attributes_of (here i) pen screen (serial_attributes row pen screen c)) (here i))
    ∙ ap (λ (f : Full). names_with f whats.Blank)
    (serial_attributes-unmarked row pen screen c low (λ d from to. ap is_marker (blank d from to)))
    ∙ (λ i. names_with (cascade unset_pen (no_pen i) (no_screen i)) whats.Blank)

blank_there : (r c : ℕ) → OnScreen r c → contents_of_row (core []) r c ≡ whats.Blank
blank_there r c on =
    ap (λ (p : Page). (value_at blank_cell p.cells r c).what) page-none
    ∙ ap (λ (cell : Cell). cell.what) (value_at-table (λ _ _. blank_cell) blank_cell r c on)

unset_there : (r : ℕ) → 1 ≤ r → r ≤ 24 → row_pen_in (state []).page.row_pens r ≡ unset_pen
unset_there r low high =
    ap (λ (p : Page). row_pen_in p.row_pens r) page-none
    ∙ entry-list_by_index unset_pen 1 24 (λ _. unset_pen) r low (omega (arith, high))

-- each names white on black, and no pattern
pub names_at-first : (r c : ℕ) → OnScreen r c → names_at (core []) r c ≡ default_names
names_at-first r c on =
    let whole : part_at (parts_of (core [])) r c ≡ single_part = whole_sign r c on in
    names_at-itself (core []) r c on (ap (λ (p : Part). p.dy) whole) (ap (λ (p : Part). p.dx) whole)
    ∙ blank_named (contents_of_row (core []) r) (row_pen_in (state []).page.row_pens r) (state []).page.screen_pen c on.from_left
    (λ d from to. blank_there r d (search rules))
    (unset_there r on.from_top on.to_bottom) (ap (λ (p : Page). p.screen_pen) page-none)
