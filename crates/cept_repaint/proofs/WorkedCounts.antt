-- Worked cases of commands one after the other, and of rows that a command renews or an undo may resolve, by computing.
use Rattle.std.proofs.Common.{◌≡◌, ℕ, ◌+◌, ◌≤◌, Bool, true, cond, List, [], ◌∷◌, refl, ap, ◌∙◌, arith}
use Rattle.std.specs.List.{range_with_len}
use Rattle.std.proofs.lemmas.List.Sums.{sum_by-cons}
use Rattle.cept_codes.specs.declared.command.Command.{Command}
use Rattle.cept_codes.specs.declared.command.Command.TheVariants.{Graphic}
use Rattle.cept_codes.specs.declared.look.Look.{Look}
use Rattle.cept_codes.specs.Look.{blank_look}
use Rattle.cept_codes.specs.Table.{list_by_index, row_of, table}
use Rattle.cept_delta.specs.Noted.{notes_row, notes_screen}
use Rattle.cept_profile.specs.Cells.{cells_after_all}
use Rattle.cept_profile.specs.Colours.{default_paints}
use Rattle.cept_profile.specs.Definitions.{inks_of}
use Rattle.cept_profile.specs.Edges.{edges_of_core}
use Rattle.cept_profile.specs.Look.{look, look_in_row, look_of, looks_of, size_in_row}
use Rattle.cept_profile.specs.MovedRows.{row_before}
use Rattle.cept_profile.specs.OldValues.{no_old_values}
use Rattle.cept_profile.specs.PageParts.{part_after_all}
use Rattle.cept_profile.specs.Reach.{rows_in_reach}
use Rattle.cept_profile.specs.RowsFromAbove.{is_covered_otherwise}
use Rattle.cept_profile.specs.Serial.{is_holding, kept_sign, serial_attributes}
use Rattle.cept_profile.specs.Sets.{read_as, set_of}
use Rattle.cept_profile.specs.State.{State, core, core_of, state, state_after}
use Rattle.cept_profile.specs.Strokes.{strokes_of}
use Rattle.cept_profile.specs.Tiling.{part_from, tiled_row, tiled_rows, tiled_table}
use Rattle.cept_profile.specs.Writing.{effect_of_copies}
use Rattle.cept_profile.proofs.Laws.{grid-none}
use Rattle.cept_redraw.specs.Renewed.{is_renewed_from, rows_renewed}
use Rattle.cept_redraw.specs.Restored.{is_unwound, rows_unwound}
use Rattle.cept_repaint.specs.Applied.{rows_renewed_by, rows_restored}
use Rattle.cept_repaint.specs.InTurn.{rows_in_reach_of_all, rows_renewed_by_all, state_after_all}

-- ---- one after the other

module _ (s : State) (c d : Command) where
  none_after : state_after_all s [] ≡ s
  unfolding state_after_all
  none_after = refl

  -- the second stands after the first
  two_after : state_after_all s (c ∷ d ∷ []) ≡ state_after (state_after s c) d
  unfolding state_after_all
  two_after = refl

  -- one command alone reaches and renews what it does by itself
  one_in_reach : rows_in_reach_of_all s (c ∷ []) ≡ rows_in_reach s c
  unfolding rows_in_reach_of_all
  one_in_reach = omega arith

  one_renewed : rows_renewed_by_all s (c ∷ []) ≡ rows_renewed_by s c
  unfolding rows_renewed_by_all
  one_renewed = omega arith

  -- and the second what it does in the state after the first
  two_in_reach : rows_in_reach_of_all s (c ∷ d ∷ []) ≡ rows_in_reach s c + rows_in_reach (state_after s c) d
  unfolding rows_in_reach_of_all
  two_in_reach = omega arith

  two_renewed : rows_renewed_by_all s (c ∷ d ∷ []) ≡ rows_renewed_by s c + rows_renewed_by (state_after s c) d
  unfolding rows_renewed_by_all
  two_renewed = omega arith

-- ---- rows renewed

-- a letter in the first place renews the first row
renewed_here : is_renewed_from (looks_of (core [])) (row_before (strokes_of (state []).control (Graphic 0x41)) 1)
    (looks_of (core_of (state_after (state []) (Graphic 0x41)))) 1 ≡ true
unfolding table row_of set_of read_as look_of default_paints list_by_index effect_of_copies row_before size_in_row serial_attributes is_holding kept_sign tiled_table
    tiled_rows tiled_row part_from cells_after_all part_after_all look look_in_row inks_of
renewed_here = refl

letter_renews : 1 ≤ rows_renewed_by (state []) (Graphic 0x41)
unfolding rows_renewed
letter_renews =
    let renewed : ℕ → Bool = λ r. is_renewed_from (looks_of (core []))
    (row_before (strokes_of (state []).control (Graphic 0x41)) r)
    (looks_of (core_of (state_after (state []) (Graphic 0x41)))) r in
    let one : Bool → ℕ = λ b. cond b 1 0 in
    omega (arith, sum_by-cons (λ r. one (renewed r)) 1 (range_with_len 2 23), ap one renewed_here)

-- ---- rows restored

-- an undo that brings the first page back over itself resolves no row
over_itself : rows_unwound no_old_values (edges_of_core (core [])) (edges_of_core (core [])) (table (λ r c. blank_look))
    (table (λ r c. blank_look)) ≡ 0
unfolding rows_unwound is_unwound is_covered_otherwise notes_row notes_screen table row_of list_by_index
over_itself = refl

nothing_restored : rows_restored no_old_values (core []) (core []) ≡ 0
nothing_restored =
    ap (λ (g : List (List Look)). rows_unwound no_old_values (edges_of_core (core [])) (edges_of_core (core [])) g g)
    grid-none ∙ over_itself
