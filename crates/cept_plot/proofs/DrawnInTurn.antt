-- What the commands of a drawing do, cell by cell.
use Rattle.std.proofs.Common.{◌≡◌, ℕ, zero, suc, ◌+◌, ◌/◌, ◌%◌, ◌<◌, ◌≤◌, Bool, true, false, List, [], ◌∷◌, ◌++◌}
use Rattle.std.proofs.Common.{flat_map, refl, sym, ap, ◌∙◌, subst, inl, inr, arith}
use Rattle.std.specs.List.{range_with_len}
use Rattle.std.proofs.lemmas.Bool.{cases_eq}
use Rattle.cept_codes.specs.declared.cell.Cell.{Cell}
use Rattle.cept_codes.specs.declared.command.Command.{Command}
use Rattle.cept_codes.specs.declared.command.Command.TheVariants as commands
use Rattle.cept_codes.specs.Cell.{blank_cell}
use Rattle.cept_codes.specs.Place.{OnScreen, number, place_of}
use Rattle.cept_codes.specs.Table.{value_at}
use Rattle.cept_codes.proofs.Laws.{OnScreen-place_of}
use Rattle.cept_profile.specs.Cells.{cells_after_all}
use Rattle.cept_profile.specs.PageParts.{part_after_all}
use Rattle.cept_profile.specs.State.{Core, Page, State, core_of, state_after}
use Rattle.cept_profile.specs.Valid.{IsValidState}
use Rattle.cept_profile.specs.Working.{ControlState}
use Rattle.cept_plot.specs.Commands.{IsDrawnOn, cell_in_core, cells_commands, drawn, is_written_anew}
use Rattle.cept_plot.specs.Commands.{opening, value_commands, value_of_points}
use Rattle.cept_plot.proofs.CommandsInTurn.{numbered_cell_commands}
use Rattle.cept_plot.specs.inside.Drawing.{StandsDrawn, cell_in_drawing, cell_of_value, control_in_drawing}
use Rattle.cept_repaint.specs.InTurn.{state_after_all}
use Rattle.cept_repaint.proofs.Laws.{IsValidState-state_after_all, state_after_all-append}
use Rattle.cept_plot.proofs.CellDrawn.{IsPut, commands_none, commands_valid, commands_written, none_of_all, value_put}
use Rattle.cept_plot.proofs.CellsInDrawing.{IsFree, at_number, cell_in_turn, cell_of_other, cell_unwritten}
use Rattle.cept_plot.proofs.CellsInDrawing.{cell_written, free_by, not_at_number, written_by}
use Rattle.cept_plot.proofs.ControlInDrawing.{control_at-hand_of, control_in_drawing-at, hand_of}
use Rattle.cept_plot.proofs.FieldDrawn.{field_drawn}
use Rattle.cept_plot.proofs.PutOnPage.{cell-elsewhere, cell-there, page_with, state_of}
use Rattle.cept_plot.proofs.ValuesWritten.{value_of_points-lt}

-- after the opening
pub stands_first : (s : State) → IsValidState s → (f : ℕ → ℕ → Bool)
    → StandsDrawn (core_of s) f 0 (state_after_all s opening)
unfolding state_after_all cells_after_all part_after_all
stands_first s is f = record {
  valid = IsValidState-state_after_all s opening is (tt, (tt, tt));
  control = refl;
  cells = λ r c on. sym (cell_in_turn (core_of s) f 0 r c (omega arith));
  page = refl;
}

-- ---- one cell more

-- the cell in turn is written where it was to be from the beginning
pub written_now : (k : Core) (f : ℕ → ℕ → Bool) (n : ℕ) (s : State) → n < 960 → StandsDrawn k f n s
    → is_written_anew (core_of s) f (n / 40 + 1) (n % 40 + 1) ≡ is_written_anew k f (n / 40 + 1) (n % 40 + 1)
written_now k f n s below stands =
    let r : ℕ = n / 40 + 1 in
    let c : ℕ = n % 40 + 1 in
    written_by k f r c s.control.rows (cell_in_core (core_of s) r c)
    (ap (λ (w : ControlState). w.rows) stands.control)
    (stands.cells r c (OnScreen-place_of n below) ∙ cell_in_turn k f n r c (omega arith))

module _ (k : Core) (f : ℕ → ℕ → Bool) (n : ℕ) (s : State) (below : n < 960) (stands : StandsDrawn k f n s) where
  -- the cell that is written
  abbrev written : Cell
  written = cell_of_value (value_of_points f (n / 40 + 1) (n % 40 + 1))

  -- the cells after it was put
  cells_put : is_written_anew k f (n / 40 + 1) (n % 40 + 1) ≡ true → (r c : ℕ) → OnScreen r c
      → value_at blank_cell (page_with s.page (place_of n) written).cells r c ≡ cell_in_drawing k f (n + 1) r c
  cells_put anew r c on = elim (cases_eq (number r c) n) [
    | inr apart ↦ cell-elsewhere s.page.cells (place_of n) written r c on (not_at_number n r c apart)
        ∙ stands.cells r c on ∙ sym (cell_of_other k f n r c apart)
    | inl same ↦
        let er : n / 40 + 1 ≡ r = omega (arith, on, same) in
        let ec : n % 40 + 1 ≡ c = omega (arith, on, same) in
        let here : is_written_anew k f r c ≡ true = (λ i. is_written_anew k f (sym er i) (sym ec i)) ∙ anew in
        let free : IsFree k r c = free_by k f r c here in
        let was : cell_in_core (core_of s) r c ≡ cell_in_core k r c =
        stands.cells r c on ∙ cell_in_turn k f n r c (omega (arith, same)) in
        cell-there s.page.cells (place_of n) written r c on (at_number n r c on same)
        (ap (λ (w : Cell). w.protected) was ∙ free.free)
        ∙ (λ i. cell_of_value (value_of_points f (er i) (ec i)))
        ∙ sym (cell_written k f (n + 1) r c (omega (arith, same)) here)
  ]

  stands_put : is_written_anew k f (n / 40 + 1) (n % 40 + 1) ≡ true → (now : State) → IsValidState now
      → IsPut k s.page (place_of n) written now → StandsDrawn k f (n + 1) now
  stands_put anew now valid put = record {
    valid = valid;
    control = control_in_drawing-at k put.hand now.control (ap (λ (w : State). w.control) put.is);
    cells = λ r c on.
        ap (λ (w : State). value_at blank_cell w.page.cells r c) put.is ∙ cells_put anew r c on;
    page = subst (λ (w : State). w.page ≡ record (k.page) { cells = w.page.cells }) (sym put.is)
        (ap (λ (q : Page). record q { cells = (page_with s.page (place_of n) written).cells }) stands.page);
  }

  next_written : is_written_anew k f (n / 40 + 1) (n % 40 + 1) ≡ true
      → StandsDrawn k f (n + 1) (state_after_all s (numbered_cell_commands k f n))
  next_written anew =
      let value : ℕ = value_of_points f (n / 40 + 1) (n % 40 + 1) in
      let cs : List Command = commands.Position (n / 40 + 1) (n % 40 + 1) ∷ value_commands value in
      let free : IsFree k (n / 40 + 1) (n % 40 + 1) = free_by k f (n / 40 + 1) (n % 40 + 1) anew in
      let put : IsPut k s.page (place_of n) written (state_after_all s cs) =
      subst (λ (w : ControlState). IsPut k s.page (place_of n) written (state_after_all (state_of s.page w) cs))
      (sym (control_at-hand_of k s.control stands.control))
      (value_put k s.page (hand_of s.control) (place_of n) stands.valid.page free.within value
      (value_of_points-lt f (n / 40 + 1) (n % 40 + 1))) in
      let valid : IsValidState (state_after_all s cs) = IsValidState-state_after_all s cs stands.valid
      (commands_valid f (n / 40 + 1) (n % 40 + 1) (OnScreen-place_of n below)) in
      subst (λ (list : List Command). StandsDrawn k f (n + 1) (state_after_all s list))
      (sym (commands_written k f n anew)) (stands_put anew (state_after_all s cs) valid put)

  next_left : is_written_anew k f (n / 40 + 1) (n % 40 + 1) ≡ false
      → StandsDrawn k f (n + 1) (state_after_all s (numbered_cell_commands k f n))
  next_left stays =
      subst (λ (w : State). StandsDrawn k f (n + 1) w)
      (sym (ap (state_after_all s) (commands_none k f n stays) ∙ none_of_all s)) (record {
        valid = stands.valid;
        control = stands.control;
        cells = λ r c on. stands.cells r c on ∙ elim (cases_eq (number r c) n) [
          | inr apart ↦ sym (cell_of_other k f n r c apart)
          | inl same ↦
              let er : n / 40 + 1 ≡ r = omega (arith, on, same) in
              let ec : n % 40 + 1 ≡ c = omega (arith, on, same) in
              let here : is_written_anew k f r c ≡ false = (λ i. is_written_anew k f (sym er i) (sym ec i)) ∙ stays in
              cell_unwritten k f n r c here ∙ sym (cell_unwritten k f (n + 1) r c here)
        ];
        page = stands.page;
      })

-- the commands of one number more
pub stands_next : (k : Core) (f : ℕ → ℕ → Bool) (n : ℕ) (s : State) → n < 960 → StandsDrawn k f n s
    → StandsDrawn k f (n + 1) (state_after_all s (numbered_cell_commands k f n))
stands_next k f n s below stands = by_test (is_written_anew k f (n / 40 + 1) (n % 40 + 1)) refl where
  by_test : (t : Bool) → is_written_anew k f (n / 40 + 1) (n % 40 + 1) ≡ t
      → StandsDrawn k f (n + 1) (state_after_all s (numbered_cell_commands k f n))
  by_test true anew = next_written k f n s below stands anew
  by_test false stays = next_left k f n s below stands stays

-- ---- all cells

-- the core after the last command
core_last : (k : Core) (s : State) → s.control ≡ control_in_drawing k s.control
    → core_of (state_after s (commands.Implicit k.implicit)) ≡ record k { page = s.page }
unfolding cells_after_all part_after_all
core_last k s control =
    ap (λ (w : ControlState). let now : Core = record {
      page = s.page;
      rows = w.rows;
      wrap = w.wrap;
      area = w.area;
      implicit = k.implicit;
      revision = w.revision;
    } in now) control

-- after all cells implicit scrolling is as it was
pub stands_last : (k : Core) (f : ℕ → ℕ → Bool) (s : State) → StandsDrawn k f 960 s
    → IsDrawnOn k f (core_of (state_after s (commands.Implicit k.implicit)))
stands_last k f s stands =
    subst (IsDrawnOn k f) (sym (core_last k s stands.control)) (field_drawn k f s.page stands.cells stands.page)

-- cells from one number on
stands_all : (k : Core) (f : ℕ → ℕ → Bool) (m n : ℕ) (s : State) → m + n ≤ 960 → StandsDrawn k f m s
    → StandsDrawn k f (m + n) (state_after_all s (flat_map (numbered_cell_commands k f) (range_with_len m n)))
unfolding state_after_all
stands_all k f m zero s high stands = subst (λ j. StandsDrawn k f j s) (omega arith) stands
stands_all k f m (suc n) s high stands =
    let first : State = state_after_all s (numbered_cell_commands k f m) in
    let more : List Command = flat_map (numbered_cell_commands k f) (range_with_len (m + 1) n) in
    let all : StandsDrawn k f (m + 1 + n) (state_after_all first more) =
    stands_all k f (m + 1) n first (omega (arith, high)) (stands_next k f m s (omega (arith, high)) stands) in
    subst (StandsDrawn k f (m + suc n)) (sym (state_after_all-append s (numbered_cell_commands k f m) more))
    (subst (λ j. StandsDrawn k f j (state_after_all first more)) (omega arith) all)

-- after the opening and the cells of the first n numbers
pub stands_cells : (s : State) → IsValidState s → (f : ℕ → ℕ → Bool) (n : ℕ) → n ≤ 960
    → StandsDrawn (core_of s) f n (state_after_all s (opening ++ cells_commands (core_of s) f n))
unfolding cells_commands
stands_cells s is f n high =
    let first : State = state_after_all s opening in
    let all = stands_all (core_of s) f 0 n first (omega (arith, high)) (stands_first s is f) in
    subst (StandsDrawn (core_of s) f n) (sym (state_after_all-append s opening (cells_commands (core_of s) f n)))
    (subst (λ j. StandsDrawn (core_of s) f j (state_after_all first (cells_commands (core_of s) f n)))
    (omega arith) all)

-- after all commands the set of points was drawn on the page
pub drawn_on : (s : State) → IsValidState s → (f : ℕ → ℕ → Bool)
    → IsDrawnOn (core_of s) f (core_of (state_after_all s (drawn (core_of s) f)))
unfolding state_after_all
drawn_on s is f =
    let cs : List Command = opening ++ cells_commands (core_of s) f 960 in
    let last : List Command = commands.Implicit s.control.implicit ∷ [] in
    subst (λ (w : State). IsDrawnOn (core_of s) f (core_of w)) (sym (state_after_all-append s cs last))
    (stands_last (core_of s) f (state_after_all s cs) (stands_cells s is f 960 (omega arith)))
