-- The commands of a marker leave it once.
use Rattle.std.proofs.Common.{◌≡◌, ℕ, ◌+◌, ◌/◌, ◌%◌, ◌≤◌, ◌||◌, Bool, true, false, cond, eqb, leb}
use Rattle.std.proofs.Common.{Option, None, Some, List, [], ◌∷◌, refl, ap, ◌∙◌}
use Rattle.std.proofs.lemmas.Bool.{le-leb}
use Rattle.cept_codes.specs.declared.attribute.Attr.{Attr}
use Rattle.cept_codes.specs.declared.attribute.Attr.TheVariants as attrs
use Rattle.cept_codes.specs.declared.attribute.Flash.{Flash}
use Rattle.cept_codes.specs.declared.attribute.Flash.TheVariants as flashes
use Rattle.cept_codes.specs.declared.attribute.Size.TheVariants as sizes
use Rattle.cept_codes.specs.declared.cell.Marker.{Marker}
use Rattle.cept_codes.specs.declared.cell.Marker.TheVariants as markers
use Rattle.cept_codes.specs.declared.cell.What.TheVariants as whats
use Rattle.cept_codes.specs.declared.command.C1Set.TheVariants as c1sets
use Rattle.cept_codes.specs.declared.command.Command.{Command}
use Rattle.cept_codes.specs.declared.command.Command.TheVariants as commands
use Rattle.cept_codes.specs.declared.stroke.Stroke.{Stroke}
use Rattle.cept_codes.specs.declared.stroke.Stroke.TheVariants as strokes
use Rattle.cept_profile.specs.Control.{ControlState, Working, control_with, initial_sets}
use Rattle.cept_profile.specs.Markers.{run_after, step_after}
use Rattle.cept_profile.specs.Pens.{c1_function, fast_after, flash_of}
use Rattle.cept_profile.proofs.Laws.{strokes_of_function, strokes_of_marker, working_after_function}
use Rattle.cept_profile.proofs.Laws.{working_after_marker}
use Rattle.cept_writer.specs.CellCommands.{marker_commands}
use Rattle.cept_writer.proofs.AttributesSet.{back_entry, fore_entry}
use Rattle.cept_writer.proofs.Drawing.{Draws, draws_one, draws_silent}
use Rattle.cept_writer.proofs.Resting.{Fixed, Hand, hand_ahead, control_in_cell, moves_on, stays}

-- under the serial set
abbrev pub hand_under_serial : Hand → Hand
hand_under_serial v = record v { c1 = c1sets.Serial }

-- from rest but for protection the commands leave this marker, and control is the same afterwards
pub record Leaves (fixed : Fixed) (protect : Bool) (v : Hand) (m : Marker) (cs : List Command) : Type 0 where
  pub hand : Hand
  pub draws : Draws (control_in_cell fixed initial_sets None protect (hand_under_serial v)) cs
      (strokes.Put (record { row = v.row; column = v.column })
      (record { what = whats.Marker m; protected = protect }) ∷ []) (control_in_cell fixed initial_sets None protect hand)
  pub row : v.column + 1 ≤ 40 → hand.row ≡ v.row
  pub column : v.column + 1 ≤ 40 → hand.column ≡ v.column + 1
  pub c1 : hand.c1 ≡ c1sets.Serial
  pub pen : hand.pen ≡ v.pen
  pub run : hand.run ≡ run_after m v.run
  pub step : hand.step ≡ step_after m v.step

-- ---- one marker

module _ (fixed : Fixed) (protect : Bool) where
  -- one column on within the row
  on_in_row : (v : Hand) → v.column + 1 ≤ 40 → (hand_ahead fixed (hand_under_serial v) 1).row ≡ v.row
  unfolding hand_ahead
  on_in_row v within = let is : leb (v.column + 1) 40 ≡ true = le-leb (v.column + 1) 40 within in rw is refl

  on_by_one : (v : Hand) → v.column + 1 ≤ 40 → (hand_ahead fixed (hand_under_serial v) 1).column ≡ v.column + 1
  unfolding hand_ahead
  on_by_one v within = let is : leb (v.column + 1) 40 ≡ true = le-leb (v.column + 1) 40 within in rw is refl

  -- a code that leaves it
  coded : (v : Hand) (n : ℕ) (attr : Attr) (m : Marker) → c1_function v.table n ≡ Some (attr, m)
      → Leaves fixed protect v m (commands.C1 n ∷ [])
  unfolding hand_ahead
  coded v n attr m is =
      let s : ControlState = control_in_cell fixed initial_sets None protect (hand_under_serial v) in
      let fast : ℕ = cond (eqb n 8 || eqb n 9) 0 v.fast in
      record {
        hand = record (hand_ahead fixed (hand_under_serial v) 1) {
          run = run_after m v.run;
          step = step_after m v.step;
          fast = fast;
        };
        draws = draws_one _ _ (commands.C1 n) _
            (ap (λ (o : Option (Attr × Marker)). control_with s (working_after_function c1sets.Serial o fast s)) is
            ∙ ap (λ (w : Working). control_with s (record w
            { run = run_after m v.run; step = step_after m v.step; fast = fast }))
            (moves_on fixed initial_sets None protect (hand_under_serial v) 1))
            (ap (λ (o : Option (Attr × Marker)). strokes_of_function c1sets.Serial o fast s) is
            ∙ ap (λ (more : List Stroke). strokes.Put (record { row = v.row; column = v.column })
            (record { what = whats.Marker m; protected = protect }) ∷ more)
            (stays fixed initial_sets None protect (hand_under_serial v) 1));
        row = on_in_row v;
        column = on_by_one v;
        c1 = refl;
        pen = refl;
        run = refl;
        step = refl;
      }

  -- a colour by its table
  coloured : (v : Hand) (t n : ℕ) (attr : Attr) (m : Marker) → c1_function t n ≡ Some (attr, m)
      → Leaves fixed protect v m (commands.Table t ∷ commands.C1 n ∷ [])
  coloured v t n attr m is =
      let there = coded (record v { table = t }) n attr m is in
      record {
        hand = there.hand;
        draws = draws_silent _ (control_in_cell fixed initial_sets None protect (hand_under_serial (record v { table = t }))) _
            (commands.Table t) _ _ refl refl there.draws;
        row = there.row;
        column = there.column;
        c1 = there.c1;
        pen = there.pen;
        run = there.run;
        step = there.step;
      }

  -- a flash mode
  moded : (v : Hand) (k : ℕ) (f : Flash) → flash_of k v.fast ≡ f
      → Leaves fixed protect v (markers.Flash f) (commands.FlashMode k ∷ [])
  unfolding hand_ahead
  moded v k f is =
      let s : ControlState = control_in_cell fixed initial_sets None protect (hand_under_serial v) in
      record {
        hand = record (hand_ahead fixed (hand_under_serial v) 1) { fast = fast_after k v.fast };
        draws = draws_one _ _ (commands.FlashMode k) _
            (ap (λ (g : Flash). control_with s (record (working_after_marker s (markers.Flash g))
            { fast = fast_after k v.fast })) is
            ∙ ap (λ (w : Working). control_with s (record w { run = v.run; step = v.step; fast = fast_after k v.fast }))
            (moves_on fixed initial_sets None protect (hand_under_serial v) 1))
            (ap (λ (g : Flash). strokes_of_marker s (markers.Flash g)) is
            ∙ ap (λ (more : List Stroke). strokes.Put (record { row = v.row; column = v.column })
            (record { what = whats.Marker (markers.Flash f); protected = protect }) ∷ more)
            (stays fixed initial_sets None protect (hand_under_serial v) 1));
        row = on_in_row v;
        column = on_by_one v;
        c1 = refl;
        pen = refl;
        run = refl;
        step = refl;
      }

  -- the end of concealing
  revealed : (v : Hand) → Leaves fixed protect v (markers.Conceal false) (commands.StopConceal ∷ [])
  unfolding hand_ahead
  revealed v =
      let s : ControlState = control_in_cell fixed initial_sets None protect (hand_under_serial v) in
      record {
        hand = hand_ahead fixed (hand_under_serial v) 1;
        draws = draws_one _ _ commands.StopConceal _
            (ap (λ (w : Working). control_with s (record w { run = v.run; step = v.step; fast = v.fast }))
            (moves_on fixed initial_sets None protect (hand_under_serial v) 1))
            (ap (λ (more : List Stroke). strokes.Put (record { row = v.row; column = v.column })
            (record { what = whats.Marker (markers.Conceal false); protected = protect }) ∷ more)
            (stays fixed initial_sets None protect (hand_under_serial v) 1));
        row = on_in_row v;
        column = on_by_one v;
        c1 = refl;
        pen = refl;
        run = refl;
        step = refl;
      }

  pub marker_leaves : (v : Hand) (m : Marker) → Leaves fixed protect v m (marker_commands m)
  marker_leaves v (markers.Alpha e) = coloured v (e / 8) (0 + e % 8) (attrs.Fore e) (markers.Alpha e) (fore_entry e)
  marker_leaves v (markers.Mosaic e) = coloured v (e / 8) (16 + e % 8) (attrs.Back e) (markers.Mosaic e) (back_entry e)
  marker_leaves v markers.BlackBack = coded v 28 (attrs.Invert false) markers.BlackBack refl
  marker_leaves v markers.NewBack = coded v 29 (attrs.Invert true) markers.NewBack refl
  marker_leaves v markers.Hold = coded v 30 attrs.NoBack markers.Hold refl
  marker_leaves v markers.Release = coded v 31 (attrs.Conceal false) markers.Release refl
  marker_leaves v (markers.Flash flashes.Plain) = coded v 8 (attrs.Flash flashes.Plain) (markers.Flash flashes.Plain) refl
  marker_leaves v (markers.Flash flashes.Steady) = coded v 9 (attrs.Flash flashes.Steady) (markers.Flash flashes.Steady) refl
  marker_leaves v (markers.Flash flashes.Inverted) = moded v 0 flashes.Inverted refl
  marker_leaves v (markers.Flash flashes.Reduced) = moded v 1 flashes.Reduced refl
  marker_leaves v (markers.Flash flashes.Fast1) = moded v 2 flashes.Fast1 refl
  marker_leaves v (markers.Flash flashes.Fast2) = moded v 3 flashes.Fast2 refl
  marker_leaves v (markers.Flash flashes.Fast3) = moded v 4 flashes.Fast3 refl
  marker_leaves v (markers.Conceal true) = coded v 24 (attrs.Conceal true) (markers.Conceal true) refl
  marker_leaves v (markers.Conceal false) = revealed v
  marker_leaves v (markers.Lined true) = coded v 26 (attrs.Lined true) (markers.Lined true) refl
  marker_leaves v (markers.Lined false) = coded v 25 (attrs.Lined false) (markers.Lined false) refl
  marker_leaves v (markers.Boxed true) = coded v 11 (attrs.Boxed true) (markers.Boxed true) refl
  marker_leaves v (markers.Boxed false) = coded v 10 (attrs.Boxed false) (markers.Boxed false) refl
  marker_leaves v (markers.Size sizes.Normal) = coded v 12 (attrs.Size sizes.Normal) (markers.Size sizes.Normal) refl
  marker_leaves v (markers.Size sizes.High) = coded v 13 (attrs.Size sizes.High) (markers.Size sizes.High) refl
  marker_leaves v (markers.Size sizes.Wide) = coded v 14 (attrs.Size sizes.Wide) (markers.Size sizes.Wide) refl
  marker_leaves v (markers.Size sizes.Both) = coded v 15 (attrs.Size sizes.Both) (markers.Size sizes.Both) refl
