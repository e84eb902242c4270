-- The commands of attributes: under the parallel set the pen takes them, and for a row or the screen each is a stroke.
use Rattle.std.proofs.Common.{◌≡◌, ℕ, ◌+◌, ◌-◌, ◌*◌, ◌/◌, ◌%◌, ◌≤◌, ◌<◌, ◌||◌, Bool, true, false, cond, eqb, ltb}
use Rattle.std.proofs.Common.{Option, None, Some, option_to_list, List, [], ◌∷◌, map, refl, ap, ◌∙◌, arith}
use Rattle.std.specs.List.{AllByRecursion}
use Rattle.std.proofs.lemmas.Bool.Decides.{nat_tests}
use Rattle.cept_codes.specs.declared.attribute.Attr.{Attr}
use Rattle.cept_codes.specs.declared.attribute.Attr.TheVariants as attrs
use Rattle.cept_codes.specs.declared.attribute.Flash.{Flash}
use Rattle.cept_codes.specs.declared.attribute.Flash.TheVariants as flashes
use Rattle.cept_codes.specs.declared.attribute.Pen.{Pen}
use Rattle.cept_codes.specs.declared.attribute.Size.TheVariants as sizes
use Rattle.cept_codes.specs.declared.cell.Marker.{Marker}
use Rattle.cept_codes.specs.declared.cell.Marker.TheVariants as markers
use Rattle.cept_codes.specs.declared.command.C1Set.TheVariants as c1sets
use Rattle.cept_codes.specs.declared.command.Command.{Command}
use Rattle.cept_codes.specs.declared.command.Command.TheVariants as commands
use Rattle.cept_codes.specs.declared.stroke.Stroke.{Stroke}
use Rattle.cept_codes.specs.declared.stroke.Stroke.TheVariants as strokes
use Rattle.cept_codes.specs.Attribute.{IsPlainFlash}
use Rattle.cept_profile.specs.Control.{ControlState, control_after, control_with, initial_sets}
use Rattle.cept_profile.specs.Pens.{c1_function, fast_after, pen_with}
use Rattle.cept_profile.specs.Strokes.{strokes_of}
use Rattle.cept_profile.proofs.Laws.{strokes_of_function, working_after_function}
use Rattle.cept_writer.specs.AttributeCommands.{attribute_commands, attributes_commands}
use Rattle.cept_writer.specs.AttributeCommands.{pen_with_all}
use Rattle.cept_writer.proofs.Drawing.{Draws, draws_joined, draws_none, draws_one, draws_silent}
use Rattle.cept_writer.proofs.Resting.{Fixed, Hand, control_in_cell, control_at_rest}

-- ---- colours by their table and their code

fore_code : (t n : ℕ) → n < 8 → c1_function t n ≡ Some (attrs.Fore (8 * t + n), markers.Alpha (8 * t + n))
fore_code t n low =
    let is : ltb n 8 ≡ true = grind (arith, nat_tests) in
    rw is refl

back_code : (t n : ℕ) → 16 ≤ n → n < 24
    → c1_function t n ≡ Some (attrs.Back (8 * t + (n - 16)), markers.Mosaic (8 * t + (n - 16)))
back_code t n low high =
    let a : ltb n 8 ≡ false = grind (arith, nat_tests) in
    let b : eqb n 8 ≡ false = grind (arith, nat_tests) in
    let c : eqb n 9 ≡ false = grind (arith, nat_tests) in
    let d : eqb n 10 ≡ false = grind (arith, nat_tests) in
    let e : eqb n 11 ≡ false = grind (arith, nat_tests) in
    let f : eqb n 12 ≡ false = grind (arith, nat_tests) in
    let g : eqb n 13 ≡ false = grind (arith, nat_tests) in
    let h : eqb n 14 ≡ false = grind (arith, nat_tests) in
    let i : eqb n 15 ≡ false = grind (arith, nat_tests) in
    let j : ltb n 24 ≡ true = grind (arith, nat_tests) in
    rw (a, b, c, d, e, f, g, h, i, j) refl

pub fore_entry : (e : ℕ) → c1_function (e / 8) (0 + e % 8) ≡ Some (attrs.Fore e, markers.Alpha e)
fore_entry e =
    fore_code (e / 8) (0 + e % 8) (omega arith)
    ∙ ap (λ (k : ℕ). let a : Option (Attr × Marker) = Some (attrs.Fore k, markers.Alpha k) in a)
    (let same : 8 * (e / 8) + (0 + e % 8) ≡ e = omega arith in same)

pub back_entry : (e : ℕ) → c1_function (e / 8) (16 + e % 8) ≡ Some (attrs.Back e, markers.Mosaic e)
back_entry e =
    back_code (e / 8) (16 + e % 8) (omega arith) (omega arith)
    ∙ ap (λ (k : ℕ). let a : Option (Attr × Marker) = Some (attrs.Back k, markers.Mosaic k) in a)
    (let same : 8 * (e / 8) + (16 + e % 8 - 16) ≡ e = omega arith in same)

-- ---- the pen

-- under the parallel set
abbrev pub hand_under_parallel : Hand → Hand
hand_under_parallel v = record v { c1 = c1sets.Parallel }

-- the pen takes attributes, and but for the table and the fast flash control stays
pub record Takes (fixed : Fixed) (protect : Bool) (v : Hand) (pen : Pen) (cs : List Command) : Type 0 where
  pub table : ℕ
  pub fast : ℕ
  pub draws : Draws (control_in_cell fixed initial_sets None protect (hand_under_parallel v)) cs []
      (control_in_cell fixed initial_sets None protect (record (hand_under_parallel v) { table = table; fast = fast; pen = pen }))

module _ (fixed : Fixed) (protect : Bool) where
  coded : (v : Hand) (n : ℕ) (attr : Attr) (m : Marker) → c1_function v.table n ≡ Some (attr, m)
      → Takes fixed protect v (pen_with attr v.pen) (commands.C1 n ∷ [])
  coded v n attr m is =
      let s : ControlState = control_in_cell fixed initial_sets None protect (hand_under_parallel v) in
      let fast : ℕ = cond (eqb n 8 || eqb n 9) 0 v.fast in
      record {
        table = v.table;
        fast = fast;
        draws = draws_one _ _ (commands.C1 n) []
            (ap (λ (o : Option (Attr × Marker)). control_with s (working_after_function c1sets.Parallel o fast s)) is)
            (ap (λ (o : Option (Attr × Marker)). strokes_of_function c1sets.Parallel o fast s) is);
      }

  coloured : (v : Hand) (t n : ℕ) (attr : Attr) (m : Marker) → c1_function t n ≡ Some (attr, m)
      → Takes fixed protect v (pen_with attr v.pen) (commands.Table t ∷ commands.C1 n ∷ [])
  coloured v t n attr m is =
      let there = coded (record v { table = t }) n attr m is in
      record {
        table = there.table;
        fast = there.fast;
        draws = draws_silent _ (control_in_cell fixed initial_sets None protect (hand_under_parallel (record v { table = t }))) _
            (commands.Table t) _ _ refl refl there.draws;
      }

  moded : (v : Hand) (k : ℕ) (f : Flash)
      → control_after (control_in_cell fixed initial_sets None protect (hand_under_parallel v)) (commands.FlashMode k)
      ≡ control_in_cell fixed initial_sets None protect
      (record (hand_under_parallel v) { fast = fast_after k v.fast; pen = pen_with (attrs.Flash f) v.pen })
      → Takes fixed protect v (pen_with (attrs.Flash f) v.pen) (commands.FlashMode k ∷ [])
  moded v k f is = record {
    table = v.table;
    fast = fast_after k v.fast;
    draws = draws_one _ _ (commands.FlashMode k) [] is refl;
  }

  attribute_takes : (v : Hand) (attr : Attr)
      → Takes fixed protect v (pen_with attr v.pen) (attribute_commands (λ n. commands.C1 n) attr)
  attribute_takes v (attrs.Fore e) = coloured v (e / 8) (0 + e % 8) (attrs.Fore e) (markers.Alpha e) (fore_entry e)
  attribute_takes v (attrs.Back e) = coloured v (e / 8) (16 + e % 8) (attrs.Back e) (markers.Mosaic e) (back_entry e)
  attribute_takes v attrs.NoBack = coded v 30 attrs.NoBack markers.Hold refl
  attribute_takes v (attrs.Flash flashes.Plain) = coded v 8 (attrs.Flash flashes.Plain) (markers.Flash flashes.Plain) refl
  attribute_takes v (attrs.Flash flashes.Steady) = coded v 9 (attrs.Flash flashes.Steady) (markers.Flash flashes.Steady) refl
  attribute_takes v (attrs.Flash flashes.Inverted) = moded v 0 flashes.Inverted refl
  attribute_takes v (attrs.Flash flashes.Reduced) = moded v 1 flashes.Reduced refl
  attribute_takes v (attrs.Flash flashes.Fast1) = moded v 2 flashes.Fast1 refl
  attribute_takes v (attrs.Flash flashes.Fast2) = moded v 3 flashes.Fast2 refl
  attribute_takes v (attrs.Flash flashes.Fast3) = moded v 4 flashes.Fast3 refl
  attribute_takes v (attrs.Conceal true) = coded v 24 (attrs.Conceal true) (markers.Conceal true) refl
  attribute_takes v (attrs.Conceal false) = coded v 31 (attrs.Conceal false) markers.Release refl
  attribute_takes v (attrs.Lined true) = coded v 26 (attrs.Lined true) (markers.Lined true) refl
  attribute_takes v (attrs.Lined false) = coded v 25 (attrs.Lined false) (markers.Lined false) refl
  attribute_takes v (attrs.Boxed true) = coded v 11 (attrs.Boxed true) (markers.Boxed true) refl
  attribute_takes v (attrs.Boxed false) = coded v 10 (attrs.Boxed false) (markers.Boxed false) refl
  attribute_takes v (attrs.Size sizes.Normal) = coded v 12 (attrs.Size sizes.Normal) (markers.Size sizes.Normal) refl
  attribute_takes v (attrs.Size sizes.High) = coded v 13 (attrs.Size sizes.High) (markers.Size sizes.High) refl
  attribute_takes v (attrs.Size sizes.Wide) = coded v 14 (attrs.Size sizes.Wide) (markers.Size sizes.Wide) refl
  attribute_takes v (attrs.Size sizes.Both) = coded v 15 (attrs.Size sizes.Both) (markers.Size sizes.Both) refl
  attribute_takes v (attrs.Invert true) = coded v 29 (attrs.Invert true) markers.NewBack refl
  attribute_takes v (attrs.Invert false) = coded v 28 (attrs.Invert false) markers.BlackBack refl

  pub attributes_take : (v : Hand) (list : List Attr)
      → Takes fixed protect v (pen_with_all list v.pen) (attributes_commands (λ n. commands.C1 n) list)
  attributes_take v [] = record { table = v.table; fast = v.fast; draws = draws_none _ }
  attributes_take v (attr ∷ more) =
      let here = attribute_takes v attr in
      let next : Hand = record v { table = here.table; fast = here.fast; pen = pen_with attr v.pen } in
      let rest = attributes_take next more in
      record {
        table = rest.table;
        fast = rest.fast;
        draws = draws_joined _ _ _ (attribute_commands (λ n. commands.C1 n) attr)
            (attributes_commands (λ n. commands.C1 n) more) [] [] here.draws rest.draws;
      }

-- ---- a row and the screen

-- an attribute that has a code
abbrev pub HasCode : Attr → Type 0
HasCode (attrs.Flash f) = IsPlainFlash f
HasCode _ = Unit {0}

-- attributes are strokes, and but for the table control stays
pub record Strikes (fixed : Fixed) (v : Hand) (made : List Stroke) (cs : List Command) : Type 0 where
  pub table : ℕ
  pub draws : Draws (control_at_rest fixed v) cs made (control_at_rest fixed (record v { table = table }))

module _ (fixed : Fixed) (code : ℕ → Command) (made : ℕ → Attr → Stroke)
    (keeps : (v : Hand) (n : ℕ) → control_after (control_at_rest fixed v) (code n) ≡ control_at_rest fixed v)
    (strikes : (v : Hand) (n : ℕ) → strokes_of (control_at_rest fixed v) (code n)
    ≡ map (λ f. made v.row f.0) (option_to_list (c1_function v.table n))) where
  struck : (v : Hand) (n : ℕ) (attr : Attr) (m : Marker) → c1_function v.table n ≡ Some (attr, m)
      → Strikes fixed v (made v.row attr ∷ []) (code n ∷ [])
  struck v n attr m is = record {
    table = v.table;
    draws = draws_one _ _ (code n) _ (keeps v n)
        (strikes v n ∙ ap (λ (o : Option (Attr × Marker)). map (λ f. made v.row f.0) (option_to_list o)) is);
  }

  struck_colour : (v : Hand) (t n : ℕ) (attr : Attr) (m : Marker) → c1_function t n ≡ Some (attr, m)
      → Strikes fixed v (made v.row attr ∷ []) (commands.Table t ∷ code n ∷ [])
  struck_colour v t n attr m is =
      let there = struck (record v { table = t }) n attr m is in
      record {
        table = there.table;
        draws = draws_silent _ (control_at_rest fixed (record v { table = t })) _ (commands.Table t) _ _ refl refl there.draws;
      }

  attribute_strikes : (v : Hand) (attr : Attr) → HasCode attr
      → Strikes fixed v (made v.row attr ∷ []) (attribute_commands code attr)
  attribute_strikes v (attrs.Fore e) has = struck_colour v (e / 8) (0 + e % 8) (attrs.Fore e) (markers.Alpha e) (fore_entry e)
  attribute_strikes v (attrs.Back e) has = struck_colour v (e / 8) (16 + e % 8) (attrs.Back e) (markers.Mosaic e) (back_entry e)
  attribute_strikes v attrs.NoBack has = struck v 30 attrs.NoBack markers.Hold refl
  attribute_strikes v (attrs.Flash flashes.Plain) has = struck v 8 (attrs.Flash flashes.Plain) (markers.Flash flashes.Plain) refl
  attribute_strikes v (attrs.Flash flashes.Steady) has = struck v 9 (attrs.Flash flashes.Steady) (markers.Flash flashes.Steady) refl
  attribute_strikes v (attrs.Flash flashes.Inverted) has = elim has [ ]
  attribute_strikes v (attrs.Flash flashes.Reduced) has = elim has [ ]
  attribute_strikes v (attrs.Flash flashes.Fast1) has = elim has [ ]
  attribute_strikes v (attrs.Flash flashes.Fast2) has = elim has [ ]
  attribute_strikes v (attrs.Flash flashes.Fast3) has = elim has [ ]
  attribute_strikes v (attrs.Conceal true) has = struck v 24 (attrs.Conceal true) (markers.Conceal true) refl
  attribute_strikes v (attrs.Conceal false) has = struck v 31 (attrs.Conceal false) markers.Release refl
  attribute_strikes v (attrs.Lined true) has = struck v 26 (attrs.Lined true) (markers.Lined true) refl
  attribute_strikes v (attrs.Lined false) has = struck v 25 (attrs.Lined false) (markers.Lined false) refl
  attribute_strikes v (attrs.Boxed true) has = struck v 11 (attrs.Boxed true) (markers.Boxed true) refl
  attribute_strikes v (attrs.Boxed false) has = struck v 10 (attrs.Boxed false) (markers.Boxed false) refl
  attribute_strikes v (attrs.Size sizes.Normal) has = struck v 12 (attrs.Size sizes.Normal) (markers.Size sizes.Normal) refl
  attribute_strikes v (attrs.Size sizes.High) has = struck v 13 (attrs.Size sizes.High) (markers.Size sizes.High) refl
  attribute_strikes v (attrs.Size sizes.Wide) has = struck v 14 (attrs.Size sizes.Wide) (markers.Size sizes.Wide) refl
  attribute_strikes v (attrs.Size sizes.Both) has = struck v 15 (attrs.Size sizes.Both) (markers.Size sizes.Both) refl
  attribute_strikes v (attrs.Invert true) has = struck v 29 (attrs.Invert true) markers.NewBack refl
  attribute_strikes v (attrs.Invert false) has = struck v 28 (attrs.Invert false) markers.BlackBack refl

  pub attributes_strike : (v : Hand) (list : List Attr) → AllByRecursion HasCode list
      → Strikes fixed v (map (made v.row) list) (attributes_commands code list)
  attributes_strike v [] all = record { table = v.table; draws = draws_none _ }
  attributes_strike v (attr ∷ more) all =
      let here = attribute_strikes v attr all.0 in
      let rest = attributes_strike (record v { table = here.table }) more all.1 in
      record {
        table = rest.table;
        draws = draws_joined _ _ _ (attribute_commands code attr) (attributes_commands code more)
            (made v.row attr ∷ []) (map (made v.row) more) here.draws rest.draws;
      }

-- the same for each of the two
pub row_strikes : (fixed : Fixed) (v : Hand) (list : List Attr) → AllByRecursion HasCode list
    → Strikes fixed v (map (λ attr. strokes.RowAttr v.row attr) list) (attributes_commands (λ n. commands.FullRow n) list)
row_strikes fixed =
    attributes_strike fixed (λ n. commands.FullRow n) (λ r attr. strokes.RowAttr r attr) (λ v n. refl)
    (λ v n. refl)

pub screen_strikes : (fixed : Fixed) (v : Hand) (list : List Attr) → AllByRecursion HasCode list
    → Strikes fixed v (map (λ attr. strokes.ScreenAttr attr) list)
    (attributes_commands (λ n. commands.FullScreen n) list)
screen_strikes fixed =
    attributes_strike fixed (λ n. commands.FullScreen n) (λ r attr. strokes.ScreenAttr attr) (λ v n. refl)
    (λ v n. refl)
