-- How many strokes of a command move rows: copies of a sign go over the end of a row once in forty columns.
use Rattle.std.proofs.Common.{option_to_list, map}
use Rattle.std.proofs.Common.{◌≡◌, ℕ, ◌+◌, ◌*◌, ◌≤◌, zero, suc, true, false, cond, leb, Option, Some, None}
use Rattle.std.proofs.Common.{List, [], ◌++◌, length, refl, subst, inl, inr, arith}
use Rattle.std.proofs.Common.{IfSome, unwrap_or}
use Rattle.std.specs.List.{count_by}
use Rattle.std.proofs.lemmas.Bool.{cond_both, leb-false}
use Rattle.std.proofs.lemmas.List.Sums.{count_by-le-length, sum_by-append}
use Rattle.cept_codes.specs.declared.attribute.Size.{Size}
use Rattle.cept_codes.specs.declared.attribute.Size.TheVariants as sizes
use Rattle.cept_codes.specs.declared.cell.Marker.{Marker}
use Rattle.cept_codes.specs.declared.command.C1Set.{C1Set}
use Rattle.cept_codes.specs.declared.command.C1Set.TheVariants as c1sets
use Rattle.cept_codes.specs.declared.command.Command.{Command}
use Rattle.cept_codes.specs.declared.command.Command.TheVariants as commands
use Rattle.cept_codes.specs.declared.command.Up.TheVariants as ways
use Rattle.cept_codes.specs.declared.glyph.Glyph.{Glyph}
use Rattle.cept_codes.specs.declared.glyph.Read.{Read}
use Rattle.cept_codes.specs.declared.glyph.Read.TheVariants as reads
use Rattle.cept_codes.specs.declared.stroke.Stroke.{Stroke}
use Rattle.cept_codes.specs.declared.stroke.Stroke.TheVariants as strokes
use Rattle.cept_codes.specs.Command.{IsValidCommand}
use Rattle.cept_codes.specs.Glyph.{IsValidGlyph}
use Rattle.cept_profile.specs.Cells.{moves_rows}
use Rattle.cept_profile.specs.Control.{ControlState, Working, state_for_effect, working_at}
use Rattle.cept_profile.specs.Motions.{area_in_force, below}
use Rattle.cept_profile.specs.Pens.{c1_function, flash_of}
use Rattle.cept_codes.specs.declared.attribute.Attr.{Attr}
use Rattle.cept_profile.specs.Strokes.{strokes_of}
use Rattle.cept_profile.specs.Tiling.{columns_of_size}
use Rattle.cept_profile.specs.Valid.{IsValidControl, IsValidWorking}
use Rattle.cept_profile.specs.Writing.{control_after_shift, columns_under, effect_of_copies}
use Rattle.cept_profile.specs.Writing.{graphic_read}
use Rattle.cept_profile.proofs.Halves.{below_strokes, columns_of_sign, control_after_copies, flashing, on_strokes, revealing}
use Rattle.cept_profile.proofs.Halves.{strokes_of_copies, strokes_of_function, strokes_of_marker, strokes_of_read}
use Rattle.cept_profile.proofs.Halves.{strokes_of_repeat, strokes_of_sign, strokes_when, working_ahead, working_below}
use Rattle.cept_profile.proofs.MotionStrokes.{below-at, length-above_strokes, length-back_strokes, length-below_strokes}
use Rattle.cept_profile.proofs.MotionStrokes.{length-on_strokes, length-strokes_of_scroll}
use Rattle.cept_profile.proofs.ValidControl.{IsValidControl-control_after_copies, IsValidControl-state_for_effect}

-- how many of the strokes move rows
abbrev count_of_moves : List Stroke → ℕ
count_of_moves strokes = count_by moves_rows strokes

-- as many as there are at most
moves-few : (strokes : List Stroke) (n : ℕ) → length strokes ≤ n → n ≤ 4 → count_of_moves strokes ≤ 4
moves-few strokes n few small = omega (arith, count_by-le-length moves_rows strokes)

moves-append : (xs ys : List Stroke) → count_of_moves (xs ++ ys) ≡ count_of_moves xs + count_of_moves ys
moves-append xs ys = sum_by-append (λ stroke. cond (moves_rows stroke) 1 0) xs ys

-- ---- copies of a sign

columns_of_size-few : (size : Size) → columns_of_size size ≤ 2
columns_of_size-few sizes.Normal = omega arith
columns_of_size-few sizes.High = omega arith
columns_of_size-few sizes.Wide = omega arith
columns_of_size-few sizes.Both = omega arith

columns_under-few : (c1 : C1Set) (w : Working) → IsValidWorking w → columns_under c1 w ≤ 2
columns_under-few c1sets.Parallel w is = columns_of_size-few (unwrap_or w.pen.size sizes.Normal)
columns_under-few c1sets.Serial w is = elim is.step [ inl one ↦ omega (arith, one) | inr two ↦ omega (arith, two) ]

-- a move costs the columns that are left behind: going on takes forty columns for it
ahead-by : (s : ControlState) (n : ℕ)
    → 40 * count_of_moves (on_strokes s n) + (working_ahead s n).column ≤ s.working.column + n
ahead-by s n =
    let w : Working = s.working in
    let few = count_by-le-length moves_rows (below_strokes s 1) in
    let first : (working_below s 1).column ≡ 1 = below-at (λ v. v.column ≡ 1) s 1 (λ r. refl) in
    cond_both (leb (w.column + n) 40) (working_at w.row (w.column + n) w, [])
    (cond s.wrap (below s 1) (working_at w.row 40 w, []))
    (λ (m : Working × List Stroke). 40 * count_of_moves m.1 + m.0.column ≤ w.column + n) (λ e. omega arith)
    (λ e. let past = leb-false (w.column + n) 40 e in
    cond_both s.wrap (below s 1) (working_at w.row 40 w, [])
    (λ (m : Working × List Stroke). 40 * count_of_moves m.1 + m.0.column ≤ w.column + n)
    (λ wraps. omega (arith, past, few, length-below_strokes s 1, first)) (λ stays. omega (arith, past)))

copies-far : (n : ℕ) (s : ControlState) (g : Glyph) → IsValidControl s → IsValidGlyph g
    → 40 * count_of_moves (strokes_of_copies n s g) + (control_after_copies n s g).working.column
    ≤ s.working.column + 2 * n
unfolding effect_of_copies
copies-far zero s g is valid = omega arith
copies-far (suc n) s g is valid =
    let t : ControlState = control_after_copies n s g in
    let k : ℕ = columns_of_sign t in
    let step = ahead-by t k in
    let few = columns_under-few t.working.c1 t.working (IsValidControl-control_after_copies n s g is valid).working in
    omega (
      arith,
      copies-far n s g is valid,
      moves-append (strokes_of_copies n s g) (strokes_of_sign t g),
      step,
      few,
    )

moves-copies : (n : ℕ) (s : ControlState) (g : Glyph) → IsValidControl s → IsValidGlyph g → n ≤ 63
    → count_of_moves (strokes_of_copies n s g) ≤ 4
moves-copies n s g is valid low = omega (arith, copies-far n s g is valid, is.working.place.to_right)

moves-repeat : (n : ℕ) (s : ControlState) (last : Option Glyph) → IsValidControl s → s.working.last ≡ last → n ≤ 63
    → count_of_moves (strokes_of_repeat n s last) ≤ 4
moves-repeat n s None is e low = omega arith
moves-repeat n s (Some g) is e low =
    moves-copies n s g is (subst (λ (o : Option Glyph). IfSome o IsValidGlyph) e is.working.last) low

-- ---- one command

length-read : (s : ControlState) (read : Read) → length (strokes_of_read s read) ≤ 2
length-read s (reads.Accent code) = omega arith
length-read s (reads.Glyph g) = omega (arith, length-on_strokes s (columns_of_sign s))

length-marker : (s : ControlState) (m : Marker) → length (strokes_of_marker s m) ≤ 2
length-marker s m = omega (arith, length-on_strokes s 1)

length-function : (s : ControlState) (c1 : C1Set) (function : Option (Attr × Marker)) (fast : ℕ)
    → length (strokes_of_function c1 function fast s) ≤ 2
length-function s c1sets.Parallel None fast = omega arith
length-function s c1sets.Parallel (Some function) fast = omega arith
length-function s c1sets.Serial None fast = omega arith
length-function s c1sets.Serial (Some function) fast = length-marker s function.1

length-attribute : (function : Option (Attr × Marker))
    → length (map (λ f. strokes.ScreenAttr f.0) (option_to_list function)) ≤ 2
length-attribute None = omega arith
length-attribute (Some function) = omega arith

length-row_attribute : (r : ℕ) (function : Option (Attr × Marker))
    → length (map (λ f. strokes.RowAttr r f.0) (option_to_list function)) ≤ 2
length-row_attribute r None = omega arith
length-row_attribute r (Some function) = omega arith

moves-strokes_when : (s : ControlState) (command : Command) → IsValidControl s → IsValidCommand command
    → count_of_moves (strokes_when s command) ≤ 4
moves-strokes_when s commands.Back is valid = moves-few _ 1 (length-back_strokes s) (omega arith)
moves-strokes_when s commands.Forward is valid = moves-few _ 1 (length-on_strokes s 1) (omega arith)
moves-strokes_when s commands.Down is valid = moves-few _ 1 (length-below_strokes s s.working.column) (omega arith)
moves-strokes_when s commands.Up is valid = moves-few _ 1 (length-above_strokes s s.working.column) (omega arith)
moves-strokes_when s commands.ScrollUp is valid =
    moves-few _ 1 (length-strokes_of_scroll s ways.Up (area_in_force s)) (omega arith)
moves-strokes_when s commands.ScrollDown is valid =
    moves-few _ 1 (length-strokes_of_scroll s ways.Down (area_in_force s)) (omega arith)
moves-strokes_when s (commands.Graphic byte) is valid =
    moves-few _ 2 (length-read (control_after_shift s) (graphic_read s byte)) (omega arith)
moves-strokes_when s (commands.Repeat n) is valid = moves-repeat n s s.working.last is refl valid
moves-strokes_when s (commands.C1 n) is valid =
    moves-few _ 2 (length-function s s.working.c1 (c1_function s.working.table n) _) (omega arith)
moves-strokes_when s (commands.FlashMode k) is valid =
    moves-few _ 2 (length-function s s.working.c1 (flashing (flash_of k s.working.fast)) _) (omega arith)
moves-strokes_when s commands.StopConceal is valid =
    moves-few _ 2 (length-function s s.working.c1 revealing _) (omega arith)
moves-strokes_when s (commands.FullScreen n) is valid =
    moves-few _ 2 (length-attribute (c1_function s.working.table n)) (omega arith)
moves-strokes_when s (commands.FullRow n) is valid =
    moves-few _ 2 (length-row_attribute s.working.row (c1_function s.working.table n)) (omega arith)
moves-strokes_when s (commands.DrcsHeader true form) is valid = omega arith
moves-strokes_when s (commands.DrcsHeader false form) is valid = omega arith
moves-strokes_when s _ is valid = omega arith

-- a command has at most four strokes that move rows
pub moves-strokes_of : (s : ControlState) (command : Command) → IsValidControl s → IsValidCommand command
    → count_by moves_rows (strokes_of s command) ≤ 4
moves-strokes_of s command is valid =
    moves-strokes_when (state_for_effect s command) command (IsValidControl-state_for_effect s command is) valid
