-- Control while a set of points is drawn: what the commands of a cell make of it, and their strokes.
use Rattle.std.proofs.Common.{◌≡◌, ℕ, ◌%◌, ◌≤◌, Bool, true, false, cond, eqb, Option, None, Some}
use Rattle.std.proofs.Common.{List, [], ◌∷◌, min, refl, sym, ap, ◌∙◌, subst, arith}
use Rattle.std.specs.Prelude.{nat_lt}
use Rattle.std.proofs.lemmas.Bool.Decides.{nat_tests}
use Rattle.cept_codes.specs.declared.cell.What.TheVariants as whats
use Rattle.cept_codes.specs.declared.command.C1Set.TheVariants as c1sets
use Rattle.cept_codes.specs.declared.command.Command.TheVariants as commands
use Rattle.cept_codes.specs.declared.glyph.Glyph.{Glyph}
use Rattle.cept_codes.specs.declared.glyph.Read.{Read}
use Rattle.cept_codes.specs.declared.glyph.Read.TheVariants as reads
use Rattle.cept_codes.specs.declared.glyph.SetId.TheVariants as sets
use Rattle.cept_codes.specs.declared.stroke.Stroke.{Stroke}
use Rattle.cept_codes.specs.declared.stroke.Stroke.TheVariants as strokes
use Rattle.cept_codes.specs.Attribute.{unset_pen}
use Rattle.cept_codes.specs.Place.{Place}
use Rattle.cept_profile.specs.Control.{control_after, control_with, working_at}
use Rattle.cept_profile.specs.Sets.{Sets, code_of, initial_sets, read_as, set_of}
use Rattle.cept_profile.specs.Sets.{sign}
use Rattle.cept_profile.specs.State.{Core}
use Rattle.cept_profile.specs.Strokes.{strokes_of}
use Rattle.cept_profile.specs.Working.{ControlState, Working}
use Rattle.cept_profile.specs.Writing.{control_after_shift, sign_with_accent}
use Rattle.cept_profile.proofs.Laws.{ahead-at, strokes_of_read, working_after_read, working_ahead}
use Rattle.cept_profile.proofs.Laws.{on_strokes-none}
use Rattle.cept_plot.specs.inside.Drawing.{control_in_drawing}

-- what changes of control
pub record Hand : Type 0 where
  pub row : ℕ
  pub column : ℕ
  pub last : Option Glyph
  pub kept : Option Working

-- control with these sets
abbrev pub control_at : Core → Sets → Hand → ControlState
control_at k s v = record {
  working = record {
    row = v.row;
    column = v.column;
    c1 = c1sets.Parallel;
    sets = s;
    accent = None;
    last = v.last;
    pen = unset_pen;
    fast = 0;
    run = false;
    step = 1;
    table = 0;
    protect = false;
  };
  rows = k.rows;
  wrap = k.wrap;
  area = k.area;
  implicit = false;
  revision = k.revision;
  kept = v.kept;
}

abbrev pub hand_of : ControlState → Hand
hand_of c = record { row = c.working.row; column = c.working.column; last = c.working.last; kept = c.kept }

pub control_at-hand_of : (k : Core) (c : ControlState) → c ≡ control_in_drawing k c
    → c ≡ control_at k initial_sets (hand_of c)
control_at-hand_of k c is = is

pub control_in_drawing-at : (k : Core) (v : Hand) (c : ControlState) → c ≡ control_at k initial_sets v
    → c ≡ control_in_drawing k c
control_in_drawing-at k v c is = subst (λ (w : ControlState). w ≡ control_in_drawing k w) (sym is) refl

-- ---- a position within the format

abbrev pub hand_at : Place → Hand → Hand
hand_at p v = record v { row = p.row; column = p.column }

pub position-control : (k : Core) (v : Hand) (p : Place) → p.row ≤ k.rows
    → control_after (control_at k initial_sets v) (commands.Position p.row p.column)
    ≡ control_at k initial_sets (hand_at p v)
position-control k v p within =
    let row : min p.row k.rows ≡ p.row = omega (arith, within) in
    ap (λ (r : ℕ). control_at k initial_sets (record v { row = r; column = p.column })) row

-- ---- a sign

-- moving on changes the position alone
ahead_at : (c : ControlState) (n : ℕ)
    → working_ahead c n ≡ working_at (working_ahead c n).row (working_ahead c n).column c.working
ahead_at c n = ahead-at (λ (w : Working). w ≡ working_at w.row w.column c.working) c n (λ row column. refl)

-- the hand after a sign
abbrev pub hand_after : Core → Sets → Hand → Glyph → Hand
hand_after k s v g =
    let on : Working = working_ahead (control_at k s v) 1 in
    record { row = on.row; column = on.column; last = Some g; kept = v.kept }

module _ (k : Core) (s : Sets) (v : Hand) (code : ℕ) (g : Glyph)
    (gives : read_as (set_of s code false) (code_of code) ≡ reads.Glyph g) where
  pub sign-control : control_after (control_at k s v) (commands.Graphic code)
      ≡ control_at k (record s { single = None })
      (hand_after k (record s { single = None }) v (sign_with_accent g.set g.code None))
  sign-control =
      let from : ControlState = control_at k s v in
      let spent : ControlState = control_after_shift from in
      ap (λ (r : Read). control_with from (working_after_read spent r)) gives
      ∙ ap (λ (w : Working). control_with from
      (record w { last = Some (sign_with_accent g.set g.code None); accent = None }))
      (ahead_at spent 1)

  pub sign-strokes : strokes_of (control_at k s v) (commands.Graphic code)
      ≡ strokes.Put (record { row = v.row; column = v.column })
      (record { what = whats.Parallel (sign_with_accent g.set g.code None) unset_pen; protected = false }) ∷ []
  sign-strokes =
      let from : ControlState = control_at k s v in
      ap (λ (r : Read). strokes_of_read (control_after_shift from) r) gives
      ∙ ap (λ (more : List Stroke). strokes.Put (record { row = v.row; column = v.column })
      (record { what = whats.Parallel (sign_with_accent g.set g.code None) unset_pen; protected = false }) ∷ more)
      (on_strokes-none (control_after_shift from) 1 refl)

-- ---- what bytes give

-- the space
pub space_gives : read_as (set_of initial_sets 0x20 false) (code_of 0x20) ≡ reads.Glyph (sign sets.P 0x20)
unfolding read_as set_of
space_gives = refl

abbrev pub mosaic_sets : Sets
mosaic_sets = record initial_sets { left = 1 }

-- a block mosaic, where G1 is locked to the left bytes
pub mosaic_gives : (code : ℕ) → 0x21 ≤ code → code ≤ 0x7F
    → read_as (set_of mosaic_sets code false) (code_of code) ≡ reads.Glyph (sign sets.M code)
unfolding read_as set_of
mosaic_gives code low high =
    let space : Read = reads.Glyph (sign sets.P 0x20) in
    let mosaic : Read = reads.Glyph (sign sets.M code) in
    let same : code % 0x80 ≡ code = omega arith in
    let left : nat_lt code 0x80 ≡ true = grind (arith, nat_tests) in
    let no_space : eqb code 0x20 ≡ false = grind (arith, nat_tests) in
    ap (λ (c : ℕ). read_as (set_of mosaic_sets code false) c) same
    ∙ ap (λ (t : Bool). read_as (cond t sets.M sets.S) code) left
    ∙ ap (λ (t : Bool). cond t space mosaic) no_space
