-- The commands of a sign put it once and leave the sets as at the start.
use Rattle.std.proofs.Common.{◌≡◌, ℕ, ◌≤◌, ◌%◌, Bool, true, false, cond, eqb, None, Some, Option, List, [], ◌∷◌, ◌++◌}
use Rattle.std.proofs.Common.{refl, sym, ap, ◌∙◌, subst, inl, inr, arith}
use Rattle.std.specs.Prelude.{nat_lt}
use Rattle.std.proofs.lemmas.Bool.Decides.{nat_tests}
use Rattle.cept_codes.specs.declared.command.Command.{Command}
use Rattle.cept_codes.specs.declared.command.Command.TheVariants as commands
use Rattle.cept_codes.specs.declared.glyph.Glyph.{Glyph}
use Rattle.cept_codes.specs.declared.glyph.Read.{Read}
use Rattle.cept_codes.specs.declared.glyph.Read.TheVariants as reads
use Rattle.cept_codes.specs.declared.glyph.SetId.{SetId}
use Rattle.cept_codes.specs.declared.glyph.SetId.TheVariants as sets
use Rattle.cept_codes.specs.declared.stroke.Stroke.{Stroke}
use Rattle.cept_codes.specs.declared.stroke.Stroke.TheVariants as strokes
use Rattle.cept_codes.specs.Glyph.{IsCodeOf, IsValidAccent, IsValidGlyph}
use Rattle.cept_profile.specs.Control.{ControlState, Sets, Working, control_after, control_with, initial_sets}
use Rattle.cept_profile.specs.Sets.{code_of, is_accent, read_as, set_of, sets_with, sign}
use Rattle.cept_profile.specs.Strokes.{strokes_of}
use Rattle.cept_profile.specs.Writing.{content, control_after_shift, sign_with_accent}
use Rattle.cept_profile.proofs.Laws.{columns_of_sign, strokes_of_read, working_after_read}
use Rattle.cept_writer.specs.CellCommands.{accent_commands, glyph_commands, sign_commands}
use Rattle.cept_writer.proofs.Drawing.{Draws, draws_one, draws_silent, draws_then}
use Rattle.cept_writer.proofs.Resting.{Fixed, Hand, hand_ahead, control_in_cell, moves_on, stays}

-- ---- what a byte gives

-- a byte of the left half by the set that is taken for it
pub byte_reads : (s : Sets) (run : Bool) (set : SetId) (code : ℕ) (read : Read) → code ≤ 0x7F → set_of s code run ≡ set
    → read_as set code ≡ read → read_as (set_of s code run) (code_of code) ≡ read
byte_reads s run set code read below taken reads =
    let same : code % 0x80 ≡ code = omega arith in
    ap (λ (k : ℕ). read_as (set_of s code run) k) same ∙ ap (λ (t : SetId). read_as t code) taken ∙ reads

-- a code that is no space and no accent is a sign
pub sign_reads : (set : SetId) (code : ℕ) → eqb code 0x20 ≡ false → is_accent set code ≡ false
    → read_as set code ≡ reads.Glyph (sign set code)
unfolding read_as
sign_reads set code no_space no_accent = rw (no_space, no_accent) refl

-- each code of set P is a sign
pub first_sign_reads : (code : ℕ) → read_as sets.P code ≡ reads.Glyph (sign sets.P code)
unfolding read_as
first_sign_reads code = by_test (eqb code 0x20) refl where
  by_test : (space : Bool) → eqb code 0x20 ≡ space
      → cond space (reads.Glyph (sign sets.P 0x20)) (reads.Glyph (sign sets.P code)) ≡ reads.Glyph (sign sets.P code)
  by_test true is =
      let same : code ≡ 0x20 = grind (arith, nat_tests) in
      ap (λ (k : ℕ). let r : Read = reads.Glyph (sign sets.P k) in r) (sym same)
  by_test false is = refl

-- a code of an accent is one
pub accent_reads : (code : ℕ) → 0x40 ≤ code → code ≤ 0x4F → read_as sets.S code ≡ reads.Accent code
unfolding read_as
accent_reads code low high =
    let no_space : eqb code 0x20 ≡ false = grind (arith, nat_tests) in
    let accent : is_accent sets.S code ≡ true = grind (arith, nat_tests) in
    rw (no_space, accent) refl

-- ---- one byte

-- a byte that gives a sign
pub sign_control : (fixed : Fixed) (s : Sets) (accent : Option ℕ) (protect : Bool) (v : Hand) (code : ℕ) (g : Glyph)
    → read_as (set_of s code v.run) (code_of code) ≡ reads.Glyph g
    → control_after (control_in_cell fixed s accent protect v) (commands.Graphic code)
    ≡ control_in_cell fixed (record s { single = None }) None protect
    (record (hand_ahead fixed v (columns_of_sign (control_in_cell fixed (record s { single = None }) accent protect v)))
    { last = Some (sign_with_accent g.set g.code accent) })
sign_control fixed s accent protect v code g gives =
    let t : Sets = record s { single = None } in
    let from : ControlState = control_in_cell fixed s accent protect v in
    ap (λ (r : Read). control_with from (working_after_read (control_after_shift from) r)) gives
    ∙ ap (λ (w : Working). control_with from (record w { last = Some (sign_with_accent g.set g.code accent); accent = None }))
    (moves_on fixed t accent protect v (columns_of_sign (control_in_cell fixed t accent protect v)))

pub sign_strokes : (fixed : Fixed) (s : Sets) (accent : Option ℕ) (protect : Bool) (v : Hand) (code : ℕ) (g : Glyph)
    → read_as (set_of s code v.run) (code_of code) ≡ reads.Glyph g
    → strokes_of (control_in_cell fixed s accent protect v) (commands.Graphic code)
    ≡ strokes.Put (record { row = v.row; column = v.column })
    (record { what = content v.c1 (sign_with_accent g.set g.code accent) v.pen; protected = protect }) ∷ []
sign_strokes fixed s accent protect v code g gives =
    let t : Sets = record s { single = None } in
    let from : ControlState = control_in_cell fixed s accent protect v in
    ap (λ (r : Read). strokes_of_read (control_after_shift from) r) gives
    ∙ ap (λ (more : List Stroke). strokes.Put (record { row = v.row; column = v.column })
    (record { what = content v.c1 (sign_with_accent g.set g.code accent) v.pen; protected = protect }) ∷ more)
    (stays fixed t accent protect v (columns_of_sign (control_in_cell fixed t accent protect v)))

-- ---- the commands of a sign

-- outside a mosaic run
abbrev pub hand_without_run : Hand → Hand
hand_without_run v = record v { run = false }

-- from rest but for protection the commands put this cell and leave the same
pub record Puts (fixed : Fixed) (protect : Bool) (v : Hand) (g : Glyph) (cs : List Command) : Type 0 where
  pub hand : Hand
  pub draws : Draws (control_in_cell fixed initial_sets None protect v) cs
      (strokes.Put (record { row = v.row; column = v.column })
      (record { what = content v.c1 g v.pen; protected = protect }) ∷ []) (control_in_cell fixed initial_sets None protect hand)

module _ (fixed : Fixed) (protect : Bool) (v : Hand) where
  -- left bytes take the set that is locked to them
  left_is : (code : ℕ) → code ≤ 0x7F → nat_lt code 0x80 ≡ true
  left_is code below = grind (arith, nat_tests)

  accented : (code accent : ℕ) → code ≤ 0x7F → 0x40 ≤ accent → accent ≤ 0x4F
      → Puts fixed protect (hand_without_run v) (record { set = sets.P; code = code; accent = accent })
      (commands.Single 2 ∷ commands.Graphic accent ∷ commands.Graphic code ∷ [])
  unfolding set_of
  accented code accent below low high =
      let waits = byte_reads (record initial_sets { single = Some 2 }) false sets.S accent (reads.Accent accent)
      (omega (arith, high)) refl (accent_reads accent low high) in
      let gives = byte_reads initial_sets false sets.P code (reads.Glyph (sign sets.P code)) below
      (ap (λ (t : Bool). cond t sets.P sets.S) (left_is code below)) (first_sign_reads code) in
      let single : ControlState =
      control_in_cell fixed (record initial_sets { single = Some 2 }) None protect (hand_without_run v) in
      record {
        hand = _;
        draws = draws_silent _ single _ (commands.Single 2) _ _ refl refl
            (draws_silent single (control_in_cell fixed initial_sets (Some accent) protect (hand_without_run v)) _ (commands.Graphic accent) _ _
            (ap (λ (r : Read). control_with single (working_after_read (control_after_shift single) r)) waits)
            (ap (λ (r : Read). strokes_of_read (control_after_shift single) r) waits)
            (draws_one _ _ (commands.Graphic code) _
            (sign_control fixed initial_sets (Some accent) protect (hand_without_run v) code (sign sets.P code) gives)
            (sign_strokes fixed initial_sets (Some accent) protect (hand_without_run v) code (sign sets.P code) gives)));
      }

  first : (code : ℕ) → code ≤ 0x7F
      → Puts fixed protect (hand_without_run v) (sign sets.P code) (commands.Graphic code ∷ [])
  unfolding set_of
  first code below =
      let gives = byte_reads initial_sets false sets.P code (reads.Glyph (sign sets.P code)) below
      (ap (λ (t : Bool). cond t sets.P sets.S) (left_is code below)) (first_sign_reads code) in
      record {
        hand = _;
        draws = draws_one _ _ (commands.Graphic code) _
            (sign_control fixed initial_sets None protect (hand_without_run v) code (sign sets.P code) gives)
            (sign_strokes fixed initial_sets None protect (hand_without_run v) code (sign sets.P code) gives);
      }

  supplementary : (code : ℕ) → IsCodeOf sets.S code
      → Puts fixed protect (hand_without_run v) (sign sets.S code) (commands.Single 2 ∷ commands.Graphic code ∷ [])
  unfolding set_of
  supplementary code is =
      let single : Sets = record initial_sets { single = Some 2 } in
      let no_space : eqb code 0x20 ≡ false = grind (arith, nat_tests) in
      let no_accent : is_accent sets.S code ≡ false = grind (arith, nat_tests) in
      let gives = byte_reads single false sets.S code (reads.Glyph (sign sets.S code)) is.1 refl
      (sign_reads sets.S code no_space no_accent) in
      record {
        hand = _;
        draws = draws_silent _ (control_in_cell fixed single None protect (hand_without_run v)) _ (commands.Single 2) _ _ refl refl
            (draws_one _ _ (commands.Graphic code) _
            (sign_control fixed single None protect (hand_without_run v) code (sign sets.S code) gives)
            (sign_strokes fixed single None protect (hand_without_run v) code (sign sets.S code) gives));
      }

  third : (code : ℕ) → IsCodeOf sets.N code
      → Puts fixed protect (hand_without_run v) (sign sets.N code) (commands.Single 3 ∷ commands.Graphic code ∷ [])
  unfolding set_of
  third code is =
      let single : Sets = record initial_sets { single = Some 3 } in
      let no_space : eqb code 0x20 ≡ false = grind (arith, nat_tests) in
      let gives = byte_reads single false sets.N code (reads.Glyph (sign sets.N code)) is.1 refl
      (sign_reads sets.N code no_space refl) in
      record {
        hand = _;
        draws = draws_silent _ (control_in_cell fixed single None protect (hand_without_run v)) _ (commands.Single 3) _ _ refl refl
            (draws_one _ _ (commands.Graphic code) _
            (sign_control fixed single None protect (hand_without_run v) code (sign sets.N code) gives)
            (sign_strokes fixed single None protect (hand_without_run v) code (sign sets.N code) gives));
      }

  mosaic : (code : ℕ) → IsCodeOf sets.M code → Puts fixed protect (hand_without_run v) (sign sets.M code)
      (commands.LockLeft 1 ∷ commands.Graphic code ∷ commands.LockLeft 0 ∷ [])
  unfolding set_of
  mosaic code is =
      let locked : Sets = record initial_sets { left = 1 } in
      let no_space : eqb code 0x20 ≡ false = grind (arith, nat_tests) in
      let gives = byte_reads locked false sets.M code (reads.Glyph (sign sets.M code)) is.1
      (ap (λ (t : Bool). cond t sets.M sets.S) (left_is code is.1)) (sign_reads sets.M code no_space refl) in
      record {
        hand = _;
        draws = draws_silent _ (control_in_cell fixed locked None protect (hand_without_run v)) _ (commands.LockLeft 1) _ _ refl refl
            (draws_then _ _ _ (commands.Graphic code) _ _ []
            (sign_control fixed locked None protect (hand_without_run v) code (sign sets.M code) gives)
            (sign_strokes fixed locked None protect (hand_without_run v) code (sign sets.M code) gives)
            (draws_one _ _ (commands.LockLeft 0) [] refl refl));
      }

  downloaded : (code : ℕ) → IsCodeOf sets.D code → Puts fixed protect (hand_without_run v) (sign sets.D code)
      (commands.Designate 0 sets.D ∷ commands.Graphic code ∷ commands.Designate 0 sets.P ∷ [])
  unfolding set_of
  downloaded code is =
      let named : Sets = sets_with initial_sets 0 sets.D in
      let no_space : eqb code 0x20 ≡ false = grind (arith, nat_tests) in
      let gives = byte_reads named false sets.D code (reads.Glyph (sign sets.D code)) is.1
      (ap (λ (t : Bool). cond t sets.D sets.S) (left_is code is.1)) (sign_reads sets.D code no_space refl) in
      record {
        hand = _;
        draws = draws_silent _ (control_in_cell fixed named None protect (hand_without_run v)) _ (commands.Designate 0 sets.D) _ _ refl refl
            (draws_then _ _ _ (commands.Graphic code) _ _ []
            (sign_control fixed named None protect (hand_without_run v) code (sign sets.D code) gives)
            (sign_strokes fixed named None protect (hand_without_run v) code (sign sets.D code) gives)
            (draws_one _ _ (commands.Designate 0 sets.P) [] refl refl));
      }

  -- a sign without accent is one with none
  unaccented : (set : SetId) (code accent : ℕ) (cs : List Command) → accent ≡ 0
      → Puts fixed protect (hand_without_run v) (sign set code) cs
      → Puts fixed protect (hand_without_run v) (record { set = set; code = code; accent = accent }) cs
  unaccented set code accent cs e puts =
      subst (λ (a : ℕ). Puts fixed protect (hand_without_run v) (record { set = set; code = code; accent = a }) cs) (sym e) puts

  sign_puts : (set : SetId) (code accent : ℕ) → IsCodeOf set code → IsValidAccent set accent
      → Puts fixed protect (hand_without_run v) (record { set = set; code = code; accent = accent }) (sign_commands set code accent)
  sign_puts sets.P code accent is (inl none) =
      subst (λ (a : ℕ). Puts fixed protect (hand_without_run v) (record { set = sets.P; code = code; accent = a })
      (accent_commands a ++ commands.Graphic code ∷ [])) (sym none) (first code is.1)
  sign_puts sets.P code accent is (inr some) =
      let set : eqb accent 0 ≡ false = grind (arith, nat_tests) in
      let written : accent_commands accent ≡ commands.Single 2 ∷ commands.Graphic accent ∷ [] =
      ap (λ (t : Bool). cond t [] (commands.Single 2 ∷ commands.Graphic accent ∷ [])) set in
      subst (λ (cs : List Command). Puts fixed protect (hand_without_run v)
      (record { set = sets.P; code = code; accent = accent }) (cs ++ commands.Graphic code ∷ [])) (sym written)
      (accented code accent is.1 some.0 some.1)
  sign_puts sets.S code accent is none = unaccented sets.S code accent _ none (supplementary code is)
  sign_puts sets.M code accent is none = unaccented sets.M code accent _ none (mosaic code is)
  sign_puts sets.N code accent is none = unaccented sets.N code accent _ none (third code is)
  sign_puts sets.D code accent is none = unaccented sets.D code accent _ none (downloaded code is)

-- any valid sign
pub glyph_puts : (fixed : Fixed) (protect : Bool) (v : Hand) (g : Glyph) → IsValidGlyph g
    → Puts fixed protect (hand_without_run v) g (glyph_commands g)
glyph_puts fixed protect v g is = sign_puts fixed protect v g.set g.code g.accent is.code is.accent
