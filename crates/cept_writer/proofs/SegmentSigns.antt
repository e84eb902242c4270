-- The signs of a segment are put one after the other, and control stays in the segment.
use Rattle.std.proofs.Common.{◌≡◌, ℕ, zero, suc, ◌+◌, ◌*◌, ◌≤◌, Bool, true, false, cond, eqb, leb, Option, None, Some}
use Rattle.std.proofs.Common.{List, [], ◌∷◌, ◌++◌, length, map, refl, sym, ap, ◌∙◌, subst, inl, inr, arith}
use Rattle.std.specs.Prelude.{IsTrue, ◌↔◌, nat_lt, unwrap_or}
use Rattle.std.proofs.lemmas.Bool.{le-leb, leb-true}
use Rattle.std.proofs.lemmas.Bool.Decides.{nat_tests}
use Rattle.std.proofs.lemmas.List.{append-nil, length-append, length-map, map-append}
use Rattle.std.proofs.Math.Nat.{zero-mul}
use Rattle.std.specs.List.{AllByRecursion, flat_map}
use Rattle.cept_codes.specs.declared.attribute.Pen.{Pen}
use Rattle.cept_codes.specs.declared.attribute.Size.TheVariants as sizes
use Rattle.cept_codes.specs.declared.cell.What.{What}
use Rattle.cept_codes.specs.declared.command.C1Set.{C1Set}
use Rattle.cept_codes.specs.declared.command.C1Set.TheVariants as c1sets
use Rattle.cept_codes.specs.declared.command.Command.{Command}
use Rattle.cept_codes.specs.declared.command.Command.TheVariants as commands
use Rattle.cept_codes.specs.declared.glyph.Glyph.{Glyph}
use Rattle.cept_codes.specs.declared.glyph.Read.{Read}
use Rattle.cept_codes.specs.declared.glyph.Read.TheVariants as reads
use Rattle.cept_codes.specs.declared.glyph.SetId.{SetId}
use Rattle.cept_codes.specs.declared.glyph.SetId.TheVariants as sets
use Rattle.cept_codes.specs.declared.stroke.Stroke.{Stroke}
use Rattle.cept_codes.specs.declared.stroke.Stroke.TheVariants as strokes
use Rattle.cept_codes.specs.Glyph.{IsCodeOf, IsValidAccent, IsValidGlyph}
use Rattle.cept_codes.specs.Same.{same_glyph}
use Rattle.cept_parser.specs.Spelling.{spellings}
use Rattle.cept_profile.specs.Control.{ControlState, Sets, Working, control_with, initial_sets}
use Rattle.cept_profile.specs.Sets.{code_of, is_accent, read_as, set_of, sets_with, sign}
use Rattle.cept_profile.specs.Tiling.{columns_of_size}
use Rattle.cept_profile.specs.Writing.{columns_under, content, control_after_shift, effect_of_copies}
use Rattle.cept_profile.specs.Writing.{sign_with_accent}
use Rattle.cept_profile.proofs.Laws.{columns_of_sign, control_after_copies, strokes_of_copies, strokes_of_read}
use Rattle.cept_profile.proofs.Laws.{strokes_of_repeat, strokes_of_sign, working_after_read, working_after_repeat}
use Rattle.cept_profile.proofs.Laws.{working_after_sign}
use Rattle.cept_writer.specs.CellCommands.{accent_commands}
use Rattle.cept_writer.specs.Chains.{Chain, GoOnFrom, chains, members}
use Rattle.cept_writer.specs.SegmentCommands.{closing_commands, is_shorter_repeated, opening_commands, run_commands}
use Rattle.cept_writer.specs.SegmentCommands.{signs_commands, unit_commands, unit_of_set}
use Rattle.cept_writer.proofs.ChainLemmas.{chains_joined, each_chain}
use Rattle.cept_writer.proofs.Drawing.{Draws, draws_joined, draws_none, draws_one, draws_silent}
use Rattle.cept_writer.proofs.Resting.{Fixed, Hand, control_in_cell, hand_ahead, moves_on, stays}
use Rattle.cept_writer.proofs.SignsWritten.{accent_reads, byte_reads, first_sign_reads, sign_control}
use Rattle.cept_writer.proofs.SignsWritten.{sign_reads, sign_strokes}

-- ---- cells one after the other

-- the strokes that put these from a place on
abbrev pub puts_from : Bool → ℕ → ℕ → List What → List Stroke
puts_from protect r c [] = []
puts_from protect r c (what ∷ more) =
    strokes.Put (record { row = r; column = c }) (record { what = what; protected = protect }) ∷ puts_from protect r (c + 1) more

pub puts_from-append : (protect : Bool) (r c : ℕ) (a b : List What)
    → puts_from protect r c (a ++ b) ≡ puts_from protect r c a ++ puts_from protect r (c + length a) b
puts_from-append protect r c [] b = ap (λ k. puts_from protect r k b) (let e : c ≡ c + 0 = omega arith in e)
puts_from-append protect r c (what ∷ a) b =
    ap (λ (l : List Stroke). strokes.Put (record { row = r; column = c }) (record { what = what; protected = protect }) ∷ l)
    (puts_from-append protect r (c + 1) a b
    ∙ ap (λ k. puts_from protect r (c + 1) a ++ puts_from protect r k b)
    (let e : c + 1 + length a ≡ c + suc (length a) = omega arith in e))

-- the hand in a segment: its C1 set and its pen, no mosaic run, and signs that move on by one column
abbrev pub in_segment : C1Set → Pen → Hand → Hand
in_segment c1 pen v = record v { c1 = c1; pen = pen; run = false; step = 1 }

-- it stands there
pub record IsAt (v : Hand) (r c : ℕ) : Type 0 where
  pub row : v.row ≡ r
  pub column : v.column ≡ c

-- the sets while signs of one set are written
abbrev pub sets_among : SetId → Sets
sets_among sets.M = record initial_sets { left = 1 }
sets_among sets.D = sets_with initial_sets 0 sets.D
sets_among _ = initial_sets

-- signs take one column
one_column : (c1 : C1Set) (w : Working) → w.step ≡ 1 → columns_of_size (unwrap_or w.pen.size sizes.Normal) ≡ 1
    → columns_under c1 w ≡ 1
one_column c1sets.Serial w step narrow = step
one_column c1sets.Parallel w step narrow = narrow

-- one column on within the row
ahead_within : (fixed : Fixed) (v : Hand) → v.column + 1 ≤ 40 → IsAt (hand_ahead fixed v 1) v.row (v.column + 1)
unfolding hand_ahead
ahead_within fixed v within =
    let is : leb (v.column + 1) 40 ≡ true = le-leb (v.column + 1) 40 within in
    record { row = rw is refl; column = rw is refl }

-- n equal ones
abbrev pub equal_ones : ℕ → What → List What
equal_ones zero what = []
equal_ones (suc n) what = what ∷ equal_ones n what

equal_ones-last : (n : ℕ) (what : What) → equal_ones (suc n) what ≡ equal_ones n what ++ what ∷ []
equal_ones-last zero what = refl
equal_ones-last (suc n) what = ap (λ l. what ∷ l) (equal_ones-last n what)

length-equal_ones : (n : ℕ) (what : What) → length (equal_ones n what) ≡ n
length-equal_ones zero what = refl
length-equal_ones (suc n) what = ap suc (length-equal_ones n what)

-- in a segment the commands put these from the hand's place on, with these sets before and after
pub record Writes (fixed : Fixed) (protect : Bool) (c1 : C1Set) (pen : Pen) (s : Sets) (v : Hand) (cs : List Command)
    (list : List What) : Type 0 where
  pub hand : Hand
  pub place : v.column + length list ≤ 40 → IsAt hand v.row (v.column + length list)
  pub draws : Draws (control_in_cell fixed s None protect (in_segment c1 pen v)) cs
      (puts_from protect v.row v.column list) (control_in_cell fixed s None protect (in_segment c1 pen hand))

module _ (fixed : Fixed) (protect : Bool) (c1 : C1Set) (pen : Pen) (s : Sets) where
  writes_none : (v : Hand) → Writes fixed protect c1 pen s v [] []
  writes_none v = record {
    hand = v;
    place = λ h. record { row = refl; column = omega arith };
    draws = draws_none (control_in_cell fixed s None protect (in_segment c1 pen v));
  }

  pub writes_joined : (v : Hand) (a b : List Command) (xs ys : List What)
      → (first : Writes fixed protect c1 pen s v a xs) → v.column + length xs ≤ 40
      → Writes fixed protect c1 pen s first.hand b ys → Writes fixed protect c1 pen s v (a ++ b) (xs ++ ys)
  writes_joined v a b xs ys first within second =
      let at = first.place within in
      let before : Hand = first.hand in
      let after : Hand = second.hand in
      let long = length-append xs ys in
      let moved : puts_from protect before.row before.column ys ≡ puts_from protect v.row (v.column + length xs) ys =
      ap (λ (r : ℕ). puts_from protect r before.column ys) at.row
      ∙ ap (λ (c : ℕ). puts_from protect v.row c ys) at.column in
      let together : puts_from protect v.row v.column xs ++ puts_from protect before.row before.column ys
      ≡ puts_from protect v.row v.column (xs ++ ys) =
      ap (λ (l : List Stroke). puts_from protect v.row v.column xs ++ l) moved
      ∙ sym (puts_from-append protect v.row v.column xs ys) in
      record {
        hand = after;
        place = λ fits.
            let column = at.column in
            let there = second.place (omega (arith, fits, long, column)) in
            let last = there.column in
            record { row = there.row ∙ at.row; column = omega (arith, last, long, column) };
        draws = subst (λ (l : List Stroke). Draws (control_in_cell fixed s None protect (in_segment c1 pen v)) (a ++ b) l
            (control_in_cell fixed s None protect (in_segment c1 pen after))) together
            (draws_joined _ _ _ a b _ _ first.draws second.draws);
      }

  -- the same with other lists that are equal
  writes_as : (v : Hand) (a b : List Command) (xs ys : List What) → a ≡ b → xs ≡ ys
      → Writes fixed protect c1 pen s v a xs → Writes fixed protect c1 pen s v b ys
  writes_as v a b xs ys commands list writes =
      subst (λ (l : List Command). Writes fixed protect c1 pen s v l ys) commands
      (subst (λ (l : List What). Writes fixed protect c1 pen s v a l) list writes)

  -- pieces one after the other, none of them empty
  module _ {X : Type 0} (text : X → List Command) (in_cells : X → List What) where
    abbrev pub IsWritten : X → Type 0
    IsWritten x = (1 ≤ length (in_cells x)) × ((v : Hand) → v.column + length (in_cells x) ≤ 41
        → Writes fixed protect c1 pen s v (text x) (in_cells x))

    pub pieces_written : (xs : List X) → AllByRecursion IsWritten xs → (v : Hand)
        → v.column + length (flat_map in_cells xs) ≤ 41
        → Writes fixed protect c1 pen s v (flat_map text xs) (flat_map in_cells xs)
    pieces_written [] all v fits = writes_none v
    pieces_written (x ∷ []) all v fits =
        let same = append-nil (in_cells x) in
        let long = ap length same in
        writes_as v (text x) (text x ++ []) (in_cells x) (in_cells x ++ []) (sym (append-nil (text x))) (sym same)
        (all.0.1 v (omega (arith, fits, long)))
    pieces_written (x ∷ (y ∷ xs)) all v fits =
        let rest : List What = flat_map in_cells (y ∷ xs) in
        let long = length-append (in_cells x) rest in
        let longer = length-append (in_cells y) (flat_map in_cells xs) in
        let some = all.1.0.0 in
        let first = all.0.1 v (omega (arith, fits, long)) in
        let before : Hand = first.hand in
        let within : v.column + length (in_cells x) ≤ 40 = omega (arith, fits, long, longer, some) in
        let at = first.place within in
        let column = at.column in
        writes_joined v (text x) (flat_map text (y ∷ xs)) (in_cells x) rest first within
        (pieces_written (y ∷ xs) all.1 before (omega (arith, fits, long, column)))

-- ---- signs

module _ (fixed : Fixed) (protect : Bool) (c1 : C1Set) (pen : Pen)
    (narrow : columns_of_size (unwrap_or pen.size sizes.Normal) ≡ 1) where
  -- a sign as it stands in a cell of the segment
  abbrev pub what_of : Glyph → What
  what_of g = content c1 g pen

  -- the hand after a sign
  abbrev after_sign : Hand → Glyph → Hand
  after_sign v g = record (hand_ahead fixed v 1) { last = Some g }

  at_next : (v : Hand) (g : Glyph) → v.column + 1 ≤ 40 → IsAt (after_sign v g) v.row (v.column + 1)
  at_next v g within =
      let there = ahead_within fixed v within in
      record { row = there.row; column = there.column }

  moved_by_one : (s : Sets) (accent : Option ℕ) (v : Hand) (g : Glyph)
      → control_in_cell fixed s None protect (record (hand_ahead fixed (in_segment c1 pen v)
      (columns_of_sign (control_in_cell fixed s accent protect (in_segment c1 pen v)))) { last = Some g })
      ≡ control_in_cell fixed s None protect (in_segment c1 pen (after_sign v g))
  unfolding hand_ahead
  moved_by_one s accent v g =
      ap (λ (n : ℕ). control_in_cell fixed s None protect
      (record (hand_ahead fixed (in_segment c1 pen v) n) { last = Some g }))
      (one_column c1 (control_in_cell fixed s accent protect (in_segment c1 pen v)).working refl narrow)

  -- a byte that gives a sign
  byte_draws : (s : Sets) (accent : Option ℕ) (v : Hand) (code : ℕ) (g : Glyph)
      → read_as (set_of s code false) (code_of code) ≡ reads.Glyph g
      → Draws (control_in_cell fixed s accent protect (in_segment c1 pen v)) (commands.Graphic code ∷ [])
      (puts_from protect v.row v.column (what_of (sign_with_accent g.set g.code accent) ∷ []))
      (control_in_cell fixed (record s { single = None }) None protect
      (in_segment c1 pen (after_sign v (sign_with_accent g.set g.code accent))))
  byte_draws s accent v code g gives =
      draws_one _ _ (commands.Graphic code) _
      (sign_control fixed s accent protect (in_segment c1 pen v) code g gives
      ∙ moved_by_one (record s { single = None }) accent v (sign_with_accent g.set g.code accent))
      (sign_strokes fixed s accent protect (in_segment c1 pen v) code g gives)

  -- left bytes take the set that is locked to them
  left_is : (code : ℕ) → code ≤ 0x7F → nat_lt code 0x80 ≡ true
  left_is code below = grind (arith, nat_tests)

  -- a sign among those of its set is put, and the hand goes on
  abbrev UnitDraws : SetId → Hand → Glyph → List Command → Type 0
  UnitDraws set v g cs =
      Draws (control_in_cell fixed (sets_among set) None protect (in_segment c1 pen v)) cs
      (puts_from protect v.row v.column (what_of g ∷ []))
      (control_in_cell fixed (sets_among set) None protect (in_segment c1 pen (after_sign v g)))

  accented : (v : Hand) (code accent : ℕ) → code ≤ 0x7F → 0x40 ≤ accent → accent ≤ 0x4F
      → UnitDraws sets.P v (record { set = sets.P; code = code; accent = accent })
      (commands.Single 2 ∷ commands.Graphic accent ∷ commands.Graphic code ∷ [])
  unfolding set_of
  accented v code accent below low high =
      let waits = byte_reads (record initial_sets { single = Some 2 }) false sets.S accent (reads.Accent accent)
      (omega (arith, high)) refl (accent_reads accent low high) in
      let gives = byte_reads initial_sets false sets.P code (reads.Glyph (sign sets.P code)) below
      (ap (λ (t : Bool). cond t sets.P sets.S) (left_is code below)) (first_sign_reads code) in
      let single : ControlState =
      control_in_cell fixed (record initial_sets { single = Some 2 }) None protect (in_segment c1 pen v) in
      draws_silent _ single _ (commands.Single 2) _ _ refl refl
      (draws_silent single (control_in_cell fixed initial_sets (Some accent) protect (in_segment c1 pen v)) _
      (commands.Graphic accent) _ _
      (ap (λ (r : Read). control_with single (working_after_read (control_after_shift single) r)) waits)
      (ap (λ (r : Read). strokes_of_read (control_after_shift single) r) waits)
      (byte_draws initial_sets (Some accent) v code (sign sets.P code) gives))

  primary : (v : Hand) (code : ℕ) → code ≤ 0x7F → UnitDraws sets.P v (sign sets.P code) (commands.Graphic code ∷ [])
  unfolding set_of
  primary v code below =
      byte_draws initial_sets None v code (sign sets.P code)
      (byte_reads initial_sets false sets.P code (reads.Glyph (sign sets.P code)) below
      (ap (λ (t : Bool). cond t sets.P sets.S) (left_is code below)) (first_sign_reads code))

  supplementary : (v : Hand) (code : ℕ) → IsCodeOf sets.S code
      → UnitDraws sets.S v (sign sets.S code) (commands.Single 2 ∷ commands.Graphic code ∷ [])
  unfolding set_of
  supplementary v code is =
      let single : Sets = record initial_sets { single = Some 2 } in
      let no_space : eqb code 0x20 ≡ false = grind (arith, nat_tests) in
      let no_accent : is_accent sets.S code ≡ false = grind (arith, nat_tests) in
      draws_silent _ (control_in_cell fixed single None protect (in_segment c1 pen v)) _ (commands.Single 2) _ _ refl
      refl
      (byte_draws single None v code (sign sets.S code)
      (byte_reads single false sets.S code (reads.Glyph (sign sets.S code)) is.1 refl
      (sign_reads sets.S code no_space no_accent)))

  third : (v : Hand) (code : ℕ) → IsCodeOf sets.N code
      → UnitDraws sets.N v (sign sets.N code) (commands.Single 3 ∷ commands.Graphic code ∷ [])
  unfolding set_of
  third v code is =
      let single : Sets = record initial_sets { single = Some 3 } in
      let no_space : eqb code 0x20 ≡ false = grind (arith, nat_tests) in
      draws_silent _ (control_in_cell fixed single None protect (in_segment c1 pen v)) _ (commands.Single 3) _ _ refl
      refl
      (byte_draws single None v code (sign sets.N code)
      (byte_reads single false sets.N code (reads.Glyph (sign sets.N code)) is.1 refl (sign_reads sets.N code no_space refl)))

  mosaic : (v : Hand) (code : ℕ) → IsCodeOf sets.M code
      → UnitDraws sets.M v (sign sets.M code) (commands.Graphic code ∷ [])
  unfolding set_of
  mosaic v code is =
      let locked : Sets = record initial_sets { left = 1 } in
      let no_space : eqb code 0x20 ≡ false = grind (arith, nat_tests) in
      byte_draws locked None v code (sign sets.M code)
      (byte_reads locked false sets.M code (reads.Glyph (sign sets.M code)) is.1
      (ap (λ (t : Bool). cond t sets.M sets.S) (left_is code is.1)) (sign_reads sets.M code no_space refl))

  downloaded : (v : Hand) (code : ℕ) → IsCodeOf sets.D code
      → UnitDraws sets.D v (sign sets.D code) (commands.Graphic code ∷ [])
  unfolding set_of
  downloaded v code is =
      let named : Sets = sets_with initial_sets 0 sets.D in
      let no_space : eqb code 0x20 ≡ false = grind (arith, nat_tests) in
      byte_draws named None v code (sign sets.D code)
      (byte_reads named false sets.D code (reads.Glyph (sign sets.D code)) is.1
      (ap (λ (t : Bool). cond t sets.D sets.S) (left_is code is.1)) (sign_reads sets.D code no_space refl))

  -- a sign without accent is one with none
  unaccented : (set : SetId) (v : Hand) (code accent : ℕ) (cs : List Command) → accent ≡ 0
      → UnitDraws set v (sign set code) cs → UnitDraws set v (record { set = set; code = code; accent = accent }) cs
  unaccented set v code accent cs e draws =
      subst (λ (a : ℕ). UnitDraws set v (record { set = set; code = code; accent = a }) cs) (sym e) draws

  unit_draws : (set : SetId) (v : Hand) (code accent : ℕ) → IsCodeOf set code → IsValidAccent set accent
      → UnitDraws set v (record { set = set; code = code; accent = accent }) (unit_of_set set code accent)
  unit_draws sets.P v code accent is (inl none) =
      subst (λ (a : ℕ). UnitDraws sets.P v (record { set = sets.P; code = code; accent = a })
      (accent_commands a ++ commands.Graphic code ∷ [])) (sym none) (primary v code is.1)
  unit_draws sets.P v code accent is (inr some) =
      let set : eqb accent 0 ≡ false = grind (arith, nat_tests) in
      let written : accent_commands accent ≡ commands.Single 2 ∷ commands.Graphic accent ∷ [] =
      ap (λ (t : Bool). cond t [] (commands.Single 2 ∷ commands.Graphic accent ∷ [])) set in
      subst (λ (cs : List Command). UnitDraws sets.P v (record { set = sets.P; code = code; accent = accent })
      (cs ++ commands.Graphic code ∷ [])) (sym written) (accented v code accent is.1 some.0 some.1)
  unit_draws sets.S v code accent is none = unaccented sets.S v code accent _ none (supplementary v code is)
  unit_draws sets.M v code accent is none = unaccented sets.M v code accent _ none (mosaic v code is)
  unit_draws sets.N v code accent is none = unaccented sets.N v code accent _ none (third v code is)
  unit_draws sets.D v code accent is none = unaccented sets.D v code accent _ none (downloaded v code is)

  unit_written : (v : Hand) (g : Glyph) → IsValidGlyph g
      → Writes fixed protect c1 pen (sets_among g.set) v (unit_commands g) (what_of g ∷ [])
  unit_written v g is = record {
    hand = after_sign v g;
    place = λ fits. at_next v g fits;
    draws = unit_draws g.set v g.code g.accent is.code is.accent;
  }

  -- ---- repetitions

  -- one more copy of a sign
  copy_after : (s : Sets) (v : Hand) (g : Glyph)
      → control_with (control_in_cell fixed s None protect (in_segment c1 pen v))
      (working_after_sign (control_in_cell fixed s None protect (in_segment c1 pen v)) g)
      ≡ control_in_cell fixed s None protect (in_segment c1 pen (after_sign v g))
  copy_after s v g =
      let from : ControlState = control_in_cell fixed s None protect (in_segment c1 pen v) in
      ap (λ (w : Working). control_with from (record w { last = Some g; accent = None }))
      (moves_on fixed s None protect (in_segment c1 pen v) (columns_of_sign from))
      ∙ moved_by_one s None v g

  copy_strokes : (s : Sets) (v : Hand) (g : Glyph)
      → strokes_of_sign (control_in_cell fixed s None protect (in_segment c1 pen v)) g
      ≡ puts_from protect v.row v.column (what_of g ∷ [])
  copy_strokes s v g =
      let from : ControlState = control_in_cell fixed s None protect (in_segment c1 pen v) in
      ap (λ (more : List Stroke). strokes.Put (record { row = v.row; column = v.column })
      (record { what = what_of g; protected = protect }) ∷ more)
      (stays fixed s None protect (in_segment c1 pen v) (columns_of_sign from))

  -- n copies of a sign within the row
  record Copies (s : Sets) (v : Hand) (g : Glyph) (n : ℕ) : Type 0 where
    hand : Hand
    place : v.column + n ≤ 40 → IsAt hand v.row (v.column + n)
    control : control_after_copies n (control_in_cell fixed s None protect (in_segment c1 pen v)) g
        ≡ control_in_cell fixed s None protect (in_segment c1 pen hand)
    made : strokes_of_copies n (control_in_cell fixed s None protect (in_segment c1 pen v)) g
        ≡ puts_from protect v.row v.column (equal_ones n (what_of g))

  copies : (s : Sets) (v : Hand) (g : Glyph) (n : ℕ) → v.column + n ≤ 41 → Copies s v g n
  unfolding effect_of_copies
  copies s v g zero fits =
      record { hand = v; place = λ h. record { row = refl; column = omega arith }; control = refl; made = refl }
  copies s v g (suc n) fits =
      let before = copies s v g n (omega (arith, fits)) in
      let w : Hand = before.hand in
      let from : ControlState = control_in_cell fixed s None protect (in_segment c1 pen v) in
      let at = before.place (omega (arith, fits)) in
      let column = at.column in
      let what : What = what_of g in
      let here : puts_from protect w.row w.column (what ∷ [])
      ≡ puts_from protect v.row (v.column + length (equal_ones n what)) (what ∷ []) =
      ap (λ (r : ℕ). puts_from protect r w.column (what ∷ [])) at.row
      ∙ ap (λ (c : ℕ). puts_from protect v.row c (what ∷ []))
      (let long = length-equal_ones n what in
      let e : w.column ≡ v.column + length (equal_ones n what) = omega (arith, column, long) in e) in
      record {
        hand = after_sign w g;
        place = λ within.
            let there = at_next w g (omega (arith, within, column)) in
            let last = there.column in
            record { row = there.row ∙ at.row; column = omega (arith, last, column) };
        control = ap (λ (q : ControlState). control_with q (working_after_sign q g)) before.control ∙ copy_after s w g;
        made = ap (λ (q : ControlState). strokes_of_copies n from g ++ strokes_of_sign q g) before.control
            ∙ ap (λ (l : List Stroke). strokes_of_copies n from g ++ l) (copy_strokes s w g ∙ here)
            ∙ ap (λ (l : List Stroke). l ++ puts_from protect v.row (v.column + length (equal_ones n what)) (what ∷ []))
            before.made
            ∙ sym (puts_from-append protect v.row v.column (equal_ones n what) (what ∷ []))
            ∙ ap (puts_from protect v.row v.column) (sym (equal_ones-last n what));
      }

  repeat_written : (s : Sets) (v : Hand) (g : Glyph) (n : ℕ) → v.last ≡ Some g → v.column + n ≤ 41
      → Writes fixed protect c1 pen s v (commands.Repeat n ∷ []) (equal_ones n (what_of g))
  repeat_written s v g n last fits =
      let there = copies s v g n fits in
      let from : ControlState = control_in_cell fixed s None protect (in_segment c1 pen v) in
      let long = length-equal_ones n (what_of g) in
      record {
        hand = there.hand;
        place = λ h.
            let at = there.place (omega (arith, h, long)) in
            let column = at.column in
            record { row = at.row; column = omega (arith, column, long) };
        draws = draws_one _ _ (commands.Repeat n) _
            (ap (λ (o : Option Glyph). control_with from (working_after_repeat n from o)) last
            ∙ ap (λ (q : ControlState). control_with from q.working) there.control)
            (ap (λ (o : Option Glyph). strokes_of_repeat n from o) last ∙ there.made);
      }

  -- ---- signs of one set

  -- signs that go on as equal ones are equal
  all_equal : ((a b : Glyph) → IsTrue (same_glyph a b) ↔ (a ≡ b)) → (g : Glyph) (more : List Glyph)
      → GoOnFrom same_glyph g more → equal_ones (length more) (what_of g) ≡ map what_of more
  all_equal decides g [] linked = refl
  all_equal decides g (h ∷ more) linked =
      let same : g ≡ h = (decides g h).0 linked.0 in
      ap (λ (k : Glyph). equal_ones (suc (length more)) (what_of k)) same
      ∙ ap (λ (l : List What). what_of h ∷ l) (all_equal decides h more linked.1)

  -- a valid sign of this set
  abbrev pub IsOfSet : SetId → Glyph → Type 0
  IsOfSet set g = (g.set ≡ set) × IsValidGlyph g

  unit_of_written : (set : SetId) (v : Hand) (g : Glyph) → IsOfSet set g
      → Writes fixed protect c1 pen (sets_among set) v (unit_commands g) (what_of g ∷ [])
  unit_of_written set v g is =
      subst (λ (k : SetId). Writes fixed protect c1 pen (sets_among k) v (unit_commands g) (what_of g ∷ [])) is.0
      (unit_written v g is.1)

  each_unit : (set : SetId) (list : List Glyph) → AllByRecursion (IsOfSet set) list
      → AllByRecursion (IsWritten fixed protect c1 pen (sets_among set) unit_commands (λ g. what_of g ∷ [])) list
  each_unit set [] all = tt
  each_unit set (g ∷ list) all =
      ((omega arith, λ v fits. unit_of_written set v g all.0), each_unit set list all.1)

  singles : (list : List Glyph) → flat_map (λ g. what_of g ∷ []) list ≡ map what_of list
  singles [] = refl
  singles (g ∷ list) = ap (λ (l : List What). what_of g ∷ l) (singles list)

  units_written : (set : SetId) (list : List Glyph) → AllByRecursion (IsOfSet set) list → (v : Hand)
      → v.column + length (map what_of list) ≤ 41
      → Writes fixed protect c1 pen (sets_among set) v (flat_map unit_commands list) (map what_of list)
  units_written set list all v fits =
      let long = ap length (singles list) in
      writes_as fixed protect c1 pen (sets_among set) v _ _ _ _ refl (singles list)
      (pieces_written fixed protect c1 pen (sets_among set) unit_commands (λ g. what_of g ∷ []) list
      (each_unit set list all) v (omega (arith, fits, long)))

  run_written : ((a b : Glyph) → IsTrue (same_glyph a b) ↔ (a ≡ b)) → (set : SetId) (run : Chain Glyph)
      → GoOnFrom same_glyph run.first run.more → AllByRecursion (IsOfSet set) (members run) → (v : Hand)
      → v.column + length (map what_of (members run)) ≤ 41
      → Writes fixed protect c1 pen (sets_among set) v (run_commands run) (map what_of (members run))
  run_written decides set run linked all v fits =
      by_test (is_shorter_repeated (length run.more) run.first) refl where
        some : (k : ℕ) → 3 ≤ k * length (spellings (unit_commands run.first)) → 1 ≤ k
        some zero many =
            let none = zero-mul (length (spellings (unit_commands run.first))) in
            absurd (omega (arith, many, none))
        some (suc k) many = omega arith

        repeated : 1 ≤ length run.more → Writes fixed protect c1 pen (sets_among set) v
            (unit_commands run.first ++ commands.Repeat (length run.more) ∷ []) (map what_of (members run))
        repeated more =
            let long = length-map run.more what_of in
            let rest = repeat_written (sets_among set) (after_sign v run.first) run.first (length run.more) refl in
            let within : v.column + 1 ≤ 40 = omega (arith, fits, long, more) in
            let at = at_next v run.first within in
            let column = at.column in
            let unit : Writes fixed protect c1 pen (sets_among set) v (unit_commands run.first)
            (what_of run.first ∷ []) = record {
              hand = after_sign v run.first;
              place = λ h. at_next v run.first h;
              draws = subst (λ (k : SetId). Draws
                  (control_in_cell fixed (sets_among k) None protect (in_segment c1 pen v)) (unit_commands run.first)
                  (puts_from protect v.row v.column (what_of run.first ∷ []))
                  (control_in_cell fixed (sets_among k) None protect (in_segment c1 pen (after_sign v run.first))))
                  all.0.0 (unit_draws run.first.set v run.first.code run.first.accent all.0.1.code all.0.1.accent);
            } in
            writes_as fixed protect c1 pen (sets_among set) v _ _ _ _ refl
            (ap (λ (l : List What). what_of run.first ∷ l) (all_equal decides run.first run.more linked))
            (writes_joined fixed protect c1 pen (sets_among set) v (unit_commands run.first)
            (commands.Repeat (length run.more) ∷ []) (what_of run.first ∷ [])
            (equal_ones (length run.more) (what_of run.first)) unit within (rest (omega (arith, fits, long, column))))

        by_test : (shorter : Bool) → is_shorter_repeated (length run.more) run.first ≡ shorter
            → Writes fixed protect c1 pen (sets_among set) v
            (cond shorter (unit_commands run.first ++ commands.Repeat (length run.more) ∷ [])
            (flat_map unit_commands (members run))) (map what_of (members run))
        by_test true e =
            repeated (some (length run.more) (leb-true 3 (length run.more * length (spellings (unit_commands run.first))) e))
        by_test false e = units_written set (members run) all v fits

  some_cells : (run : Chain Glyph) → 1 ≤ length (map what_of (members run))
  some_cells run = omega arith

  -- all runs of signs of one set
  runs_written : ((a b : Glyph) → IsTrue (same_glyph a b) ↔ (a ≡ b)) → (set : SetId) (list : List Glyph)
      → AllByRecursion (IsOfSet set) list → (v : Hand) → v.column + length (map what_of list) ≤ 41
      → Writes fixed protect c1 pen (sets_among set) v (flat_map run_commands (chains same_glyph list))
      (map what_of list)
  runs_written decides set list all v fits =
      let runs : List (Chain Glyph) = chains same_glyph list in
      let same : flat_map (λ run. map what_of (members run)) runs ≡ map what_of list =
      pieces_mapped runs ∙ ap (map what_of) (chains_joined same_glyph list) in
      let long = ap length same in
      writes_as fixed protect c1 pen (sets_among set) v _ _ _ _ refl same
      (pieces_written fixed protect c1 pen (sets_among set) run_commands (λ run. map what_of (members run)) runs
      (each_chain same_glyph (IsOfSet set)
      (IsWritten fixed protect c1 pen (sets_among set) run_commands (λ run. map what_of (members run)))
      (λ run linked valid. (some_cells run, run_written decides set run linked valid)) list all) v
      (omega (arith, fits, long)))
    where
      pieces_mapped : (runs : List (Chain Glyph))
          → flat_map (λ run. map what_of (members run)) runs ≡ map what_of (flat_map members runs)
      pieces_mapped [] = refl
      pieces_mapped (run ∷ runs) =
          ap (λ (l : List What). map what_of (members run) ++ l) (pieces_mapped runs)
          ∙ sym (map-append what_of (members run) (flat_map members runs))

  opened : (set : SetId) (v : Hand) → Draws (control_in_cell fixed initial_sets None protect (in_segment c1 pen v))
      (opening_commands set) [] (control_in_cell fixed (sets_among set) None protect (in_segment c1 pen v))
  opened sets.P v = record { control = refl; strokes = refl }
  opened sets.S v = record { control = refl; strokes = refl }
  opened sets.M v = record { control = refl; strokes = refl }
  opened sets.N v = record { control = refl; strokes = refl }
  opened sets.D v = record { control = refl; strokes = refl }

  closed : (set : SetId) (v : Hand) → Draws (control_in_cell fixed (sets_among set) None protect (in_segment c1 pen v))
      (closing_commands set) [] (control_in_cell fixed initial_sets None protect (in_segment c1 pen v))
  closed sets.P v = record { control = refl; strokes = refl }
  closed sets.S v = record { control = refl; strokes = refl }
  closed sets.M v = record { control = refl; strokes = refl }
  closed sets.N v = record { control = refl; strokes = refl }
  closed sets.D v = record { control = refl; strokes = refl }

  -- signs of one set that stand together
  pub signs_written : ((a b : Glyph) → IsTrue (same_glyph a b) ↔ (a ≡ b)) → (set : SetId) (list : List Glyph)
      → AllByRecursion (IsOfSet set) list → (v : Hand) → v.column + length (map what_of list) ≤ 41
      → Writes fixed protect c1 pen initial_sets v (signs_commands set list) (map what_of list)
  signs_written decides set list all v fits =
      let runs = runs_written decides set list all v fits in
      let after : Hand = runs.hand in
      let made : List Stroke = puts_from protect v.row v.column (map what_of list) in
      record {
        hand = after;
        place = runs.place;
        draws = subst (λ (l : List Stroke). Draws
            (control_in_cell fixed initial_sets None protect (in_segment c1 pen v)) (signs_commands set list) l
            (control_in_cell fixed initial_sets None protect (in_segment c1 pen after))) (append-nil made)
            (draws_joined _ _ _ (opening_commands set)
            (flat_map run_commands (chains same_glyph list) ++ closing_commands set) [] (made ++ []) (opened set v)
            (draws_joined _ _ _ (flat_map run_commands (chains same_glyph list)) (closing_commands set) made [] runs.draws
            (closed set after)));
      }
