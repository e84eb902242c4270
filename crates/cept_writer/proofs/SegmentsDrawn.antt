-- The commands of a segment put its cells, each at its place, and leave control at rest, and so do those of all
-- segments one after the other.
use Rattle.std.proofs.Common.{◌≡◌, ℕ, ◌+◌, ◌*◌, leb, ◌≤◌, ◌⊎◌, Bool, true, false, not, ◌&&◌, cond, eqb, None, List, []}
use Rattle.std.proofs.Common.{◌∷◌, ◌++◌, length, map, refl, sym, ap, ◌∙◌, subst, inl, inr, arith}
use Rattle.std.specs.Prelude.{IsTrue, ◌↔◌, unwrap_or}
use Rattle.std.proofs.lemmas.Bool.{and_parts, cases_lt, eqb-true}
use Rattle.std.proofs.lemmas.List.{append-nil, length-append, length-map}
use Rattle.std.proofs.Math.Nat.{zero-mul}
use Rattle.std.specs.List.{AllByRecursion, flat_map}
use Rattle.cept_codes.specs.declared.attribute.Pen.{Pen}
use Rattle.cept_codes.specs.declared.cell.Cell.{Cell}
use Rattle.cept_codes.specs.declared.cell.Marker.{Marker}
use Rattle.cept_codes.specs.declared.cell.Marker.TheVariants as markers
use Rattle.cept_codes.specs.declared.attribute.Size.TheVariants as sizes
use Rattle.cept_codes.specs.declared.cell.What.{What}
use Rattle.cept_codes.specs.declared.cell.What.TheVariants as whats
use Rattle.cept_codes.specs.declared.command.C1Set.{C1Set}
use Rattle.cept_codes.specs.declared.command.C1Set.TheVariants as c1sets
use Rattle.cept_codes.specs.declared.command.Command.{Command}
use Rattle.cept_codes.specs.declared.command.Command.TheVariants as commands
use Rattle.cept_codes.specs.declared.glyph.Glyph.{Glyph}
use Rattle.cept_codes.specs.declared.glyph.SetId.{SetId}
use Rattle.cept_codes.specs.declared.glyph.SetId.TheVariants as sets
use Rattle.cept_codes.specs.declared.stroke.Stroke.{Stroke}
use Rattle.cept_codes.specs.declared.stroke.Stroke.TheVariants as strokes
use Rattle.cept_codes.specs.Attribute.{unset_pen}
use Rattle.cept_codes.specs.Cell.{IsValidWhat}
use Rattle.cept_codes.specs.Glyph.{IsValidGlyph}
use Rattle.cept_codes.specs.Place.{OnScreen, Place, place_of}
use Rattle.cept_codes.specs.Same.{same_glyph, same_pen, same_set}
use Rattle.cept_codes.proofs.Laws.{OnScreen-place_of}
use Rattle.cept_parser.specs.Spelling.{spellings}
use Rattle.cept_profile.specs.Control.{initial_sets}
use Rattle.cept_profile.specs.Markers.{run_after, step_after}
use Rattle.cept_profile.specs.Tiling.{columns_of_size}
use Rattle.cept_profile.specs.Writing.{content}
use Rattle.cept_writer.specs.AttributeCommands.{attributes_of, pen_commands}
use Rattle.cept_writer.specs.CellCommands.{content_commands, glyph_commands, marker_commands, protected_commands, sign_commands}
use Rattle.cept_writer.specs.Chains.{Chain, GoOnFrom, alone, chains, members}
use Rattle.cept_writer.specs.PageCommands.{cell_numbered}
use Rattle.cept_writer.specs.SegmentCommands.{PlacedCell, closing_commands, contents_commands, continues, ends_segment}
use Rattle.cept_writer.specs.SegmentCommands.{is_next_place, is_of_same_set, is_same_protection, is_written_on}
use Rattle.cept_writer.specs.SegmentCommands.{manner_commands, opening_commands, segment_commands, segments_commands}
use Rattle.cept_writer.specs.SegmentCommands.{sign_in, signs_commands, stretch_commands, unit_commands, unit_of_set}
use Rattle.cept_writer.specs.SegmentCommands.{written_below, written_cell}
use Rattle.cept_writer.proofs.AttributesSet.{attributes_take, hand_under_parallel}
use Rattle.cept_writer.proofs.CellsWritten.{AreValidCells, cell_rests, cell_strokes, hand_at, position-hand_at, puts_below}
use Rattle.cept_writer.proofs.ChainLemmas.{all_in_chains, chains_joined, chains_linked, each_chain, pieces_by_number}
use Rattle.cept_writer.proofs.Drawing.{Draws, draws_joined, draws_one, draws_silent}
use Rattle.cept_writer.proofs.MarkersLeft.{marker_leaves}
use Rattle.cept_writer.proofs.PenAttributes.{attributes-all}
use Rattle.cept_writer.proofs.Resting.{AlwaysRests, Fixed, Hand, Rests, control_at_rest, control_in_cell, rests_in_chains}
use Rattle.cept_writer.proofs.SegmentSigns.{Writes, in_segment, puts_from, puts_from-append, signs_written}
use Rattle.cept_writer.proofs.StrokesByPart.{all_range}

-- ---- what a segment holds

-- it may stand in a segment under this C1 set with this pen
abbrev Belongs : C1Set → Pen → What → Type 0
Belongs c1 pen whats.Blank = ⊥
Belongs c1 pen (whats.Serial g) = (c1 ≡ c1sets.Serial) × IsValidGlyph g
Belongs c1 pen (whats.Parallel g own) = (c1 ≡ c1sets.Parallel) × (own ≡ pen) × IsValidGlyph g
Belongs c1 pen (whats.Marker m) = c1 ≡ c1sets.Serial

-- a sign of this set
abbrev IsSignOf : SetId → What → Type 0
IsSignOf set (whats.Serial g) = g.set ≡ set
IsSignOf set (whats.Parallel g pen) = g.set ≡ set
IsSignOf set _ = ⊥

module _ (decides : (a b : SetId) → IsTrue (same_set a b) ↔ (a ≡ b)) (set : SetId) where
  next_sign : (a b : What) → IsSignOf set a → is_of_same_set a b ≡ true → IsSignOf set b
  next_sign (whats.Serial g) (whats.Serial h) is same = sym ((decides g.set h.set).0 same) ∙ is
  next_sign (whats.Serial g) (whats.Parallel h pen) is same = sym ((decides g.set h.set).0 same) ∙ is
  next_sign (whats.Serial g) whats.Blank is same = absurd cc
  next_sign (whats.Serial g) (whats.Marker m) is same = absurd cc
  next_sign (whats.Parallel g pen) (whats.Serial h) is same = sym ((decides g.set h.set).0 same) ∙ is
  next_sign (whats.Parallel g pen) (whats.Parallel h own) is same = sym ((decides g.set h.set).0 same) ∙ is
  next_sign (whats.Parallel g pen) whats.Blank is same = absurd cc
  next_sign (whats.Parallel g pen) (whats.Marker m) is same = absurd cc
  next_sign whats.Blank b is same = absurd is
  next_sign (whats.Marker m) b is same = absurd is

  all_signs : (first : What) (more : List What) → IsSignOf set first → GoOnFrom is_of_same_set first more
      → AllByRecursion (IsSignOf set) more
  all_signs first [] is linked = tt
  all_signs first (w ∷ more) is linked =
      let next = next_sign first w is linked.0 in (next, all_signs w more next linked.1)

module _ (c1 : C1Set) (pen : Pen) (set : SetId) where
  signs_back : (list : List What) → AllByRecursion (IsSignOf set) list → AllByRecursion (Belongs c1 pen) list
      → map (λ g. content c1 g pen) (flat_map sign_in list) ≡ list
  signs_back [] are all = refl
  signs_back (whats.Serial g ∷ list) are all =
      ap (λ (c : C1Set). content c g pen ∷ map (λ h. content c1 h pen) (flat_map sign_in list)) all.0.0
      ∙ ap (λ (l : List What). whats.Serial g ∷ l) (signs_back list are.1 all.1)
  signs_back (whats.Parallel g own ∷ list) are all =
      ap (λ (c : C1Set). content c g pen ∷ map (λ h. content c1 h pen) (flat_map sign_in list)) all.0.0
      ∙ ap (λ (q : Pen). whats.Parallel g q ∷ map (λ h. content c1 h pen) (flat_map sign_in list)) (sym all.0.1)
      ∙ ap (λ (l : List What). whats.Parallel g own ∷ l) (signs_back list are.1 all.1)
  signs_back (whats.Blank ∷ list) are all = absurd are.0
  signs_back (whats.Marker m ∷ list) are all = absurd are.0

-- the signs of a set that stand in a segment
signs_valid : (c1 : C1Set) (pen : Pen) (set : SetId) (list : List What) → AllByRecursion (IsSignOf set) list
    → AllByRecursion (Belongs c1 pen) list
    → AllByRecursion (λ (g : Glyph). (g.set ≡ set) × IsValidGlyph g) (flat_map sign_in list)
signs_valid c1 pen set [] are all = tt
signs_valid c1 pen set (whats.Serial g ∷ list) are all =
    ((are.0, all.0.1), signs_valid c1 pen set list are.1 all.1)
signs_valid c1 pen set (whats.Parallel g own ∷ list) are all =
    ((are.0, all.0.2), signs_valid c1 pen set list are.1 all.1)
signs_valid c1 pen set (whats.Blank ∷ list) are all = absurd are.0
signs_valid c1 pen set (whats.Marker m ∷ list) are all = absurd are.0

-- ---- markers

-- what stands at the end of a segment: after it the hand is as it pleases
record Ends (fixed : Fixed) (protect : Bool) (c1 : C1Set) (pen : Pen) (v : Hand) (cs : List Command) (list : List What)
    : Type 0 where
  hand : Hand
  draws : Draws (control_in_cell fixed initial_sets None protect (in_segment c1 pen v)) cs
      (puts_from protect v.row v.column list) (control_in_cell fixed initial_sets None protect hand)

no_run : (m : Marker) → ends_segment m ≡ false → run_after m false ≡ false
no_run (markers.Mosaic e) is = absurd cc
no_run _ is = refl

one_step : (m : Marker) → ends_segment m ≡ false → step_after m 1 ≡ 1
one_step (markers.Size size) is = absurd cc
one_step _ is = refl

module _ (fixed : Fixed) (protect : Bool) (pen : Pen) where
  marker_ends : (v : Hand) (m : Marker)
      → Ends fixed protect c1sets.Serial pen v (marker_commands m) (whats.Marker m ∷ [])
  marker_ends v m =
      let there = marker_leaves fixed protect (in_segment c1sets.Serial pen v) m in
      record { hand = there.hand; draws = there.draws }

  marker_goes : (v : Hand) (m : Marker) → ends_segment m ≡ false
      → Writes fixed protect c1sets.Serial pen initial_sets v (marker_commands m) (whats.Marker m ∷ [])
  marker_goes v m is =
      let there = marker_leaves fixed protect (in_segment c1sets.Serial pen v) m in
      let h : Hand = there.hand in
      let run : h.run ≡ false = there.run ∙ no_run m is in
      let step : h.step ≡ 1 = there.step ∙ one_step m is in
      let set : h.c1 ≡ c1sets.Serial = there.c1 in
      let with_pen : h.pen ≡ pen = there.pen in
      let stays_in : h ≡ in_segment c1sets.Serial pen h = λ i. record {
        row = h.row;
        column = h.column;
        c1 = set i;
        last = h.last;
        pen = with_pen i;
        fast = h.fast;
        run = run i;
        step = step i;
        table = h.table;
      } in
      record {
        hand = h;
        place = λ fits. record { row = there.row fits; column = there.column fits };
        draws = subst (λ (q : Hand). Draws
            (control_in_cell fixed initial_sets None protect (in_segment c1sets.Serial pen v)) (marker_commands m)
            (puts_from protect v.row v.column (whats.Marker m ∷ []))
            (control_in_cell fixed initial_sets None protect q)) stays_in there.draws;
      }

-- ---- contents

-- what follows a list of a segment goes on
rest_goes_on : {X : Type 0} (goes_on : X → X → Bool) (x : X) (more : List X) (y : X) (rest : List X)
    → GoOnFrom goes_on x (more ++ (y ∷ rest)) → GoOnFrom goes_on y rest
rest_goes_on goes_on x [] y rest linked = linked.1
rest_goes_on goes_on x (z ∷ more) y rest linked = rest_goes_on goes_on z more y rest linked.1

-- a marker that is written on doesn't end its segment
is_followed : (m : Marker) (w : What) → is_written_on (whats.Marker m) w ≡ true → ends_segment m ≡ false
is_followed m (whats.Serial g) on = not_true (ends_segment m) on where
  not_true : (b : Bool) → not b ≡ true → b ≡ false
  not_true true e = absurd cc
  not_true false e = refl
is_followed m (whats.Marker n) on = not_true (ends_segment m) on where
  not_true : (b : Bool) → not b ≡ true → b ≡ false
  not_true true e = absurd cc
  not_true false e = refl
is_followed m whats.Blank on = absurd cc
is_followed m (whats.Parallel g pen) on = absurd cc

module _ (same_sets : (a b : SetId) → IsTrue (same_set a b) ↔ (a ≡ b))
    (same_signs : (a b : Glyph) → IsTrue (same_glyph a b) ↔ (a ≡ b)) (fixed : Fixed) (protect : Bool) (c1 : C1Set) (pen : Pen)
    (narrow : columns_of_size (unwrap_or pen.size sizes.Normal) ≡ 1) where
  -- a sign and those of its set after it
  signs_go : (g : Glyph) (first : What) (more : List What) → sign_in first ≡ g ∷ [] → IsSignOf g.set first
      → GoOnFrom is_of_same_set first more → AllByRecursion (Belongs c1 pen) (first ∷ more) → (v : Hand)
      → v.column + length (first ∷ more) ≤ 41
      → Writes fixed protect c1 pen initial_sets v (signs_commands g.set (flat_map sign_in (first ∷ more)))
      (first ∷ more)
  signs_go g first more sign is linked all v fits =
      let are : AllByRecursion (IsSignOf g.set) (first ∷ more) = (is, all_signs same_sets g.set first more is linked) in
      let back = signs_back c1 pen g.set (first ∷ more) are all in
      let long = ap length back in
      subst (λ (l : List What). Writes fixed protect c1 pen initial_sets v
      (signs_commands g.set (flat_map sign_in (first ∷ more))) l) back
      (signs_written fixed protect c1 pen narrow same_signs g.set (flat_map sign_in (first ∷ more))
      (signs_valid c1 pen g.set (first ∷ more) are all) v (omega (arith, fits, long)))

  -- a stretch that something follows
  stretch_goes : (first : What) (more : List What) (y : What) (rest : List What) → GoOnFrom is_of_same_set first more
      → AllByRecursion (Belongs c1 pen) (first ∷ more) → GoOnFrom is_written_on first (more ++ (y ∷ rest)) → (v : Hand)
      → v.column + length (first ∷ more) ≤ 41
      → Writes fixed protect c1 pen initial_sets v (stretch_commands (record { first = first; more = more }))
      (first ∷ more)
  stretch_goes whats.Blank more y rest linked all on v fits = absurd all.0
  stretch_goes (whats.Serial g) more y rest linked all on v fits = signs_go g (whats.Serial g) more refl refl linked all v fits
  stretch_goes (whats.Parallel g own) more y rest linked all on v fits =
      signs_go g (whats.Parallel g own) more refl refl linked all v fits
  stretch_goes (whats.Marker m) [] y rest linked all on v fits =
      subst (λ (c : C1Set). Writes fixed protect c pen initial_sets v (marker_commands m) (whats.Marker m ∷ []))
      (sym all.0) (marker_goes fixed protect pen v m (is_followed m y on.0))
  stretch_goes (whats.Marker m) (w ∷ more) y rest linked all on v fits =
      let wrong : false ≡ true = linked.0 in absurd cc

  -- and one that may be the last
  stretch_ends : (first : What) (more : List What) → GoOnFrom is_of_same_set first more
      → AllByRecursion (Belongs c1 pen) (first ∷ more) → (v : Hand) → v.column + length (first ∷ more) ≤ 41
      → Ends fixed protect c1 pen v (stretch_commands (record { first = first; more = more })) (first ∷ more)
  stretch_ends whats.Blank more linked all v fits = absurd all.0
  stretch_ends (whats.Serial g) more linked all v fits =
      let there = signs_go g (whats.Serial g) more refl refl linked all v fits in
      record { hand = in_segment c1 pen there.hand; draws = there.draws }
  stretch_ends (whats.Parallel g own) more linked all v fits =
      let there = signs_go g (whats.Parallel g own) more refl refl linked all v fits in
      record { hand = in_segment c1 pen there.hand; draws = there.draws }
  stretch_ends (whats.Marker m) [] linked all v fits =
      subst (λ (c : C1Set). Ends fixed protect c pen v (marker_commands m) (whats.Marker m ∷ [])) (sym all.0)
      (marker_ends fixed protect pen v m)
  stretch_ends (whats.Marker m) (w ∷ more) linked all v fits =
      let wrong : false ≡ true = linked.0 in absurd cc

  ends_joined : (v : Hand) (a b : List Command) (xs ys : List What)
      → (first : Writes fixed protect c1 pen initial_sets v a xs) → v.column + length xs ≤ 40
      → Ends fixed protect c1 pen first.hand b ys → Ends fixed protect c1 pen v (a ++ b) (xs ++ ys)
  ends_joined v a b xs ys first within second =
      let at = first.place within in
      let before : Hand = first.hand in
      let after : Hand = second.hand in
      let moved : puts_from protect before.row before.column ys ≡ puts_from protect v.row (v.column + length xs) ys =
      ap (λ (r : ℕ). puts_from protect r before.column ys) at.row
      ∙ ap (λ (c : ℕ). puts_from protect v.row c ys) at.column in
      let together : puts_from protect v.row v.column xs ++ puts_from protect before.row before.column ys
      ≡ puts_from protect v.row v.column (xs ++ ys) =
      ap (λ (l : List Stroke). puts_from protect v.row v.column xs ++ l) moved
      ∙ sym (puts_from-append protect v.row v.column xs ys) in
      record {
        hand = after;
        draws = subst (λ (l : List Stroke). Draws
            (control_in_cell fixed initial_sets None protect (in_segment c1 pen v)) (a ++ b) l
            (control_in_cell fixed initial_sets None protect after)) together
            (draws_joined _ _ _ a b _ _ first.draws second.draws);
      }

  -- each goes on from the one before
  abbrev AllGoOn : List What → Type 0
  AllGoOn [] = Unit {0}
  AllGoOn (w ∷ more) = GoOnFrom is_written_on w more

  stretches_end : (cs : List (Chain What)) → AllByRecursion (λ c. GoOnFrom is_of_same_set c.first c.more) cs
      → AllByRecursion (λ c. AllByRecursion (Belongs c1 pen) (members c)) cs → AllGoOn (flat_map members cs) → (v : Hand)
      → v.column + length (flat_map members cs) ≤ 41
      → Ends fixed protect c1 pen v (flat_map stretch_commands cs) (flat_map members cs)
  stretches_end [] linked all on v fits =
      record { hand = in_segment c1 pen v; draws = record { control = refl; strokes = refl } }
  stretches_end (c ∷ []) linked all on v fits =
      let same = append-nil (members c) in
      let long = ap length same in
      let there = stretch_ends c.first c.more linked.0 all.0 v (omega (arith, fits, long)) in
      subst (λ (l : List Command). Ends fixed protect c1 pen v l (flat_map members (c ∷ [])))
      (sym (append-nil (stretch_commands c)))
      (subst (λ (l : List What). Ends fixed protect c1 pen v (stretch_commands c) l) (sym same) there)
  stretches_end (c ∷ (d ∷ cs)) linked all on v fits =
      let rest : List What = flat_map members (d ∷ cs) in
      let long = length-append (members c) rest in
      let longer = length-append (members d) (flat_map members cs) in
      let first = stretch_goes c.first c.more d.first (d.more ++ flat_map members cs) linked.0 all.0 on v
      (omega (arith, fits, long)) in
      let before : Hand = first.hand in
      let within : v.column + length (members c) ≤ 40 = omega (arith, fits, long, longer) in
      let at = first.place within in
      let column = at.column in
      ends_joined v (stretch_commands c) (flat_map stretch_commands (d ∷ cs)) (members c) rest first within
      (stretches_end (d ∷ cs) linked.1 all.1
      (rest_goes_on is_written_on c.first c.more d.first (d.more ++ flat_map members cs) on) before
      (omega (arith, fits, long, column)))

  contents_end : (list : List What) → AllByRecursion (Belongs c1 pen) list → AllGoOn list → (v : Hand)
      → v.column + length list ≤ 41 → Ends fixed protect c1 pen v (contents_commands list) list
  contents_end list all on v fits =
      let joined = chains_joined is_of_same_set list in
      let long = ap length joined in
      subst (λ (l : List What). Ends fixed protect c1 pen v (contents_commands list) l) joined
      (stretches_end (chains is_of_same_set list) (chains_linked is_of_same_set list)
      (all_in_chains is_of_same_set (Belongs c1 pen) list all) (subst AllGoOn (sym joined) on) v
      (omega (arith, fits, long)))

-- ---- how a segment begins

-- the C1 set and the pen of what stands first
abbrev c1_of : What → C1Set
c1_of (whats.Parallel g pen) = c1sets.Parallel
c1_of _ = c1sets.Serial

abbrev pen_of : What → Pen
pen_of (whats.Parallel g pen) = pen
pen_of _ = unset_pen

-- the manner in which the cells of a segment are written is said
record Begins (fixed : Fixed) (protect : Bool) (v : Hand) (p : Place) (what : What) : Type 0 where
  hand : Hand
  row : hand.row ≡ p.row
  column : hand.column ≡ p.column
  draws : Draws (control_in_cell fixed initial_sets None protect (hand_at v p)) (manner_commands what) []
      (control_in_cell fixed initial_sets None protect (in_segment (c1_of what) (pen_of what) hand))

begins : (fixed : Fixed) (protect : Bool) (v : Hand) (p : Place) (what : What) → (what ≡ whats.Blank → ⊥)
    → Begins fixed protect v p what
begins fixed protect v p whats.Blank some = elim (some refl) [ ]
begins fixed protect v p (whats.Serial g) some =
    record { hand = hand_at v p; row = refl; column = refl; draws = record { control = refl; strokes = refl } }
begins fixed protect v p (whats.Marker m) some =
    record { hand = hand_at v p; row = refl; column = refl; draws = record { control = refl; strokes = refl } }
begins fixed protect v p (whats.Parallel g pen) some =
    let taken = attributes_take fixed protect (hand_at v p) (attributes_of pen) in
    let next : Hand = record (hand_under_parallel (hand_at v p)) { table = taken.table; fast = taken.fast; pen = pen } in
    record {
      hand = record (hand_at v p) { table = taken.table; fast = taken.fast };
      row = refl;
      column = refl;
      draws = draws_silent _ (control_in_cell fixed initial_sets None protect (hand_under_parallel (hand_at v p))) _
          (commands.DesignateC1 c1sets.Parallel) (pen_commands (λ n. commands.C1 n) pen) _ refl refl
          (subst (λ (q : Pen). Draws (control_in_cell fixed initial_sets None protect (hand_under_parallel (hand_at v p)))
          (pen_commands (λ n. commands.C1 n) pen) [] (control_in_cell fixed initial_sets None protect (record next { pen = q })))
          (attributes-all pen) taken.draws);
    }

-- ---- one segment

-- a cell that is written, within the format
pub record IsPlaced (rows : ℕ) (a : PlacedCell) : Type 0 where
  pub some : a.cell.what ≡ whats.Blank → ⊥
  pub on : OnScreen a.place.row a.place.column
  pub within : a.place.row ≤ rows
  pub valid : IsValidWhat a.cell.what

-- a cell is put at its place
abbrev pub put_of : PlacedCell → List Stroke
put_of a = strokes.Put a.place a.cell ∷ []

-- what stands in a cell
abbrev what_at : PlacedCell → What
what_at a = a.cell.what

-- what stands first belongs to its segment
first_belongs : (what : What) → (what ≡ whats.Blank → ⊥) → IsValidWhat what → Belongs (c1_of what) (pen_of what) what
first_belongs whats.Blank some is = elim (some refl) [ ]
first_belongs (whats.Serial g) some is = (refl, is)
first_belongs (whats.Parallel g pen) some is = (refl, refl, is.0)
first_belongs (whats.Marker m) some is = refl

-- the signs of a segment of two cells take one column
first_narrow : (a b : What) → is_written_on a b ≡ true
    → columns_of_size (unwrap_or (pen_of a).size sizes.Normal) ≡ 1
first_narrow whats.Blank b on = refl
first_narrow (whats.Serial g) b on = refl
first_narrow (whats.Marker m) b on = refl
first_narrow (whats.Parallel g pen) (whats.Parallel h next) on =
    let columns : ℕ = columns_of_size (unwrap_or pen.size sizes.Normal) in
    eqb-true columns 1 (and_parts (same_pen pen next) (eqb columns 1) on).1
first_narrow (whats.Parallel g pen) whats.Blank on = absurd cc
first_narrow (whats.Parallel g pen) (whats.Serial h) on = absurd cc
first_narrow (whats.Parallel g pen) (whats.Marker m) on = absurd cc

module _ (same_pens : (a b : Pen) → IsTrue (same_pen a b) ↔ (a ≡ b)) (c1 : C1Set) (pen : Pen) where
  next_belongs : (a b : What) → Belongs c1 pen a → is_written_on a b ≡ true → IsValidWhat b → Belongs c1 pen b
  next_belongs whats.Blank b is on valid = absurd is
  next_belongs (whats.Serial g) (whats.Serial h) is on valid = (is.0, valid)
  next_belongs (whats.Serial g) (whats.Marker m) is on valid = is.0
  next_belongs (whats.Serial g) whats.Blank is on valid = absurd cc
  next_belongs (whats.Serial g) (whats.Parallel h own) is on valid = absurd cc
  next_belongs (whats.Marker m) (whats.Serial h) is on valid = (is, valid)
  next_belongs (whats.Marker m) (whats.Marker n) is on valid = is
  next_belongs (whats.Marker m) whats.Blank is on valid = absurd cc
  next_belongs (whats.Marker m) (whats.Parallel h own) is on valid = absurd cc
  next_belongs (whats.Parallel g own) (whats.Parallel h next) is on valid =
      let columns : ℕ = columns_of_size (unwrap_or own.size sizes.Normal) in
      let same = (same_pens own next).0 (and_parts (same_pen own next) (eqb columns 1) on).0 in
      (is.0, sym same ∙ is.1, valid.0)
  next_belongs (whats.Parallel g own) whats.Blank is on valid = absurd cc
  next_belongs (whats.Parallel g own) (whats.Serial h) is on valid = absurd cc
  next_belongs (whats.Parallel g own) (whats.Marker m) is on valid = absurd cc

-- what a cell that continues another says
pub record Continues (a b : PlacedCell) : Type 0 where
  pub row : b.place.row ≡ a.place.row
  pub column : b.place.column ≡ a.place.column + 1
  pub protected : b.cell.protected ≡ a.cell.protected
  pub on : is_written_on a.cell.what b.cell.what ≡ true

same_protection : (p q : Bool) → is_same_protection p q ≡ true → q ≡ p
same_protection true q e = e
same_protection false true e = absurd cc
same_protection false false e = refl

pub parts_of_continues : (a b : PlacedCell) → continues a b ≡ true → Continues a b
parts_of_continues a b e =
    let both = and_parts (is_next_place a.place b.place)
    (is_same_protection a.cell.protected b.cell.protected && is_written_on a.cell.what b.cell.what) e in
    let place = and_parts (eqb a.place.row b.place.row) (eqb (a.place.column + 1) b.place.column) both.0 in
    let rest = and_parts (is_same_protection a.cell.protected b.cell.protected) (is_written_on a.cell.what b.cell.what) both.1 in
    record {
      row = sym (eqb-true a.place.row b.place.row place.0);
      column = sym (eqb-true (a.place.column + 1) b.place.column place.1);
      protected = same_protection a.cell.protected b.cell.protected rest.0;
      on = rest.1;
    }

-- the cells of a segment stand one after the other
puts_are : (protect : Bool) (r c : ℕ) (a : PlacedCell) (more : List PlacedCell) → GoOnFrom continues a more
    → a.place.row ≡ r → a.place.column ≡ c → a.cell.protected ≡ protect
    → flat_map put_of (a ∷ more) ≡ puts_from protect r c (map what_at (a ∷ more))
puts_are protect r c a [] linked row column protected = λ i. strokes.Put (record { row = row i; column = column i })
    (record { what = a.cell.what; protected = protected i }) ∷ []
puts_are protect r c a (b ∷ more) linked row column protected =
    let parts = parts_of_continues a b linked.0 in
    let next = parts.column in
    let rest = puts_are protect r (c + 1) b more linked.1 (parts.row ∙ row)
    (next ∙ ap (λ k. k + 1) column) (parts.protected ∙ protected) in
    λ i. strokes.Put (record { row = row i; column = column i })
    (record { what = a.cell.what; protected = protected i }) ∷ rest i

-- they end within the row
pub ends_in_row : (rows : ℕ) (a : PlacedCell) (more : List PlacedCell) → GoOnFrom continues a more
    → AllByRecursion (IsPlaced rows) (a ∷ more) → a.place.column + length more ≤ 40
ends_in_row rows a [] linked all = let last = all.0.on.to_right in omega (arith, last)
ends_in_row rows a (b ∷ more) linked all =
    let parts = parts_of_continues a b linked.0 in
    let next = parts.column in
    let rest = ends_in_row rows b more linked.1 all.1 in
    omega (arith, next, rest)

contents_go_on : (a : PlacedCell) (more : List PlacedCell) → GoOnFrom continues a more
    → GoOnFrom is_written_on a.cell.what (map what_at more)
contents_go_on a [] linked = tt
contents_go_on a (b ∷ more) linked = ((parts_of_continues a b linked.0).on, contents_go_on b more linked.1)

all_belong : ((a b : Pen) → IsTrue (same_pen a b) ↔ (a ≡ b)) → (c1 : C1Set) (pen : Pen) (rows : ℕ) (a : PlacedCell)
    (more : List PlacedCell) → Belongs c1 pen a.cell.what → GoOnFrom continues a more
    → AllByRecursion (IsPlaced rows) more → AllByRecursion (Belongs c1 pen) (map what_at more)
all_belong same_pens c1 pen rows a [] is linked all = tt
all_belong same_pens c1 pen rows a (b ∷ more) is linked all =
    let next = next_belongs same_pens c1 pen a.cell.what b.cell.what is (parts_of_continues a b linked.0).on all.0.valid in
    (next, all_belong same_pens c1 pen rows b more next linked.1 all.1)

-- from a position on the commands make these strokes, and control is at rest but for protection
record Fills (fixed : Fixed) (protect : Bool) (v : Hand) (p : Place) (cs : List Command) (made : List Stroke)
    : Type 0 where
  hand : Hand
  draws : Draws (control_in_cell fixed initial_sets None protect (hand_at v p)) cs made
      (control_in_cell fixed initial_sets None protect hand)

-- at their place, with protection before and after them
guarded : (fixed : Fixed) (v : Hand) (p : Place) (cs : List Command) (made : List Stroke) (protect : Bool)
    → p.row ≤ fixed.rows → Fills fixed protect v p cs made
    → Rests fixed v (commands.Position p.row p.column ∷ protected_commands protect cs) made
guarded fixed v p cs made true within filled = record {
  hand = filled.hand;
  draws = subst (λ (l : List Stroke). Draws (control_at_rest fixed v)
      (commands.Position p.row p.column ∷ protected_commands true cs) l (control_at_rest fixed filled.hand))
      (append-nil made)
      (draws_silent _ (control_at_rest fixed (hand_at v p)) _ (commands.Position p.row p.column) _ _
      (position-hand_at fixed v p within) refl
      (draws_silent _ (control_in_cell fixed initial_sets None true (hand_at v p)) _ (commands.Protect true) _ _ refl
      refl
      (draws_joined _ _ _ cs (commands.Protect false ∷ []) made [] filled.draws
      (draws_one _ _ (commands.Protect false) [] refl refl))));
}
guarded fixed v p cs made false within filled = record {
  hand = filled.hand;
  draws = draws_silent _ (control_at_rest fixed (hand_at v p)) _ (commands.Position p.row p.column) _ _
      (position-hand_at fixed v p within) refl filled.draws;
}

-- ---- a segment of one cell is written as the cell is

unit_between : (set : SetId) (code accent : ℕ)
    → opening_commands set ++ (unit_of_set set code accent ++ closing_commands set) ≡ sign_commands set code accent
unit_between sets.P code accent = append-nil (unit_of_set sets.P code accent)
unit_between sets.S code accent = refl
unit_between sets.M code accent = refl
unit_between sets.N code accent = refl
unit_between sets.D code accent = refl

one_sign : (g : Glyph) → signs_commands g.set (g ∷ []) ≡ glyph_commands g
unfolding chains
one_sign g =
    let alone_is : cond (leb 3 (0 * length (spellings (unit_commands g))))
    (unit_commands g ++ commands.Repeat 0 ∷ []) (unit_commands g ++ []) ≡ unit_commands g =
    ap (λ (k : ℕ). cond (leb 3 k) (unit_commands g ++ commands.Repeat 0 ∷ []) (unit_commands g ++ []))
    (zero-mul (length (spellings (unit_commands g)))) ∙ append-nil (unit_commands g) in
    ap (λ (l : List Command). opening_commands g.set ++ ((l ++ []) ++ closing_commands g.set)) alone_is
    ∙ ap (λ (l : List Command). opening_commands g.set ++ (l ++ closing_commands g.set)) (append-nil (unit_commands g))
    ∙ unit_between g.set g.code g.accent

one_content : (what : What) → manner_commands what ++ contents_commands (what ∷ []) ≡ content_commands what
unfolding chains
one_content whats.Blank = refl
one_content (whats.Serial g) =
    ap (λ (l : List Command). commands.DesignateC1 c1sets.Serial ∷ l)
    (append-nil (signs_commands g.set (g ∷ [])) ∙ one_sign g)
one_content (whats.Parallel g pen) =
    ap (λ (l : List Command). commands.DesignateC1 c1sets.Parallel ∷ (pen_commands (λ n. commands.C1 n) pen ++ l))
    (append-nil (signs_commands g.set (g ∷ [])) ∙ one_sign g)
one_content (whats.Marker m) =
    ap (λ (l : List Command). commands.DesignateC1 c1sets.Serial ∷ l) (append-nil (marker_commands m))

single_rests : (fixed : Fixed) (a : PlacedCell) → IsPlaced fixed.rows a
    → AlwaysRests fixed (segment_commands (alone a)) (put_of a)
single_rests fixed a is =
    subst (λ (l : List Command). AlwaysRests fixed
    (commands.Position a.place.row a.place.column ∷ protected_commands a.cell.protected l) (put_of a))
    (sym (one_content a.cell.what)) (by_what a.place a.cell.protected a.cell.what is.some is.within is.valid) where
      by_what : (p : Place) (protect : Bool) (what : What) → (what ≡ whats.Blank → ⊥) → p.row ≤ fixed.rows → IsValidWhat what
          → AlwaysRests fixed
          (commands.Position p.row p.column ∷ protected_commands protect (content_commands what))
          (strokes.Put p (record { what = what; protected = protect }) ∷ [])
      by_what p protect whats.Blank some within valid = elim (some refl) [ ]
      by_what p protect (whats.Serial g) some within valid =
          cell_rests fixed p protect (whats.Serial g) (inl within) valid
      by_what p protect (whats.Parallel g pen) some within valid =
          cell_rests fixed p protect (whats.Parallel g pen) (inl within) valid
      by_what p protect (whats.Marker m) some within valid =
          cell_rests fixed p protect (whats.Marker m) (inl within) valid

-- the cells that are written are put as those of the plain text
written_puts : (cells : List (List Cell)) (n : ℕ) → flat_map put_of (written_below cells n) ≡ puts_below cells n
unfolding written_below puts_below
written_puts cells n =
    pieces_by_number (λ m. written_cell (place_of m) (cell_numbered cells m).protected (cell_numbered cells m).what) put_of
    (λ m. cell_strokes (place_of m) (cell_numbered cells m).protected (cell_numbered cells m).what)
    (λ m. each (place_of m) (cell_numbered cells m).protected (cell_numbered cells m).what) 0 n where
      each : (p : Place) (protected : Bool) (what : What)
          → flat_map put_of (written_cell p protected what) ≡ cell_strokes p protected what
      each p protected whats.Blank = refl
      each p protected (whats.Serial g) = refl
      each p protected (whats.Parallel g pen) = refl
      each p protected (whats.Marker m) = refl

-- ---- any segment

-- what `==` answers on what a segment depends on
pub record Decides : Type 0 where
  pub set : (a b : SetId) → IsTrue (same_set a b) ↔ (a ≡ b)
  pub glyph : (a b : Glyph) → IsTrue (same_glyph a b) ↔ (a ≡ b)
  pub pen : (a b : Pen) → IsTrue (same_pen a b) ↔ (a ≡ b)

module _ (decides : Decides) (fixed : Fixed) where
  longer_rests : (a b : PlacedCell) (more : List PlacedCell) → GoOnFrom continues a (b ∷ more)
      → AllByRecursion (IsPlaced fixed.rows) (a ∷ (b ∷ more))
      → AlwaysRests fixed (segment_commands (record { first = a; more = b ∷ more }))
      (flat_map put_of (a ∷ (b ∷ more)))
  longer_rests a b more linked all v =
      let protect : Bool = a.cell.protected in
      let what : What = a.cell.what in
      let list : List What = map what_at (a ∷ (b ∷ more)) in
      let start = begins fixed protect v a.place what all.0.some in
      let w : Hand = start.hand in
      let column = start.column in
      let narrow = first_narrow what b.cell.what (parts_of_continues a b linked.0).on in
      let first = first_belongs what all.0.some all.0.valid in
      let others = all_belong decides.pen (c1_of what) (pen_of what) fixed.rows a (b ∷ more) first linked all.1 in
      let within = ends_in_row fixed.rows a (b ∷ more) linked all in
      let long = length-map (a ∷ (b ∷ more)) what_at in
      let there = contents_end decides.set decides.glyph fixed protect (c1_of what) (pen_of what) narrow list
      (first, others) (contents_go_on a (b ∷ more) linked) w (omega (arith, column, within, long)) in
      let filled : Fills fixed protect v a.place (manner_commands what ++ contents_commands list)
      (puts_from protect w.row w.column list) = record {
        hand = there.hand;
        draws = draws_joined _ _ _ (manner_commands what) (contents_commands list) [] (puts_from protect w.row w.column list)
            start.draws there.draws;
      } in
      subst (λ (l : List Stroke). Rests fixed v (segment_commands (record { first = a; more = b ∷ more })) l)
      (sym (puts_are protect w.row w.column a (b ∷ more) linked (sym start.row) (sym start.column) refl))
      (guarded fixed v a.place (manner_commands what ++ contents_commands list)
      (puts_from protect w.row w.column list) protect all.0.within filled)

  segment_rests : (first : PlacedCell) (more : List PlacedCell) → GoOnFrom continues first more
      → AllByRecursion (IsPlaced fixed.rows) (first ∷ more)
      → AlwaysRests fixed (segment_commands (record { first = first; more = more })) (flat_map put_of (first ∷ more))
  segment_rests a [] linked all = single_rests fixed a all.0
  segment_rests a (b ∷ more) linked all = longer_rests a b more linked all

  abbrev SegmentRests : Chain PlacedCell → Type 0
  SegmentRests c = AlwaysRests fixed (segment_commands c) (flat_map put_of (members c))

  pub placed_are : (cells : List (List Cell)) → AreValidCells fixed.rows cells
      → AllByRecursion (IsPlaced fixed.rows) (written_below cells 960)
  unfolding written_below
  placed_are cells are =
      all_range (IsPlaced fixed.rows)
      (λ m. written_cell (place_of m) (cell_numbered cells m).protected (cell_numbered cells m).what) 0 960
      (λ j low high.
      let on : OnScreen (place_of j).row (place_of j).column = OnScreen-place_of j high in
      each (place_of j) (cell_numbered cells j).protected (cell_numbered cells j).what on
      (are.valid (place_of j).row (place_of j).column on)
      (elim (cases_lt fixed.rows (place_of j).row) [
        | inl past ↦ inr (ap (λ (c : Cell). c.what) (are.past (place_of j).row (place_of j).column on past))
        | inr within ↦ inl within
      ])) 0 960 (omega arith) (omega arith) where
        each : (p : Place) (protected : Bool) (what : What) → OnScreen p.row p.column → IsValidWhat what
            → (p.row ≤ fixed.rows) ⊎ (what ≡ whats.Blank)
            → AllByRecursion (IsPlaced fixed.rows) (written_cell p protected what)
        each p protected whats.Blank on valid within = tt
        each p protected (whats.Serial g) on valid (inl within) =
            (record { some = λ e. absurd cc; on = on; within = within; valid = valid }, tt)
        each p protected (whats.Parallel g pen) on valid (inl within) =
            (record { some = λ e. absurd cc; on = on; within = within; valid = valid }, tt)
        each p protected (whats.Marker m) on valid (inl within) =
            (record { some = λ e. absurd cc; on = on; within = within; valid = valid }, tt)
        each p protected (whats.Serial g) on valid (inr e) = absurd cc
        each p protected (whats.Parallel g pen) on valid (inr e) = absurd cc
        each p protected (whats.Marker m) on valid (inr e) = absurd cc

  pub segments_rest : (cells : List (List Cell)) → AreValidCells fixed.rows cells
      → AlwaysRests fixed (segments_commands cells) (puts_below cells 960)
  unfolding segments_commands
  segments_rest cells are =
      let list : List PlacedCell = written_below cells 960 in
      subst (λ (l : List Stroke). AlwaysRests fixed (segments_commands cells) l)
      (ap (flat_map put_of) (chains_joined continues list) ∙ written_puts cells 960)
      (rests_in_chains fixed segment_commands put_of (chains continues list)
      (each_chain continues (IsPlaced fixed.rows) SegmentRests (λ c linked all. segment_rests c.first c.more linked all) list
      (placed_are cells are)))
