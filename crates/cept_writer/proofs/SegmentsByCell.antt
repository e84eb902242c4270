-- The segments of a page are the pieces of its cells, one after the other.
use Rattle.std.proofs.Common.{◌≡◌, ℕ, zero, suc, ◌+◌, ◌/◌, ◌%◌, ◌≤◌, Bool, true, false, cond, eqb, List, [], ◌∷◌}
use Rattle.std.proofs.Common.{◌++◌, length, map, flat_map, refl, sym, ap, ◌∙◌, inl, inr, arith, append_assoc, ◌&&◌}
use Rattle.std.specs.Prelude.{IsTrue, ◌↔◌}
use Rattle.std.proofs.lemmas.Bool.{and_parts, cases_Bool, eqb-true}
use Rattle.std.proofs.lemmas.List.{append-nil}
use Rattle.std.specs.List.{AllByRecursion, range_with_len}
use Rattle.cept_codes.specs.declared.cell.Cell.{Cell}
use Rattle.cept_codes.specs.declared.cell.What.{What}
use Rattle.cept_codes.specs.declared.cell.What.TheVariants as whats
use Rattle.cept_codes.specs.declared.command.Command.{Command}
use Rattle.cept_codes.specs.declared.command.Command.TheVariants as commands
use Rattle.cept_codes.specs.declared.glyph.Glyph.{Glyph}
use Rattle.cept_codes.specs.declared.glyph.SetId.{SetId}
use Rattle.cept_codes.specs.Place.{Place, place_of}
use Rattle.cept_codes.specs.Same.{same_glyph, same_set}
use Rattle.cept_writer.specs.declared.link.Link.{Link}
use Rattle.cept_writer.specs.declared.link.Link.TheVariants as links
use Rattle.cept_writer.specs.CellCommands.{marker_commands, protected_commands}
use Rattle.cept_writer.specs.Chains.{Chain, GoOnFrom, alone, chains, chains_after, longer}
use Rattle.cept_writer.specs.PageCommands.{cell_numbered}
use Rattle.cept_writer.specs.SegmentCommands.{PlacedCell, closing_commands, contents_commands, continues, is_next_place}
use Rattle.cept_writer.specs.SegmentCommands.{is_same_protection, is_written_on}
use Rattle.cept_writer.specs.SegmentCommands.{is_of_same_set, is_shorter_repeated, manner_commands, opening_commands}
use Rattle.cept_writer.specs.SegmentCommands.{run_commands, segment_commands, segments_commands, sign_in}
use Rattle.cept_writer.specs.SegmentCommands.{stretch_commands, unit_commands, written_below, written_cell}
use Rattle.cept_writer.specs.SegmentPieces.{are_equal_signs, beginning_of, closing_in, copies_after}
use Rattle.cept_writer.specs.SegmentPieces.{copies_before, link_of, link_to, link_within, opening_after}
use Rattle.cept_writer.specs.SegmentPieces.{opening_in, piece_numbered, piece_of, piece_with, pieces_below, placed}
use Rattle.cept_writer.specs.SegmentPieces.{protection_off, protection_on, run_in, run_of, units_of}
use Rattle.cept_writer.proofs.SegmentsDrawn.{parts_of_continues}
use Rattle.cept_writer.proofs.StrokesByPart.{all_append}

-- ---- equal signs

-- a sign after k equal ones, and those after it
abbrev runs_from : ℕ → Glyph → List Glyph → List Command
runs_from k g [] = run_of k g
runs_from k g (h ∷ more) = cond (same_glyph g h) (runs_from (k + 1) h more) (run_of k g ++ runs_from 0 h more)

-- they are the first of the chains of equal signs, and the rest of these
record EqualSigns (g : Glyph) (list : List Glyph) : Type 0 where
  more : List Glyph
  rest : List (Chain Glyph)
  is : chains same_glyph (g ∷ list) ≡ record { first = g; more = more } ∷ rest
  linked : GoOnFrom same_glyph g more
  text : (k : ℕ) → runs_from k g list ≡ run_of (k + length more) g ++ flat_map run_commands rest

module _ (decides : (a b : Glyph) → IsTrue (same_glyph a b) ↔ (a ≡ b)) where
  equal_units : (g : Glyph) (more : List Glyph) → GoOnFrom same_glyph g more
      → units_of (length more) g ≡ unit_commands g ++ flat_map unit_commands more
  equal_units g [] linked = sym (append-nil (unit_commands g))
  equal_units g (h ∷ more) linked =
      let same : g ≡ h = (decides g h).0 linked.0 in
      ap (λ (k : Glyph). unit_commands g ++ units_of (length more) k) same
      ∙ ap (λ (l : List Command). unit_commands g ++ l) (equal_units h more linked.1)

  run_is : (g : Glyph) (more : List Glyph) → GoOnFrom same_glyph g more
      → run_of (length more) g ≡ run_commands (record { first = g; more = more })
  run_is g more linked =
      ap (λ (l : List Command). cond (is_shorter_repeated (length more) g)
      (unit_commands g ++ commands.Repeat (length more) ∷ []) l) (equal_units g more linked)

  equal_signs : (g : Glyph) (list : List Glyph) → EqualSigns g list
  unfolding chains
  equal_signs g [] = record {
    more = [];
    rest = [];
    is = refl;
    linked = tt;
    text = λ k. ap (λ (n : ℕ). run_of n g) (let e : k ≡ k + 0 = omega arith in e) ∙ sym (append-nil (run_of (k + 0) g));
  }
  equal_signs g (h ∷ list) = by_test (equal_signs h list) (same_glyph g h) refl where
    by_test : EqualSigns h list → (same : Bool) → same_glyph g h ≡ same → EqualSigns g (h ∷ list)
    by_test next true e = record {
      more = h ∷ next.more;
      rest = next.rest;
      is = ap (chains_after same_glyph g) next.is
          ∙ ap (λ (t : Bool). cond t (longer g (record { first = h; more = next.more }) ∷ next.rest)
          (alone g ∷ (record { first = h; more = next.more } ∷ next.rest))) e;
      linked = (e, next.linked);
      text = λ k. ap (λ (t : Bool). cond t (runs_from (k + 1) h list) (run_of k g ++ runs_from 0 h list)) e
          ∙ next.text (k + 1)
          ∙ ap (λ (n : ℕ). run_of n h ++ flat_map run_commands next.rest)
          (let e : k + 1 + length next.more ≡ k + suc (length next.more) = omega arith in e)
          ∙ ap (λ (s : Glyph). run_of (k + suc (length next.more)) s ++ flat_map run_commands next.rest)
          (sym ((decides g h).0 e));
    }
    by_test next false e = record {
      more = [];
      rest = record { first = h; more = next.more } ∷ next.rest;
      is = ap (chains_after same_glyph g) next.is
          ∙ ap (λ (t : Bool). cond t (longer g (record { first = h; more = next.more }) ∷ next.rest)
          (alone g ∷ (record { first = h; more = next.more } ∷ next.rest))) e;
      linked = tt;
      text = λ k. ap (λ (t : Bool). cond t (runs_from (k + 1) h list) (run_of k g ++ runs_from 0 h list)) e
          ∙ ap (λ (l : List Command). run_of k g ++ l) (next.text 0
          ∙ ap (λ (n : ℕ). run_of n h ++ flat_map run_commands next.rest)
          (let e : 0 + length next.more ≡ length next.more = omega arith in e)
          ∙ ap (λ (l : List Command). l ++ flat_map run_commands next.rest) (run_is h next.more next.linked))
          ∙ ap (λ (n : ℕ). run_of n g ++ flat_map run_commands (record { first = h; more = next.more } ∷ next.rest))
          (let e : k ≡ k + 0 = omega arith in e);
    }

  -- all runs of a list
  runs_are : (g : Glyph) (list : List Glyph)
      → runs_from 0 g list ≡ flat_map run_commands (chains same_glyph (g ∷ list))
  runs_are g list =
      let there = equal_signs g list in
      there.text 0
      ∙ ap (λ (n : ℕ). run_of n g ++ flat_map run_commands there.rest)
      (let e : 0 + length there.more ≡ length there.more = omega arith in e)
      ∙ ap (λ (l : List Command). l ++ flat_map run_commands there.rest) (run_is g there.more there.linked)
      ∙ ap (flat_map run_commands) (sym there.is)

-- ---- stretches

-- cells of a segment from one on, where signs of its set came before it or not, and k equal ones
abbrev opening_if : Bool → What → List Command
opening_if fresh what = cond fresh (opening_in what) []

abbrev contents_from : Bool → ℕ → What → List What → List Command
contents_from fresh k w [] = opening_if fresh w ++ (run_in k w ++ closing_in w)
contents_from fresh k w (u ∷ more) =
    opening_if fresh w
    ++ cond (is_of_same_set w u)
    (cond (are_equal_signs (sign_in w) (sign_in u)) (contents_from false (k + 1) u more)
    (run_in k w ++ contents_from false 0 u more))
    (run_in k w ++ (closing_in w ++ contents_from true 0 u more))

-- the rest of a stretch, of which k equal signs were counted
abbrev rest_of : ℕ → What → List Glyph → List Command
rest_of k whats.Blank signs = []
rest_of k (whats.Serial g) signs = runs_from k g signs ++ closing_commands g.set
rest_of k (whats.Parallel g pen) signs = runs_from k g signs ++ closing_commands g.set
rest_of k (whats.Marker m) signs = marker_commands m ++ []

rest_of_one : (k : ℕ) (w : What) → rest_of k w [] ≡ run_in k w ++ closing_in w
rest_of_one k whats.Blank = refl
rest_of_one k (whats.Serial g) = refl
rest_of_one k (whats.Parallel g pen) = refl
rest_of_one k (whats.Marker m) = refl

split : (equal : Bool) (a b c d : List Command) → cond equal (a ++ d) (b ++ (c ++ d)) ≡ cond equal a (b ++ c) ++ d
split true a b c d = refl
split false a b c d = sym (append_assoc b c d)

-- another sign of the set
module _ (decides : (a b : SetId) → IsTrue (same_set a b) ↔ (a ≡ b)) where
  of_signs : (k : ℕ) (g h : Glyph) (signs : List Glyph) → same_set g.set h.set ≡ true
      → runs_from k g (h ∷ signs) ++ closing_commands g.set
      ≡ cond (same_glyph g h) (runs_from (k + 1) h signs ++ closing_commands h.set)
      (run_of k g ++ (runs_from 0 h signs ++ closing_commands h.set))
  of_signs k g h signs same =
      ap (λ (t : SetId). runs_from k g (h ∷ signs) ++ closing_commands t) ((decides g.set h.set).0 same)
      ∙ by_test (same_glyph g h) where
        by_test : (equal : Bool) → cond equal (runs_from (k + 1) h signs) (run_of k g ++ runs_from 0 h signs)
            ++ closing_commands h.set
            ≡ cond equal (runs_from (k + 1) h signs ++ closing_commands h.set)
            (run_of k g ++ (runs_from 0 h signs ++ closing_commands h.set))
        by_test true = refl
        by_test false = append_assoc (run_of k g) (runs_from 0 h signs) (closing_commands h.set)

  rest_of_more : (k : ℕ) (w u : What) (signs : List Glyph) → is_of_same_set w u ≡ true
      → rest_of k w (sign_in u ++ signs)
      ≡ cond (are_equal_signs (sign_in w) (sign_in u)) (rest_of (k + 1) u signs) (run_in k w ++ rest_of 0 u signs)
  rest_of_more k (whats.Serial g) (whats.Serial h) signs same = of_signs k g h signs same
  rest_of_more k (whats.Serial g) (whats.Parallel h own) signs same = of_signs k g h signs same
  rest_of_more k (whats.Parallel g pen) (whats.Serial h) signs same = of_signs k g h signs same
  rest_of_more k (whats.Parallel g pen) (whats.Parallel h own) signs same = of_signs k g h signs same
  rest_of_more k (whats.Serial g) whats.Blank signs same = absurd cc
  rest_of_more k (whats.Serial g) (whats.Marker m) signs same = absurd cc
  rest_of_more k (whats.Parallel g pen) whats.Blank signs same = absurd cc
  rest_of_more k (whats.Parallel g pen) (whats.Marker m) signs same = absurd cc
  rest_of_more k whats.Blank u signs same = let wrong : false ≡ true = same in absurd cc
  rest_of_more k (whats.Marker m) u signs same = let wrong : false ≡ true = same in absurd cc

  -- they are the first of the stretches, and the rest of these
  record Stretches (w : What) (list : List What) : Type 0 where
    more : List What
    rest : List (Chain What)
    is : chains is_of_same_set (w ∷ list) ≡ record { first = w; more = more } ∷ rest
    text : (fresh : Bool) (k : ℕ) → contents_from fresh k w list
        ≡ opening_if fresh w ++ (rest_of k w (flat_map sign_in more) ++ flat_map stretch_commands rest)

  module _ (glyphs : (a b : Glyph) → IsTrue (same_glyph a b) ↔ (a ≡ b)) where
    stretch_is : (w : What) (more : List What) → opening_in w ++ rest_of 0 w (flat_map sign_in more)
        ≡ stretch_commands (record { first = w; more = more })
    stretch_is whats.Blank more = refl
    stretch_is (whats.Serial g) more =
        ap (λ (l : List Command). opening_commands g.set ++ (l ++ closing_commands g.set))
        (runs_are glyphs g (flat_map sign_in more))
    stretch_is (whats.Parallel g pen) more =
        ap (λ (l : List Command). opening_commands g.set ++ (l ++ closing_commands g.set))
        (runs_are glyphs g (flat_map sign_in more))
    stretch_is (whats.Marker m) more = append-nil (marker_commands m)

    stretches : (w : What) (list : List What) → Stretches w list
    unfolding chains
    stretches w [] = record {
      more = [];
      rest = [];
      is = refl;
      text = λ fresh k. ap (λ (l : List Command). opening_if fresh w ++ l)
          (sym (rest_of_one k w) ∙ sym (append-nil (rest_of k w [])));
    }
    stretches w (u ∷ list) = by_test (stretches u list) (is_of_same_set w u) refl where
      by_test : Stretches u list → (same : Bool) → is_of_same_set w u ≡ same → Stretches w (u ∷ list)
      by_test next true e = record {
        more = u ∷ next.more;
        rest = next.rest;
        is = ap (chains_after is_of_same_set w) next.is
            ∙ ap (λ (t : Bool). cond t (longer w (record { first = u; more = next.more }) ∷ next.rest)
            (alone w ∷ (record { first = u; more = next.more } ∷ next.rest))) e;
        text = λ fresh k. ap (λ (l : List Command). opening_if fresh w ++ l)
            (ap (λ (t : Bool). cond t (cond (are_equal_signs (sign_in w) (sign_in u)) (contents_from false (k + 1) u list)
            (run_in k w ++ contents_from false 0 u list)) (run_in k w ++ (closing_in w ++ contents_from true 0 u list))) e
            ∙ ap (λ (l : List Command). cond (are_equal_signs (sign_in w) (sign_in u)) l
            (run_in k w ++ contents_from false 0 u list)) (next.text false (k + 1))
            ∙ ap (λ (l : List Command). cond (are_equal_signs (sign_in w) (sign_in u))
            (rest_of (k + 1) u (flat_map sign_in next.more) ++ flat_map stretch_commands next.rest)
            (run_in k w ++ l)) (next.text false 0)
            ∙ split (are_equal_signs (sign_in w) (sign_in u)) (rest_of (k + 1) u (flat_map sign_in next.more))
            (run_in k w) (rest_of 0 u (flat_map sign_in next.more)) (flat_map stretch_commands next.rest)
            ∙ ap (λ (l : List Command). l ++ flat_map stretch_commands next.rest)
            (sym (rest_of_more k w u (flat_map sign_in next.more) e)));
      }
      by_test next false e = record {
        more = [];
        rest = record { first = u; more = next.more } ∷ next.rest;
        is = ap (chains_after is_of_same_set w) next.is
            ∙ ap (λ (t : Bool). cond t (longer w (record { first = u; more = next.more }) ∷ next.rest)
            (alone w ∷ (record { first = u; more = next.more } ∷ next.rest))) e;
        text = λ fresh k. ap (λ (l : List Command). opening_if fresh w ++ l)
            (ap (λ (t : Bool). cond t (cond (are_equal_signs (sign_in w) (sign_in u)) (contents_from false (k + 1) u list)
            (run_in k w ++ contents_from false 0 u list)) (run_in k w ++ (closing_in w ++ contents_from true 0 u list))) e
            ∙ ap (λ (l : List Command). run_in k w ++ (closing_in w ++ l)) (next.text true 0
            ∙ sym (append_assoc (opening_in u) (rest_of 0 u (flat_map sign_in next.more)) (flat_map stretch_commands next.rest))
            ∙ ap (λ (l : List Command). l ++ flat_map stretch_commands next.rest) (stretch_is u next.more))
            ∙ sym (append_assoc (run_in k w) (closing_in w)
            (flat_map stretch_commands (record { first = u; more = next.more } ∷ next.rest)))
            ∙ ap (λ (l : List Command). l ++ flat_map stretch_commands (record { first = u; more = next.more } ∷ next.rest))
            (sym (rest_of_one k w)));
      }

    -- all contents of a segment
    contents_are : (w : What) (list : List What) → contents_from true 0 w list ≡ contents_commands (w ∷ list)
    contents_are w list =
        let there = stretches w list in
        there.text true 0
        ∙ sym (append_assoc (opening_in w) (rest_of 0 w (flat_map sign_in there.more)) (flat_map stretch_commands there.rest))
        ∙ ap (λ (l : List Command). l ++ flat_map stretch_commands there.rest) (stretch_is w there.more)
        ∙ ap (flat_map stretch_commands) (sym there.is)

-- ---- segments

four : (a b c d : List Command) → (a ++ (b ++ c)) ++ d ≡ a ++ (b ++ (c ++ d))
four a b c d = append_assoc a (b ++ c) d ∙ ap (λ l. a ++ l) (append_assoc b c d)

five : (a b c d e : List Command) → (a ++ (b ++ (c ++ d))) ++ e ≡ a ++ (b ++ (c ++ (d ++ e)))
five a b c d e = append_assoc a (b ++ (c ++ d)) e ∙ ap (λ l. a ++ l) (four b c d e)

six : (a b c d e f : List Command) → (a ++ (b ++ (c ++ (d ++ e)))) ++ f ≡ a ++ (b ++ (c ++ (d ++ (e ++ f))))
six a b c d e f = append_assoc a (b ++ (c ++ (d ++ e))) f ∙ ap (λ l. a ++ l) (five b c d e f)

-- the signs of a set begin anew
abbrev is_fresh : Link → Bool
is_fresh links.Apart = true
is_fresh links.Segment = true
is_fresh links.Set = false
is_fresh links.Equal = false

opened_if : (link : Link) (w : What) → opening_after link w ≡ opening_if (is_fresh link) w
opened_if links.Apart w = refl
opened_if links.Segment w = refl
opened_if links.Set w = refl
opened_if links.Equal w = refl

abbrev what_at : PlacedCell → What
what_at a = a.cell.what

-- cells one after the other, from one on
abbrev text_from : Link → ℕ → PlacedCell → List PlacedCell → List Command
text_from before k x [] = piece_of before k x links.Apart
text_from before k x (y ∷ more) =
    piece_of before k x (link_of x y) ++ text_from (link_of x y) (copies_after k (link_of x y)) y more

-- the pieces of a cell that is the last of its segment
last_piece : (before : Link) (k : ℕ) (x : PlacedCell) (rest : List Command) → piece_of before k x links.Apart ++ rest
    ≡ beginning_of before x ++ (contents_from (is_fresh before) k x.cell.what []
    ++ (protection_off x.cell.protected ++ rest))
last_piece before k x rest =
    six (beginning_of before x) (opening_after before x.cell.what) (run_in k x.cell.what) (closing_in x.cell.what)
    (protection_off x.cell.protected) rest
    ∙ ap (λ (l : List Command). beginning_of before x ++ (l ++ (run_in k x.cell.what
    ++ (closing_in x.cell.what ++ (protection_off x.cell.protected ++ rest))))) (opened_if before x.cell.what)
    ∙ ap (λ (l : List Command). beginning_of before x ++ l)
    (sym (four (opening_if (is_fresh before) x.cell.what) (run_in k x.cell.what) (closing_in x.cell.what)
    (protection_off x.cell.protected ++ rest)))

-- and of one that another continues
abbrev link_by : Bool → Bool → Link
link_by set equal = cond set (cond equal links.Equal links.Set) links.Segment

inner_piece : (set equal : Bool) (before : Link) (k : ℕ) (x y : PlacedCell) (us : List What) (rest : List Command)
    → piece_of before k x (link_by set equal)
    ++ (beginning_of (link_by set equal) y ++ (contents_from (is_fresh (link_by set equal)) (copies_after k (link_by set equal))
    y.cell.what us ++ rest))
    ≡ beginning_of before x ++ ((opening_if (is_fresh before) x.cell.what
    ++ cond set (cond equal (contents_from false (k + 1) y.cell.what us)
    (run_in k x.cell.what ++ contents_from false 0 y.cell.what us))
    (run_in k x.cell.what ++ (closing_in x.cell.what ++ contents_from true 0 y.cell.what us))) ++ rest)
inner_piece true true before k x y us rest =
    let here : List Command = contents_from false (k + 1) y.cell.what us in
    six (beginning_of before x) (opening_after before x.cell.what) [] [] [] (here ++ rest)
    ∙ ap (λ (l : List Command). beginning_of before x ++ (l ++ (here ++ rest))) (opened_if before x.cell.what)
    ∙ ap (λ (l : List Command). beginning_of before x ++ l)
    (sym (append_assoc (opening_if (is_fresh before) x.cell.what) here rest))
inner_piece true false before k x y us rest =
    let here : List Command = contents_from false 0 y.cell.what us in
    six (beginning_of before x) (opening_after before x.cell.what) (run_in k x.cell.what) [] [] (here ++ rest)
    ∙ ap (λ (l : List Command). beginning_of before x ++ (l ++ (run_in k x.cell.what ++ (here ++ rest))))
    (opened_if before x.cell.what)
    ∙ ap (λ (l : List Command). beginning_of before x ++ l)
    (sym (four (opening_if (is_fresh before) x.cell.what) (run_in k x.cell.what) here rest))
inner_piece false equal before k x y us rest =
    let here : List Command = contents_from true 0 y.cell.what us in
    six (beginning_of before x) (opening_after before x.cell.what) (run_in k x.cell.what) (closing_in x.cell.what) []
    (here ++ rest)
    ∙ ap (λ (l : List Command). beginning_of before x ++ (l ++ (run_in k x.cell.what
    ++ (closing_in x.cell.what ++ (here ++ rest))))) (opened_if before x.cell.what)
    ∙ ap (λ (l : List Command). beginning_of before x ++ l)
    (sym (five (opening_if (is_fresh before) x.cell.what) (run_in k x.cell.what) (closing_in x.cell.what) here rest))

module _ (sets : (a b : SetId) → IsTrue (same_set a b) ↔ (a ≡ b)) (glyphs : (a b : Glyph) → IsTrue (same_glyph a b) ↔ (a ≡ b))
  where
    guards : (protected : Bool) (m c : List Command)
        → (protection_on protected ++ m) ++ (c ++ protection_off protected) ≡ protected_commands protected (m ++ c)
    guards true m c = ap (λ l. commands.Protect true ∷ l) (sym (append_assoc m c (commands.Protect false ∷ [])))
    guards false m c = ap (λ l. m ++ l) (append-nil c)

    segment_is : (x : PlacedCell) (more : List PlacedCell) (rest : List Command)
        → beginning_of links.Apart x ++ (contents_from true 0 x.cell.what (map what_at more)
        ++ (protection_off x.cell.protected ++ rest)) ≡ segment_commands (record { first = x; more = more }) ++ rest
    segment_is x more rest =
        let start : List Command = protection_on x.cell.protected ++ manner_commands x.cell.what in
        ap (λ (l : List Command). beginning_of links.Apart x ++ (l ++ (protection_off x.cell.protected ++ rest)))
        (contents_are sets glyphs x.cell.what (map what_at more))
        ∙ ap (λ (l : List Command). commands.Position x.place.row x.place.column ∷ l)
        (sym (four start (contents_commands (map what_at (x ∷ more))) (protection_off x.cell.protected) rest)
        ∙ ap (λ (l : List Command). l ++ rest)
        (guards x.cell.protected (manner_commands x.cell.what) (contents_commands (map what_at (x ∷ more)))))

    -- they are the first segment, and the rest of these
    record SegmentsFrom (x : PlacedCell) (list : List PlacedCell) : Type 0 where
      more : List PlacedCell
      rest : List (Chain PlacedCell)
      is : chains continues (x ∷ list) ≡ record { first = x; more = more } ∷ rest
      text : (before : Link) (k : ℕ) → text_from before k x list
          ≡ beginning_of before x ++ (contents_from (is_fresh before) k x.cell.what (map what_at more)
          ++ (protection_off x.cell.protected ++ flat_map segment_commands rest))

    segments_from : (x : PlacedCell) (list : List PlacedCell) → SegmentsFrom x list
    unfolding chains
    segments_from x [] = record {
      more = [];
      rest = [];
      is = refl;
      text = λ before k. sym (append-nil (piece_of before k x links.Apart)) ∙ last_piece before k x [];
    }
    segments_from x (y ∷ list) = by_test (segments_from y list) (continues x y) refl where
      by_test : SegmentsFrom y list → (on : Bool) → continues x y ≡ on → SegmentsFrom x (y ∷ list)
      by_test next true e = record {
        more = y ∷ next.more;
        rest = next.rest;
        is = ap (chains_after continues x) next.is
            ∙ ap (λ (t : Bool). cond t (longer x (record { first = y; more = next.more }) ∷ next.rest)
            (alone x ∷ (record { first = y; more = next.more } ∷ next.rest))) e;
        text = λ before k.
            ap (λ (t : Bool). let link : Link = cond t (link_within x.cell.what y.cell.what) links.Apart in
            piece_of before k x link ++ text_from link (copies_after k link) y list) e
            ∙ ap (λ (l : List Command). piece_of before k x (link_within x.cell.what y.cell.what) ++ l)
            (next.text (link_within x.cell.what y.cell.what) (copies_after k (link_within x.cell.what y.cell.what)))
            ∙ inner_piece (is_of_same_set x.cell.what y.cell.what)
            (are_equal_signs (sign_in x.cell.what) (sign_in y.cell.what)) before k x y (map what_at next.more)
            (protection_off y.cell.protected ++ flat_map segment_commands next.rest)
            ∙ ap (λ (p : Bool). beginning_of before x
            ++ (contents_from (is_fresh before) k x.cell.what (map what_at (y ∷ next.more))
            ++ (protection_off p ++ flat_map segment_commands next.rest))) (parts_of_continues x y e).protected;
      }
      by_test next false e = record {
        more = [];
        rest = record { first = y; more = next.more } ∷ next.rest;
        is = ap (chains_after continues x) next.is
            ∙ ap (λ (t : Bool). cond t (longer x (record { first = y; more = next.more }) ∷ next.rest)
            (alone x ∷ (record { first = y; more = next.more } ∷ next.rest))) e;
        text = λ before k.
            ap (λ (t : Bool). let link : Link = cond t (link_within x.cell.what y.cell.what) links.Apart in
            piece_of before k x link ++ text_from link (copies_after k link) y list) e
            ∙ ap (λ (l : List Command). piece_of before k x links.Apart ++ l)
            (next.text links.Apart 0 ∙ segment_is y next.more (flat_map segment_commands next.rest))
            ∙ last_piece before k x (flat_map segment_commands (record { first = y; more = next.more } ∷ next.rest));
      }

    -- all segments of a list
    abbrev start_of : List PlacedCell → List Command
    start_of [] = []
    start_of (y ∷ more) = text_from links.Apart 0 y more

    start_is : (list : List PlacedCell) → start_of list ≡ flat_map segment_commands (chains continues list)
    unfolding chains
    start_is [] = refl
    start_is (y ∷ list) =
        let there = segments_from y list in
        there.text links.Apart 0 ∙ segment_is y there.more (flat_map segment_commands there.rest)
        ∙ ap (flat_map segment_commands) (sym there.is)

-- ---- by numbers

-- a cell that is written
abbrev kept : PlacedCell → What → List PlacedCell
kept a whats.Blank = []
kept a _ = a ∷ []

kept_is : (p : Place) (protected : Bool) (what : What)
    → written_cell p protected what ≡ kept (record { place = p; cell = record { what = what; protected = protected } }) what
kept_is p protected whats.Blank = refl
kept_is p protected (whats.Serial g) = refl
kept_is p protected (whats.Parallel g pen) = refl
kept_is p protected (whats.Marker m) = refl

-- those of m numbers from one on
abbrev kept_from : List (List Cell) → ℕ → ℕ → List PlacedCell
kept_from cells n zero = []
kept_from cells n (suc m) = kept (placed cells n) (cell_numbered cells n).what ++ kept_from cells (suc n) m

kept_all : (cells : List (List Cell)) (n m : ℕ)
    → flat_map (λ j. written_cell (place_of j) (cell_numbered cells j).protected (cell_numbered cells j).what)
    (range_with_len n m) ≡ kept_from cells n m
kept_all cells n zero = refl
kept_all cells n (suc m) =
    ap (λ (l : List PlacedCell). l
    ++ flat_map (λ j. written_cell (place_of j) (cell_numbered cells j).protected (cell_numbered cells j).what)
    (range_with_len (n + 1) m)) (kept_is (place_of n) (cell_numbered cells n).protected (cell_numbered cells n).what)
    ∙ ap (λ (l : List PlacedCell). kept (placed cells n) (cell_numbered cells n).what ++ l)
    (ap (λ k. flat_map (λ j. written_cell (place_of j) (cell_numbered cells j).protected (cell_numbered cells j).what)
    (range_with_len k m)) (let e : n + 1 ≡ suc n = omega arith in e) ∙ kept_all cells (suc n) m)

-- a cell with a number from this one on
record IsFrom (n : ℕ) (y : PlacedCell) : Type 0 where
  number : ℕ
  from : n ≤ number
  at : y.place ≡ place_of number

IsFrom-kept : (cells : List (List Cell)) (k n : ℕ) (what : What) → k ≤ n
    → AllByRecursion (IsFrom k) (kept (placed cells n) what)
IsFrom-kept cells k n whats.Blank below = tt
IsFrom-kept cells k n (whats.Serial g) below = (record { number = n; from = below; at = refl }, tt)
IsFrom-kept cells k n (whats.Parallel g pen) below = (record { number = n; from = below; at = refl }, tt)
IsFrom-kept cells k n (whats.Marker m) below = (record { number = n; from = below; at = refl }, tt)

all_from : (cells : List (List Cell)) (k n m : ℕ) → k ≤ n → AllByRecursion (IsFrom k) (kept_from cells n m)
all_from cells k n zero below = tt
all_from cells k n (suc m) below =
    all_append (IsFrom k) (kept (placed cells n) (cell_numbered cells n).what) (kept_from cells (suc n) m)
    (IsFrom-kept cells k n (cell_numbered cells n).what below) (all_from cells k (suc n) m (omega (arith, below)))

-- no later place but the next one is directly right of this one
apart_later : (n j : ℕ) → n + 2 ≤ j → is_next_place (place_of n) (place_of j) ≡ false
apart_later n j later = elim (cases_Bool (is_next_place (place_of n) (place_of j))) [
  | inl e ↦
      let parts = and_parts (eqb (n / 40 + 1) (j / 40 + 1)) (eqb (n % 40 + 1 + 1) (j % 40 + 1)) e in
      let row = eqb-true (n / 40 + 1) (j / 40 + 1) parts.0 in
      let column = eqb-true (n % 40 + 1 + 1) (j % 40 + 1) parts.1 in
      absurd (omega (arith, later, row, column))
  | inr e ↦ e
]

-- a cell that isn't directly right, or beside which nothing stands, doesn't go on
apart_by_place : (a b : PlacedCell) → is_next_place a.place b.place ≡ false → link_of a b ≡ links.Apart
apart_by_place a b e =
    ap (λ (t : Bool). cond (t && (is_same_protection a.cell.protected b.cell.protected
    && is_written_on a.cell.what b.cell.what)) (link_within a.cell.what b.cell.what) links.Apart) e

apart_by_what : (a b : PlacedCell) → is_written_on a.cell.what b.cell.what ≡ false → link_of a b ≡ links.Apart
apart_by_what a b e =
    ap (λ (t : Bool). cond (is_next_place a.place b.place && (is_same_protection a.cell.protected b.cell.protected && t))
    (link_within a.cell.what b.cell.what) links.Apart) e
    ∙ none (is_next_place a.place b.place) (is_same_protection a.cell.protected b.cell.protected) where
      none : (p q : Bool) → cond (p && (q && false)) (link_within a.cell.what b.cell.what) links.Apart ≡ links.Apart
      none true true = refl
      none true false = refl
      none false q = refl

blank_left : (a b : What) → a ≡ whats.Blank → is_written_on a b ≡ false
blank_left a b e = ap (λ (w : What). is_written_on w b) e

blank_right : (a b : What) → b ≡ whats.Blank → is_written_on a b ≡ false
blank_right a b e = ap (is_written_on a) e ∙ by_left a where
  by_left : (w : What) → is_written_on w whats.Blank ≡ false
  by_left whats.Blank = refl
  by_left (whats.Serial g) = refl
  by_left (whats.Parallel g pen) = refl
  by_left (whats.Marker m) = refl

module _ (sets : (a b : SetId) → IsTrue (same_set a b) ↔ (a ≡ b)) (glyphs : (a b : Glyph) → IsTrue (same_glyph a b) ↔ (a ≡ b))
    (cells : List (List Cell)) where
  -- a cell before others, or these alone where it is blank
  abbrev text_with : Link → ℕ → PlacedCell → List PlacedCell → What → List Command
  text_with before k a list whats.Blank = start_of sets glyphs list
  text_with before k a list _ = text_from before k a list

  -- nothing goes on where no cell is directly right
  text_apart : (before : Link) (k n : ℕ) (list : List PlacedCell) → AllByRecursion (IsFrom (n + 2)) list
      → piece_of before k (placed cells n) links.Apart ++ start_of sets glyphs list
      ≡ text_from before k (placed cells n) list
  text_apart before k n [] all = append-nil (piece_of before k (placed cells n) links.Apart)
  text_apart before k n (y ∷ list) all =
      let apart = apart_by_place (placed cells n) y
      (ap (is_next_place (place_of n)) all.0.at ∙ apart_later n all.0.number all.0.from) in
      sym (ap (λ (link : Link). piece_of before k (placed cells n) link ++ text_from link (copies_after k link) y list) apart)

  -- the piece of a number before the text of those after it
  one_piece : (n m : ℕ) (a b : What) → (cell_numbered cells n).what ≡ a → (cell_numbered cells (suc n)).what ≡ b
      → piece_with (link_to cells n) (copies_before cells n) (placed cells n) (link_to cells (suc n)) a
      ++ text_with (link_to cells (suc n)) (copies_before cells (suc n)) (placed cells (suc n))
      (kept_from cells (suc (suc n)) m) b
      ≡ text_with (link_to cells n) (copies_before cells n) (placed cells n)
      (kept (placed cells (suc n)) b ++ kept_from cells (suc (suc n)) m) a
  unfolding copies_before
  one_piece n m a b left right = by_whats a b left right where
    k : ℕ
    k = copies_before cells n

    rest : List PlacedCell
    rest = kept_from cells (suc (suc n)) m

    -- after a blank one
    anew : (cell_numbered cells n).what ≡ whats.Blank
        → text_from (link_to cells (suc n)) (copies_before cells (suc n)) (placed cells (suc n)) rest
        ≡ text_from links.Apart 0 (placed cells (suc n)) rest
    anew e = ap (λ (link : Link). text_from link (copies_after k link) (placed cells (suc n)) rest)
        (apart_by_what (placed cells n) (placed cells (suc n)) (blank_left _ _ e))

    -- before a blank one
    ended : (cell_numbered cells (suc n)).what ≡ whats.Blank
        → piece_of (link_to cells n) k (placed cells n) (link_to cells (suc n)) ++ start_of sets glyphs rest
        ≡ text_from (link_to cells n) k (placed cells n) rest
    ended e =
        ap (λ (link : Link). piece_of (link_to cells n) k (placed cells n) link ++ start_of sets glyphs rest)
        (apart_by_what (placed cells n) (placed cells (suc n)) (blank_right _ _ e))
        ∙ text_apart (link_to cells n) k n rest (all_from cells (n + 2) (suc (suc n)) m (omega arith))

    by_whats : (a b : What) → (cell_numbered cells n).what ≡ a → (cell_numbered cells (suc n)).what ≡ b
        → piece_with (link_to cells n) k (placed cells n) (link_to cells (suc n)) a
        ++ text_with (link_to cells (suc n)) (copies_before cells (suc n)) (placed cells (suc n)) rest b
        ≡ text_with (link_to cells n) k (placed cells n) (kept (placed cells (suc n)) b ++ rest) a
    by_whats whats.Blank whats.Blank l r = refl
    by_whats whats.Blank (whats.Serial h) l r = anew l
    by_whats whats.Blank (whats.Parallel h own) l r = anew l
    by_whats whats.Blank (whats.Marker o) l r = anew l
    by_whats (whats.Serial g) whats.Blank l r = ended r
    by_whats (whats.Serial g) (whats.Serial h) l r = refl
    by_whats (whats.Serial g) (whats.Parallel h own) l r = refl
    by_whats (whats.Serial g) (whats.Marker o) l r = refl
    by_whats (whats.Parallel g pen) whats.Blank l r = ended r
    by_whats (whats.Parallel g pen) (whats.Serial h) l r = refl
    by_whats (whats.Parallel g pen) (whats.Parallel h own) l r = refl
    by_whats (whats.Parallel g pen) (whats.Marker o) l r = refl
    by_whats (whats.Marker o) whats.Blank l r = ended r
    by_whats (whats.Marker o) (whats.Serial h) l r = refl
    by_whats (whats.Marker o) (whats.Parallel h own) l r = refl
    by_whats (whats.Marker o) (whats.Marker q) l r = refl

  -- the last cell is continued by none
  last_apart : (n : ℕ) → n ≡ 959 → link_to cells (suc n) ≡ links.Apart
  last_apart n e =
      apart_by_place (placed cells n) (placed cells (suc n))
      (ap (λ (j : ℕ). is_next_place (place_of j) (place_of (suc j))) e)

  last_one : (n : ℕ) (a : What) → n ≡ 959
      → piece_with (link_to cells n) (copies_before cells n) (placed cells n) (link_to cells (suc n)) a ++ []
      ≡ text_with (link_to cells n) (copies_before cells n) (placed cells n) [] a
  last_one n a e =
      ap (λ (link : Link). piece_with (link_to cells n) (copies_before cells n) (placed cells n) link a ++ [])
      (last_apart n e)
      ∙ append-nil (piece_with (link_to cells n) (copies_before cells n) (placed cells n) links.Apart a) ∙ by_what a where
        by_what : (w : What) → piece_with (link_to cells n) (copies_before cells n) (placed cells n) links.Apart w
            ≡ text_with (link_to cells n) (copies_before cells n) (placed cells n) [] w
        by_what whats.Blank = refl
        by_what (whats.Serial g) = refl
        by_what (whats.Parallel g pen) = refl
        by_what (whats.Marker m) = refl

  pieces_from : (m n : ℕ) → n + suc m ≡ 960 → flat_map (piece_numbered cells) (range_with_len n (suc m))
      ≡ text_with (link_to cells n) (copies_before cells n) (placed cells n) (kept_from cells (suc n) m)
      (cell_numbered cells n).what
  pieces_from zero n all = last_one n (cell_numbered cells n).what (omega (arith, all))
  pieces_from (suc m) n all =
      ap (λ k. piece_numbered cells n ++ flat_map (piece_numbered cells) (range_with_len k (suc m)))
      (let e : n + 1 ≡ suc n = omega arith in e)
      ∙ ap (λ (l : List Command). piece_numbered cells n ++ l) (pieces_from m (suc n) (omega (arith, all)))
      ∙ one_piece n m (cell_numbered cells n).what (cell_numbered cells (suc n)).what refl refl

  from_start : (m : ℕ) (a : What) (list : List PlacedCell)
      → text_with links.Apart 0 (placed cells 0) list a ≡ start_of sets glyphs (kept (placed cells 0) a ++ list)
  from_start m whats.Blank list = refl
  from_start m (whats.Serial g) list = refl
  from_start m (whats.Parallel g pen) list = refl
  from_start m (whats.Marker o) list = refl

  -- the pieces of all cells are the segments
  pub pieces_are_segments : pieces_below cells 960 ≡ segments_commands cells
  unfolding pieces_below segments_commands copies_before written_below
  pieces_are_segments =
      pieces_from 959 0 refl
      ∙ from_start 959 (cell_numbered cells 0).what (kept_from cells 1 959)
      ∙ start_is sets glyphs (kept_from cells 0 960)
      ∙ ap (λ (l : List PlacedCell). flat_map segment_commands (chains continues l)) (sym (kept_all cells 0 960))
