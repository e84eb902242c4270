-- The compact text of a page is at most as long as the plain text.
use Rattle.std.proofs.Common.{◌≡◌, ℕ, suc, ◌+◌, ◌*◌, ◌≤◌, Bool, true, false, cond, List, [], ◌∷◌, ◌++◌, length, map}
use Rattle.std.proofs.Common.{refl, sym, ap, ◌∙◌, subst, arith, Option, None, Some}
use Rattle.std.specs.Prelude.{IsTrue, ◌↔◌}
use Rattle.std.proofs.lemmas.Bool.{leb-true}
use Rattle.std.proofs.Math.Nat.{suc-mul, zero-mul}
use Rattle.std.proofs.lemmas.Grind.{flat_map-append}
use Rattle.std.proofs.lemmas.List.{append-nil, length-append}
use Rattle.std.specs.List.{AllByRecursion, flat_map}
use Rattle.cept_codes.specs.declared.cell.Cell.{Cell}
use Rattle.cept_codes.specs.declared.cell.What.{What}
use Rattle.cept_codes.specs.declared.cell.What.TheVariants as whats
use Rattle.cept_codes.specs.declared.command.Command.{Command}
use Rattle.cept_codes.specs.declared.command.Command.TheVariants as commands
use Rattle.cept_codes.specs.declared.glyph.Glyph.{Glyph}
use Rattle.cept_codes.specs.declared.glyph.SetId.{SetId}
use Rattle.cept_codes.specs.declared.glyph.SetId.TheVariants as sets
use Rattle.cept_codes.specs.declared.look.Paint.{Paint}
use Rattle.cept_codes.specs.declared.look.Paint.TheVariants as paints
use Rattle.cept_codes.specs.declared.look.Pattern.{Pattern}
use Rattle.cept_codes.specs.Place.{Place, place_of}
use Rattle.cept_codes.specs.Same.{same_glyph, same_paint}
use Rattle.cept_parser.specs.Spelling.{form_of, spelling, spellings}
use Rattle.cept_parser.proofs.ReadsLemmas.{spellings-append}
use Rattle.cept_profile.specs.Colours.{default_paint}
use Rattle.cept_profile.specs.PageParts.{paint_in, pattern_in}
use Rattle.cept_profile.specs.State.{Core}
use Rattle.cept_writer.specs.AttributeCommands.{pen_commands}
use Rattle.cept_writer.specs.CellCommands.{cell_commands, content_commands, glyph_commands, marker_commands}
use Rattle.cept_writer.specs.CellCommands.{protected_commands}
use Rattle.cept_writer.specs.Chains.{Chain, GoOnFrom, chains, members}
use Rattle.cept_writer.specs.CompactCommands.{CodedPattern, NumberedColour, changed_below, changed_commands, changed_entry}
use Rattle.cept_writer.specs.CompactCommands.{codes_commands, coded_pattern, colours_commands, compact_commands}
use Rattle.cept_writer.specs.CompactCommands.{compact_text, defined_below, defined_commands, form_commands, is_next_code}
use Rattle.cept_writer.specs.CompactCommands.{is_next_entry, is_of_same_form}
use Rattle.cept_writer.specs.PageCommands.{area_commands, cell_numbered, cells_below, dclut_commands, entries_below}
use Rattle.cept_writer.specs.PageCommands.{entry_commands, first_commands, implicit_commands, pattern_commands, patterns_below}
use Rattle.cept_writer.specs.PageCommands.{plain_commands, plain_text, rows_below, screen_commands, with_colour_header}
use Rattle.cept_writer.specs.SegmentCommands.{PlacedCell, closing_commands, contents_commands, continues, is_of_same_set}
use Rattle.cept_writer.specs.SegmentCommands.{is_shorter_repeated, manner_commands, opening_commands, run_commands}
use Rattle.cept_writer.specs.SegmentCommands.{segment_commands, segments_commands, sign_in, signs_commands, stretch_commands}
use Rattle.cept_writer.specs.SegmentCommands.{unit_commands, unit_of_set, written_below, written_cell}
use Rattle.cept_writer.proofs.ChainLemmas.{chains_joined, each_chain, pieces_by_number}
use Rattle.cept_writer.proofs.StrokesByPart.{all_range}

-- how many bytes commands have
abbrev pub size : List Command → ℕ
size cs = length (spellings cs)

size-append : (a b : List Command) → size (a ++ b) ≡ size a + size b
size-append a b = ap length (spellings-append a b) ∙ length-append (spellings a) (spellings b)

-- entries in chains
module _ {X : Type 0} (text : Chain X → List Command) (plain : X → List Command) where
  pieces_shorter : (cs : List (Chain X)) → AllByRecursion (λ c. size (text c) ≤ size (flat_map plain (members c))) cs
      → size (flat_map text cs) ≤ size (flat_map plain (flat_map members cs))
  pieces_shorter [] all = omega arith
  pieces_shorter (c ∷ cs) all =
      let more = pieces_shorter cs all.1 in
      let first = all.0 in
      let left = size-append (text c) (flat_map text cs) in
      let right : size (flat_map plain (members c ++ flat_map members cs))
      ≡ size (flat_map plain (members c)) + size (flat_map plain (flat_map members cs)) =
      ap size (flat_map-append plain (members c) (flat_map members cs))
      ∙ size-append (flat_map plain (members c)) (flat_map plain (flat_map members cs)) in
      omega (arith, more, first, left, right)

  chains_shorter : (P : X → Type 0) (goes_on : X → X → Bool)
      → ((c : Chain X) → GoOnFrom goes_on c.first c.more → AllByRecursion P (members c)
      → size (text c) ≤ size (flat_map plain (members c)))
      → (list : List X) → AllByRecursion P list → size (flat_map text (chains goes_on list)) ≤ size (flat_map plain list)
  chains_shorter P goes_on shorter list all =
      subst (λ (l : List X). size (flat_map text (chains goes_on list)) ≤ size (flat_map plain l))
      (chains_joined goes_on list)
      (pieces_shorter (chains goes_on list)
      (each_chain goes_on P (λ c. size (text c) ≤ size (flat_map plain (members c))) shorter list all))

-- entry by entry
each_shorter : {X : Type 0} (f g : X → List Command) → ((x : X) → size (f x) ≤ size (g x)) → (list : List X)
    → size (flat_map f list) ≤ size (flat_map g list)
each_shorter f g shorter [] = omega arith
each_shorter f g shorter (x ∷ list) =
    let first = shorter x in
    let more = each_shorter f g shorter list in
    let left = size-append (f x) (flat_map f list) in
    let right = size-append (g x) (flat_map g list) in
    omega (arith, first, more, left, right)

-- nothing is asked of the entries
any : {X : Type 0} (list : List X) → AllByRecursion (λ x. Unit {0}) list
any [] = tt
any (x ∷ list) = (tt, any list)

-- ---- colour entries

abbrev pub plain_entry : NumberedColour → List Command
plain_entry e = commands.ColourStart e.number ∷ commands.Entry e.number e.colour ∷ []

pub entries_are : (defined : List Paint) (n : ℕ)
    → flat_map plain_entry (changed_below defined n) ≡ entries_below defined n
unfolding changed_below entries_below
entries_are defined n =
    pieces_by_number (λ i. changed_entry i (paint_in defined i)) plain_entry (λ i. entry_commands i (paint_in defined i))
    (λ i. each i (paint_in defined i)) 0 n where
      each : (i : ℕ) (p : Paint) → flat_map plain_entry (changed_entry i p) ≡ entry_commands i p
      each i paints.Video = refl
      each i (paints.Ink c) = by_test (same_paint (paints.Ink c) (default_paint i)) where
        by_test : (same : Bool) → flat_map plain_entry (cond same [] (record { number = i; colour = c } ∷ []))
            ≡ cond same [] (commands.ColourStart i ∷ commands.Entry i c ∷ [])
        by_test true = refl
        by_test false = refl

abbrev entry_command : NumberedColour → Command
entry_command e = commands.Entry e.number e.colour

entries_shorter : (list : List NumberedColour) → size (map entry_command list) ≤ size (flat_map plain_entry list)
unfolding spelling
entries_shorter [] = omega arith
entries_shorter (e ∷ list) = let more = entries_shorter list in omega (arith, more)

run_shorter : (c : Chain NumberedColour) → size (colours_commands c) ≤ size (flat_map plain_entry (members c))
unfolding spelling
run_shorter c = let more = entries_shorter c.more in omega (arith, more)

headed_shorter : (list : List NumberedColour)
    → size (with_colour_header (flat_map colours_commands (chains is_next_entry list)))
    ≤ size (with_colour_header (flat_map plain_entry list))
unfolding spelling chains
headed_shorter [] = omega arith
headed_shorter (e ∷ list) =
    let within = chains_shorter colours_commands plain_entry (λ x. Unit {0}) is_next_entry (λ c linked all. run_shorter c)
    (e ∷ list) (any (e ∷ list)) in
    let with_header = at_most (flat_map colours_commands (chains is_next_entry (e ∷ list))) in
    omega (arith, within, with_header) where
      at_most : (cs : List Command) → size (with_colour_header cs) ≤ 4 + size cs
      at_most [] = omega arith
      at_most (c ∷ cs) = omega arith

pub colours_shorter : (defined : List Paint)
    → size (with_colour_header (changed_commands defined)) ≤ size (with_colour_header (entries_below defined 32))
unfolding changed_commands
colours_shorter defined =
    subst (λ (l : List Command). size (with_colour_header (changed_commands defined)) ≤ size (with_colour_header l))
    (entries_are defined 32) (headed_shorter (changed_below defined 32))

-- ---- patterns

abbrev pub plain_pattern : CodedPattern → List Command
plain_pattern d =
    commands.DrcsHeader false (form_of d.pattern) ∷ commands.DrcsStart d.code ∷ commands.DrcsPattern d.code d.pattern ∷ []

pub patterns_are : (patterns : List (Option Pattern)) (n : ℕ)
    → flat_map plain_pattern (defined_below patterns n) ≡ patterns_below patterns n
unfolding defined_below patterns_below
patterns_are patterns n =
    pieces_by_number (λ code. coded_pattern code (pattern_in patterns code)) plain_pattern
    (λ code. pattern_commands code (pattern_in patterns code)) (λ code. each code (pattern_in patterns code)) 0x21 n where
      each : (code : ℕ) (o : Option Pattern) → flat_map plain_pattern (coded_pattern code o) ≡ pattern_commands code o
      each code None = refl
      each code (Some pattern) = refl

-- without the header
abbrev started_pattern : CodedPattern → List Command
started_pattern d = commands.DrcsStart d.code ∷ commands.DrcsPattern d.code d.pattern ∷ []

abbrev pattern_command : CodedPattern → Command
pattern_command d = commands.DrcsPattern d.code d.pattern

size-more : (c : Command) (cs : List Command) → size (c ∷ cs) ≡ length (spelling c) + size cs
size-more c cs = length-append (spelling c) (spellings cs)

starts_shorter : (list : List CodedPattern) → size (map pattern_command list) ≤ size (flat_map started_pattern list)
starts_shorter [] = omega arith
starts_shorter (d ∷ list) =
    let more = starts_shorter list in
    let left = size-more (pattern_command d) (map pattern_command list) in
    let right = size-more (commands.DrcsStart d.code) (pattern_command d ∷ flat_map started_pattern list) in
    let next = size-more (pattern_command d) (flat_map started_pattern list) in
    omega (arith, more, left, right, next)

codes_shorter : (c : Chain CodedPattern) → size (codes_commands c) ≤ size (flat_map started_pattern (members c))
codes_shorter c =
    let more = starts_shorter c.more in
    let rest = flat_map started_pattern c.more in
    let left = size-more (commands.DrcsStart c.first.code) (pattern_command c.first ∷ map pattern_command c.more) in
    let left_next = size-more (pattern_command c.first) (map pattern_command c.more) in
    let right = size-more (commands.DrcsStart c.first.code) (pattern_command c.first ∷ rest) in
    let right_next = size-more (pattern_command c.first) rest in
    omega (arith, more, left, left_next, right, right_next)

headers_shorter : (d : CodedPattern) → size (started_pattern d) ≤ size (plain_pattern d)
headers_shorter d =
    let whole = size-more (commands.DrcsHeader false (form_of d.pattern)) (started_pattern d) in
    omega (arith, whole)

form_shorter : (c : Chain CodedPattern) → size (form_commands c) ≤ size (flat_map plain_pattern (members c))
form_shorter c =
    let header : Command = commands.DrcsHeader false (form_of c.first.pattern) in
    let within = chains_shorter codes_commands started_pattern (λ x. Unit {0}) is_next_code
    (λ d linked all. codes_shorter d) (members c) (any (members c)) in
    let more = each_shorter started_pattern plain_pattern headers_shorter c.more in
    let left = size-more header (flat_map codes_commands (chains is_next_code (members c))) in
    let right = size-more header (started_pattern c.first ++ flat_map plain_pattern c.more) in
    let plain = size-append (started_pattern c.first) (flat_map plain_pattern c.more) in
    let started = size-append (started_pattern c.first) (flat_map started_pattern c.more) in
    omega (arith, within, more, left, right, plain, started)

pub patterns_shorter : (patterns : List (Option Pattern))
    → size (defined_commands patterns) ≤ size (patterns_below patterns 94)
unfolding defined_commands
patterns_shorter patterns =
    subst (λ (l : List Command). size (defined_commands patterns) ≤ size l) (patterns_are patterns 94)
    (chains_shorter form_commands plain_pattern (λ x. Unit {0}) is_of_same_form (λ c linked all. form_shorter c)
    (defined_below patterns 94) (any (defined_below patterns 94)))

-- ---- signs and markers

unit_shorter : (set : SetId) (code accent : ℕ)
    → size (opening_commands set) + size (closing_commands set) + size (unit_of_set set code accent)
    ≡ size (glyph_commands (record { set = set; code = code; accent = accent }))
unfolding spelling
unit_shorter sets.P code accent = omega arith
unit_shorter sets.S code accent = refl
unit_shorter sets.M code accent = refl
unit_shorter sets.N code accent = refl
unit_shorter sets.D code accent = refl

-- units of equal signs
equal_units : ((a b : Glyph) → IsTrue (same_glyph a b) ↔ (a ≡ b)) → (g : Glyph) (more : List Glyph)
    → GoOnFrom same_glyph g more
    → size (flat_map unit_commands more) ≡ length more * size (unit_commands g)
equal_units decides g [] linked = sym (zero-mul (size (unit_commands g)))
equal_units decides g (h ∷ more) linked =
    let same : g ≡ h = (decides g h).0 linked.0 in
    let rest = equal_units decides h more linked.1 in
    let both = size-append (unit_commands h) (flat_map unit_commands more) in
    let product = suc-mul (length more) (size (unit_commands h)) in
    subst (λ (k : Glyph). size (flat_map unit_commands (h ∷ more)) ≡ suc (length more) * size (unit_commands k)) (sym same)
    (omega (arith, rest, both, product))

repeat_size : (n : ℕ) → size (commands.Repeat n ∷ []) ≡ 2
unfolding spelling
repeat_size n = refl

equal_shorter : ((a b : Glyph) → IsTrue (same_glyph a b) ↔ (a ≡ b)) → (c : Chain Glyph)
    → GoOnFrom same_glyph c.first c.more → size (run_commands c) ≤ size (flat_map unit_commands (members c))
equal_shorter decides c linked = by_test (is_shorter_repeated (length c.more) c.first) refl where
  by_test : (shorter : Bool) → is_shorter_repeated (length c.more) c.first ≡ shorter
      → size (cond shorter (unit_commands c.first ++ commands.Repeat (length c.more) ∷ [])
      (flat_map unit_commands (members c))) ≤ size (flat_map unit_commands (members c))
  by_test true e =
      let many : 3 ≤ length c.more * size (unit_commands c.first) = leb-true 3 _ e in
      let two = repeat_size (length c.more) in
      let more = equal_units decides c.first c.more linked in
      let left = size-append (unit_commands c.first) (commands.Repeat (length c.more) ∷ []) in
      let right = size-append (unit_commands c.first) (flat_map unit_commands c.more) in
      omega (arith, many, more, left, right, two)
  by_test false e = omega arith

-- signs one by one, each between what stands round its set
abbrev inner_commands : What → List Command
inner_commands whats.Blank = []
inner_commands (whats.Serial g) = glyph_commands g
inner_commands (whats.Parallel g pen) = glyph_commands g
inner_commands (whats.Marker m) = marker_commands m

units_shorter : (more : List What)
    → size (flat_map unit_commands (flat_map sign_in more)) ≤ size (flat_map inner_commands more)
units_shorter [] = omega arith
units_shorter (w ∷ more) =
    let rest = units_shorter more in
    let first = one w in
    let left = ap size (flat_map-append unit_commands (sign_in w) (flat_map sign_in more))
    ∙ size-append (flat_map unit_commands (sign_in w)) (flat_map unit_commands (flat_map sign_in more)) in
    let right = size-append (inner_commands w) (flat_map inner_commands more) in
    omega (arith, rest, first, left, right)
  where
    sign_alone : (g : Glyph) → size (unit_commands g ++ []) ≤ size (glyph_commands g)
    sign_alone g =
        let whole = unit_shorter g.set g.code g.accent in
        let same = ap size (append-nil (unit_commands g)) in
        omega (arith, whole, same)

    one : (v : What) → size (flat_map unit_commands (sign_in v)) ≤ size (inner_commands v)
    one whats.Blank = omega arith
    one (whats.Serial g) = sign_alone g
    one (whats.Parallel g pen) = sign_alone g
    one (whats.Marker m) = omega arith

module _ (decides : (a b : Glyph) → IsTrue (same_glyph a b) ↔ (a ≡ b)) where
  -- signs of one set, the first of them this one
  signs_shorter : (g : Glyph) (more : List What) → size (signs_commands g.set (g ∷ flat_map sign_in more))
      ≤ size (glyph_commands g) + size (flat_map inner_commands more)
  signs_shorter g more =
      let signs : List Glyph = g ∷ flat_map sign_in more in
      let runs : List Command = flat_map run_commands (chains same_glyph signs) in
      let within : size runs ≤ size (flat_map unit_commands signs) =
      chains_shorter run_commands unit_commands (λ x. Unit {0}) same_glyph (λ c linked all. equal_shorter decides c linked)
      signs (any signs) in
      let rest = units_shorter more in
      let whole = unit_shorter g.set g.code g.accent in
      let left = size-append (opening_commands g.set) (runs ++ closing_commands g.set) in
      let left_more = size-append runs (closing_commands g.set) in
      let right = size-append (unit_commands g) (flat_map unit_commands (flat_map sign_in more)) in
      omega (arith, within, rest, whole, left, left_more, right)

  stretch_shorter : (c : Chain What) → size (stretch_commands c) ≤ size (flat_map inner_commands (members c))
  stretch_shorter c = of_first c.first c.more where
    of_first : (first : What) (more : List What) → size (stretch_commands (record { first = first; more = more }))
        ≤ size (inner_commands first ++ flat_map inner_commands more)
    of_first whats.Blank more = omega arith
    of_first (whats.Serial g) more =
        let signs = signs_shorter g more in
        let right = size-append (glyph_commands g) (flat_map inner_commands more) in
        omega (arith, signs, right)
    of_first (whats.Parallel g pen) more =
        let signs = signs_shorter g more in
        let right = size-append (glyph_commands g) (flat_map inner_commands more) in
        omega (arith, signs, right)
    of_first (whats.Marker m) more =
        let right = size-append (marker_commands m) (flat_map inner_commands more) in
        omega (arith, right)

  contents_shorter : (list : List What) → size (contents_commands list) ≤ size (flat_map inner_commands list)
  contents_shorter list =
      chains_shorter stretch_commands inner_commands (λ x. Unit {0}) is_of_same_set (λ c linked all. stretch_shorter c) list
      (any list)

-- ---- cells

abbrev pub plain_cell : PlacedCell → List Command
plain_cell a = cell_commands a.place a.cell.protected a.cell.what

pub cells_are : (cells : List (List Cell)) (n : ℕ) → flat_map plain_cell (written_below cells n) ≡ cells_below cells n
unfolding written_below cells_below
cells_are cells n =
    pieces_by_number (λ m. written_cell (place_of m) (cell_numbered cells m).protected (cell_numbered cells m).what) plain_cell
    (λ m. cell_commands (place_of m) (cell_numbered cells m).protected (cell_numbered cells m).what)
    (λ m. each (place_of m) (cell_numbered cells m).protected (cell_numbered cells m).what) 0 n where
      each : (p : Place) (protected : Bool) (what : What)
          → flat_map plain_cell (written_cell p protected what) ≡ cell_commands p protected what
      each p protected whats.Blank = refl
      each p protected (whats.Serial g) = append-nil _
      each p protected (whats.Parallel g pen) = append-nil _
      each p protected (whats.Marker m) = append-nil _

-- no place without anything is written
abbrev pub IsWrittenCell : PlacedCell → Type 0
IsWrittenCell a = a.cell.what ≡ whats.Blank → ⊥

pub written_are : (cells : List (List Cell)) (n : ℕ) → AllByRecursion IsWrittenCell (written_below cells n)
unfolding written_below
written_are cells n =
    all_range IsWrittenCell
    (λ m. written_cell (place_of m) (cell_numbered cells m).protected (cell_numbered cells m).what) 0 n
    (λ j low high. each (place_of j) (cell_numbered cells j).protected (cell_numbered cells j).what) 0 n (omega arith)
    (omega arith) where
      each : (p : Place) (protected : Bool) (what : What) → AllByRecursion IsWrittenCell (written_cell p protected what)
      each p protected whats.Blank = tt
      each p protected (whats.Serial g) = (λ e. absurd cc, tt)
      each p protected (whats.Parallel g pen) = (λ e. absurd cc, tt)
      each p protected (whats.Marker m) = (λ e. absurd cc, tt)

abbrev what_in : PlacedCell → What
what_in a = a.cell.what

-- how many bytes protection takes
abbrev guard : Bool → ℕ
guard true = 6
guard false = 0

guarded : (protected : Bool) (cs : List Command) → size (protected_commands protected cs) ≡ guard protected + size cs
unfolding spelling
guarded true cs = let both = size-append cs (commands.Protect false ∷ []) in omega (arith, both)
guarded false cs = omega arith

manner_and_inner : (what : What) → size (content_commands what) ≡ size (manner_commands what) + size (inner_commands what)
unfolding spelling
manner_and_inner whats.Blank = refl
manner_and_inner (whats.Serial g) = omega arith
manner_and_inner (whats.Parallel g pen) =
    let both = size-append (pen_commands (λ n. commands.C1 n) pen) (glyph_commands g) in
    omega (arith, both)
manner_and_inner (whats.Marker m) = omega arith

placed_size : (r k : ℕ) (cs : List Command) → size (commands.Position r k ∷ cs) ≡ 3 + size cs
unfolding spelling
placed_size r k cs = omega arith

-- a cell has a position, protection and what stands in it
plain_size : (a : PlacedCell) → IsWrittenCell a
    → size (plain_cell a) ≡ 3 + guard a.cell.protected + size (manner_commands a.cell.what) + size (inner_commands a.cell.what)
plain_size a some = by_what a.place a.cell.protected a.cell.what some where
  placed : (p : Place) (protected : Bool) (what : What)
      → size (commands.Position p.row p.column ∷ protected_commands protected (content_commands what))
      ≡ 3 + guard protected + size (manner_commands what) + size (inner_commands what)
  placed p protected what =
      let within = guarded protected (content_commands what) in
      let both = manner_and_inner what in
      let whole = placed_size p.row p.column (protected_commands protected (content_commands what)) in
      omega (arith, within, both, whole)

  by_what : (p : Place) (protected : Bool) (what : What) → (what ≡ whats.Blank → ⊥)
      → size (cell_commands p protected what) ≡ 3 + guard protected + size (manner_commands what) + size (inner_commands what)
  by_what p protected whats.Blank is = elim (is refl) [ ]
  by_what p protected (whats.Serial g) is = placed p protected (whats.Serial g)
  by_what p protected (whats.Parallel g pen) is = placed p protected (whats.Parallel g pen)
  by_what p protected (whats.Marker m) is = placed p protected (whats.Marker m)

inner_below : (list : List PlacedCell) → AllByRecursion IsWrittenCell list
    → size (flat_map inner_commands (map what_in list)) ≤ size (flat_map plain_cell list)
inner_below [] all = omega arith
inner_below (a ∷ list) all =
    let more = inner_below list all.1 in
    let first = plain_size a all.0 in
    let left = size-append (inner_commands a.cell.what) (flat_map inner_commands (map what_in list)) in
    let right = size-append (plain_cell a) (flat_map plain_cell list) in
    omega (arith, more, first, left, right)

module _ (decides : (a b : Glyph) → IsTrue (same_glyph a b) ↔ (a ≡ b)) where
  segment_shorter : (c : Chain PlacedCell) → AllByRecursion IsWrittenCell (members c)
      → size (segment_commands c) ≤ size (flat_map plain_cell (members c))
  segment_shorter c all =
      let list : List What = map what_in (members c) in
      let manner : List Command = manner_commands c.first.cell.what in
      let within = contents_shorter decides list in
      let first = plain_size c.first all.0 in
      let more = inner_below c.more all.1 in
      let inner = size-append (inner_commands c.first.cell.what) (flat_map inner_commands (map what_in c.more)) in
      let said = guarded c.first.cell.protected (manner ++ contents_commands list) in
      let both = size-append manner (contents_commands list) in
      let left : size (segment_commands c)
      ≡ 3 + size (protected_commands c.first.cell.protected (manner ++ contents_commands list)) =
      placed_size c.first.place.row c.first.place.column
      (protected_commands c.first.cell.protected (manner ++ contents_commands list)) in
      let right = size-append (plain_cell c.first) (flat_map plain_cell c.more) in
      omega (arith, within, first, more, inner, said, both, left, right)

  segments_shorter : (cells : List (List Cell)) → size (segments_commands cells) ≤ size (cells_below cells 960)
  unfolding segments_commands
  segments_shorter cells =
      subst (λ (l : List Command). size (segments_commands cells) ≤ size l) (cells_are cells 960)
      (chains_shorter segment_commands plain_cell IsWrittenCell continues (λ c linked all. segment_shorter c all)
      (written_below cells 960) (written_are cells 960))

  -- ---- the page

  parts_shorter : (a b x c y d e z t : List Command) → size b ≤ size x → size c ≤ size y → size d ≤ size z
      → size (a ++ (b ++ (e ++ (c ++ (t ++ d))))) ≤ size (a ++ (x ++ (e ++ (y ++ (t ++ z)))))
  parts_shorter a b x c y d e z t h k l =
      let left_1 = size-append a (b ++ (e ++ (c ++ (t ++ d)))) in
      let left_2 = size-append b (e ++ (c ++ (t ++ d))) in
      let left_3 = size-append e (c ++ (t ++ d)) in
      let left_4 = size-append c (t ++ d) in
      let left_5 = size-append t d in
      let right_1 = size-append a (x ++ (e ++ (y ++ (t ++ z)))) in
      let right_2 = size-append x (e ++ (y ++ (t ++ z))) in
      let right_3 = size-append e (y ++ (t ++ z)) in
      let right_4 = size-append y (t ++ z) in
      let right_5 = size-append t z in
      omega (arith, h, k, l, left_1, left_2, left_3, left_4, left_5, right_1, right_2, right_3, right_4, right_5)

  pub compact_shorter : (k : Core) → length (compact_text k) ≤ length (plain_text k)
  unfolding compact_commands plain_commands
  compact_shorter k =
      let head : List Command = first_commands k in
      let ends : List Command = area_commands k.area ++ implicit_commands k.implicit in
      let cells = segments_shorter k.page.cells in
      let left = size-append (segments_commands k.page.cells) ends in
      let right = size-append (cells_below k.page.cells 960) ends in
      let last : size (segments_commands k.page.cells ++ ends) ≤ size (cells_below k.page.cells 960 ++ ends) =
      omega (arith, cells, left, right) in
      let rows = size-append (rows_below k.page.row_pens 24) (segments_commands k.page.cells ++ ends) in
      let plain_rows = size-append (rows_below k.page.row_pens 24) (cells_below k.page.cells 960 ++ ends) in
      parts_shorter head (with_colour_header (changed_commands k.page.paints))
      (with_colour_header (entries_below k.page.paints 32)) (defined_commands k.page.patterns)
      (patterns_below k.page.patterns 94) (rows_below k.page.row_pens 24 ++ (segments_commands k.page.cells ++ ends))
      (dclut_commands k.page.dclut) (rows_below k.page.row_pens 24 ++ (cells_below k.page.cells 960 ++ ends))
      (screen_commands k.page.screen_pen) (colours_shorter k.page.paints) (patterns_shorter k.page.patterns)
      (omega (arith, last, rows, plain_rows))
