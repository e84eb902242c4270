-- The commands of the compact text are spelled from the start on, and all are valid.
use Rattle.std.proofs.Common.{◌≡◌, ℕ, ◌+◌, ◌<◌, ◌≤◌, Bool, true, false, cond, List, [], ◌∷◌, ◌++◌}
use Rattle.std.proofs.Common.{Option, Some, None, IfSome, length, map, refl, sym, ap, ◌∙◌, arith, inl, inr}
use Rattle.std.specs.Prelude.{IsTrue, ◌↔◌}
use Rattle.std.proofs.lemmas.Bool.{eqb-true}
use Rattle.std.proofs.lemmas.List.{length-map}
use Rattle.std.specs.List.{AllByRecursion, flat_map}
use Rattle.cept_codes.specs.declared.cell.What.{What}
use Rattle.cept_codes.specs.declared.cell.What.TheVariants as whats
use Rattle.cept_codes.specs.declared.command.Command.{Command}
use Rattle.cept_codes.specs.declared.command.Command.TheVariants as command
use Rattle.cept_codes.specs.declared.command.Form.{Form}
use Rattle.cept_codes.specs.declared.glyph.Glyph.{Glyph}
use Rattle.cept_codes.specs.declared.glyph.SetId.{SetId}
use Rattle.cept_codes.specs.declared.glyph.SetId.TheVariants as set
use Rattle.cept_codes.specs.declared.look.Paint.{Paint}
use Rattle.cept_codes.specs.declared.look.Paint.TheVariants as paints
use Rattle.cept_codes.specs.declared.look.Pattern.{Pattern}
use Rattle.cept_codes.specs.Cell.{IsValidWhat}
use Rattle.cept_codes.specs.Glyph.{IsCodeOf, IsValidAccent, IsValidGlyph}
use Rattle.cept_codes.specs.Look.{IsValidPattern, IsValidRgb}
use Rattle.cept_codes.specs.Same.{same_form, same_glyph, same_paint}
use Rattle.cept_codes.specs.Stroke.{IsPaintOf}
use Rattle.cept_parser.specs.declared.context.Context.{Context}
use Rattle.cept_parser.specs.declared.context.Mode.TheVariants.{DrcsRun, TableRun}
use Rattle.cept_parser.specs.Context.{start_context}
use Rattle.cept_parser.specs.Items.{closed_items, commands, is_refusal}
use Rattle.cept_parser.specs.ReadsAs.{Reads}
use Rattle.cept_parser.specs.Spelling.{AreSpelled, AreTextual, IsSpelled, context_after, context_after_all}
use Rattle.cept_parser.specs.Spelling.{form_of, spelling}
use Rattle.cept_parser.proofs.ReadsLemmas.{commands_are, context_after_all-append, no_refusals, reads_list}
use Rattle.cept_parser.proofs.ReadsLemmas.{spelled-append}
use Rattle.cept_parser.proofs.TextualLemmas.{textual-append}
use Rattle.cept_profile.specs.Colours.{default_paint}
use Rattle.cept_profile.specs.PageParts.{paint_in, pattern_in}
use Rattle.cept_profile.specs.State.{Core}
use Rattle.cept_profile.specs.Valid.{IsValidCore}
use Rattle.cept_writer.specs.CellCommands.{accent_commands}
use Rattle.cept_writer.specs.Chains.{Chain, GoOnFrom, chains, last_from, members}
use Rattle.cept_writer.specs.CompactCommands.{CodedPattern, NumberedColour, changed_below, changed_commands, changed_entry}
use Rattle.cept_writer.specs.CompactCommands.{codes_commands, coded_pattern, colours_commands, compact_commands}
use Rattle.cept_writer.specs.CompactCommands.{compact_text, defined_below, defined_commands, form_commands, is_next_code}
use Rattle.cept_writer.specs.CompactCommands.{is_next_entry, is_of_same_form}
use Rattle.cept_writer.specs.PageCommands.{area_commands, dclut_commands, first_commands, implicit_commands, rows_below}
use Rattle.cept_writer.specs.PageCommands.{screen_commands, with_colour_header}
use Rattle.cept_writer.specs.SegmentCommands.{PlacedCell, closing_commands, contents_commands, continues, is_of_same_set}
use Rattle.cept_writer.specs.SegmentCommands.{is_shorter_repeated, manner_commands, opening_commands, run_commands}
use Rattle.cept_writer.specs.SegmentCommands.{segment_commands, segments_commands, sign_in, signs_commands}
use Rattle.cept_writer.specs.SegmentCommands.{stretch_commands, unit_commands, unit_of_set, written_below}
use Rattle.cept_writer.proofs.ChainLemmas.{each_chain, each_short_chain}
use Rattle.cept_writer.proofs.PageSpelled.{AnewOrNone, Anywhere, InTable, accent_textual, anew-append, anywhere-append}
use Rattle.cept_writer.proofs.PageSpelled.{area_anywhere, dclut_anywhere, head_anywhere, header_anywhere, if_any}
use Rattle.cept_writer.proofs.PageSpelled.{implicit_anywhere, in_table, in_table-append, in_table-none, marker_textual}
use Rattle.cept_writer.proofs.PageSpelled.{pen_textual, placed_anywhere, protected_textual, rows_anywhere, screen_anywhere}
use Rattle.cept_writer.proofs.PageSpelled.{signs_coded, size_c1}
use Rattle.cept_writer.proofs.Resting.{fixed_of}
use Rattle.cept_writer.proofs.SegmentsDrawn.{Decides, IsPlaced, ends_in_row, placed_are}
use Rattle.cept_writer.proofs.StrokesByPart.{all_range}

-- ---- colour entries

abbrev IsValidEntry : NumberedColour → Type 0
IsValidEntry e = (e.number < 32) × IsValidRgb e.colour

abbrev entry_command : NumberedColour → Command
entry_command e = command.Entry e.number e.colour

entries_spelled : (f : Form) (e : NumberedColour) (more : List NumberedColour) → GoOnFrom is_next_entry e more
    → AllByRecursion IsValidEntry more → AreSpelled (in_table (TableRun (e.number + 1)) f) (map entry_command more)
unfolding IsSpelled context_after
entries_spelled f e [] linked all = tt
entries_spelled f e (d ∷ more) linked all =
    let next = eqb-true (e.number + 1) d.number linked.0 in
    ((ap (λ (n : ℕ). TableRun n) next, (omega (arith, all.0.0), all.0.1)), refl, entries_spelled f d more linked.1 all.1)

entries_lead : (f : Form) (e : NumberedColour) (more : List NumberedColour)
    → context_after_all (in_table (TableRun (e.number + 1)) f) (map entry_command more)
    ≡ in_table (TableRun ((last_from e more).number + 1)) f
unfolding context_after
entries_lead f e [] = refl
entries_lead f e (d ∷ more) = entries_lead f d more

run_in_table : (c : Chain NumberedColour) → GoOnFrom is_next_entry c.first c.more
    → AllByRecursion IsValidEntry (members c) → InTable (colours_commands c)
unfolding IsSpelled context_after
run_in_table c linked all = record {
  mode = λ m. TableRun ((last_from c.first c.more).number + 1);
  spelled = λ m f. (
    omega (arith, all.0.0),
    refl,
    ((refl, (omega (arith, all.0.0), all.0.1)), refl, entries_spelled f c.first c.more linked all.1),
  );
  leads = λ m f. entries_lead f c.first c.more;
}

runs_in_table : (cs : List (Chain NumberedColour)) → AllByRecursion (λ c. InTable (colours_commands c)) cs
    → InTable (flat_map colours_commands cs)
runs_in_table [] all = in_table-none
runs_in_table (c ∷ cs) all =
    in_table-append (colours_commands c) (flat_map colours_commands cs) all.0 (runs_in_table cs all.1)

runs_anew : (cs : List (Chain NumberedColour)) → AnewOrNone (flat_map colours_commands cs)
unfolding spelling
runs_anew [] = inl refl
runs_anew (c ∷ cs) = anew-append (colours_commands c) (flat_map colours_commands cs) (inr refl) (runs_anew cs)

changed_valid : (k : Core) → IsValidCore k → AllByRecursion IsValidEntry (changed_below k.page.paints 32)
unfolding changed_below
changed_valid k is =
    all_range IsValidEntry (λ i. changed_entry i (paint_in k.page.paints i)) 0 32
    (λ j low high. each j (paint_in k.page.paints j) high (is.page.paints j high)) 0 32 (omega arith) (omega arith) where
      each : (i : ℕ) (p : Paint) → i < 32 → IsPaintOf i p → AllByRecursion IsValidEntry (changed_entry i p)
      each i paints.Video below valid = tt
      each i (paints.Ink c) below valid = by_test (same_paint (paints.Ink c) (default_paint i)) where
        by_test : (same : Bool)
            → AllByRecursion IsValidEntry (cond same [] (record { number = i; colour = c } ∷ []))
        by_test true = tt
        by_test false = ((below, valid), tt)

colours_anywhere : (k : Core) → IsValidCore k → Anywhere (with_colour_header (changed_commands k.page.paints))
unfolding changed_commands
colours_anywhere k is =
    let list : List NumberedColour = changed_below k.page.paints 32 in
    header_anywhere (changed_commands k.page.paints)
    (runs_in_table (chains is_next_entry list)
    (each_chain is_next_entry IsValidEntry (λ c. InTable (colours_commands c)) run_in_table list (changed_valid k is)))
    (runs_anew (chains is_next_entry list))

-- ---- patterns

abbrev IsValidCoded : CodedPattern → Type 0
IsValidCoded d = (0x21 ≤ d.code) × (d.code ≤ 0x7E) × IsValidPattern d.pattern

-- and of this form
abbrev IsCodedOf : Form → CodedPattern → Type 0
IsCodedOf f d = (form_of d.pattern ≡ f) × IsValidCoded d

abbrev pattern_command : CodedPattern → Command
pattern_command d = command.DrcsPattern d.code d.pattern

-- commands that are spelled where patterns are of this form, and leave the form
record InForm (f : Form) (cs : List Command) : Type 0 where
  spelled : (x : Context) → x.form ≡ f → AreSpelled x cs
  keeps : (x : Context) → x.form ≡ f → (context_after_all x cs).form ≡ f

in_form-append : (f : Form) (a b : List Command) → InForm f a → InForm f b → InForm f (a ++ b)
in_form-append f a b p q = record {
  spelled = λ x e. spelled-append x a b (p.spelled x e) (q.spelled (context_after_all x a) (p.keeps x e));
  keeps = λ x e. ap (λ (y : Context). y.form) (context_after_all-append x a b)
      ∙ q.keeps (context_after_all x a) (p.keeps x e);
}

patterns_spelled : (f : Form) (d : CodedPattern) (more : List CodedPattern) → GoOnFrom is_next_code d more
    → AllByRecursion (IsCodedOf f) more → (x : Context) → x.mode ≡ DrcsRun (d.code + 1) → x.form ≡ f
    → AreSpelled x (map pattern_command more)
unfolding IsSpelled context_after
patterns_spelled f d [] linked all x mode form = tt
patterns_spelled f d (e ∷ more) linked all x mode form =
    let next = eqb-true (d.code + 1) e.code linked.0 in (
      (mode ∙ ap (λ (n : ℕ). DrcsRun n) next, form ∙ sym all.0.0, all.0.1.1, all.0.1.2),
      refl,
      patterns_spelled f e more linked.1 all.1 (context_after x (pattern_command e)) refl form,
    )

patterns_keep : (f : Form) (list : List CodedPattern) (x : Context) → x.form ≡ f
    → (context_after_all x (map pattern_command list)).form ≡ f
unfolding context_after
patterns_keep f [] x form = form
patterns_keep f (d ∷ list) x form = patterns_keep f list (context_after x (pattern_command d)) form

codes_in_form : (f : Form) (c : Chain CodedPattern) → GoOnFrom is_next_code c.first c.more
    → AllByRecursion (IsCodedOf f) (members c) → InForm f (codes_commands c)
unfolding IsSpelled context_after
codes_in_form f c linked all = record {
  spelled = λ x form. (
    (all.0.1.0, all.0.1.1),
    refl,
    (
      (refl, form ∙ sym all.0.0, all.0.1.1, all.0.1.2),
      refl,
      patterns_spelled f c.first c.more linked all.1
          (context_after (context_after x (command.DrcsStart c.first.code)) (pattern_command c.first)) refl form,
    ),
  );
  keeps = λ x form. patterns_keep f (members c) (context_after x (command.DrcsStart c.first.code)) form;
}

runs_in_form : (f : Form) (cs : List (Chain CodedPattern)) → AllByRecursion (λ c. InForm f (codes_commands c)) cs
    → InForm f (flat_map codes_commands cs)
runs_in_form f [] all = record { spelled = λ x e. tt; keeps = λ x e. e }
runs_in_form f (c ∷ cs) all =
    in_form-append f (codes_commands c) (flat_map codes_commands cs) all.0 (runs_in_form f cs all.1)

-- texts one after the other
each_anywhere : {X : Type 0} (text : X → List Command) (xs : List X) → AllByRecursion (λ x. Anywhere (text x)) xs
    → Anywhere (flat_map text xs)
each_anywhere text [] all y = tt
each_anywhere text (x ∷ xs) all y = anywhere-append (text x) (flat_map text xs) all.0 (each_anywhere text xs all.1) y

module _ (decides : (a b : Form) → IsTrue (same_form a b) ↔ (a ≡ b)) where
  -- patterns that go on in one form are of it
  all_of_form : (f : Form) (d : CodedPattern) (more : List CodedPattern) → form_of d.pattern ≡ f
      → GoOnFrom is_of_same_form d more → AllByRecursion IsValidCoded more → AllByRecursion (IsCodedOf f) more
  all_of_form f d [] is linked all = tt
  all_of_form f d (e ∷ more) is linked all =
      let same = (decides (form_of d.pattern) (form_of e.pattern)).0 linked.0 in
      let next = sym same ∙ is in
      ((next, all.0), all_of_form f e more next linked.1 all.1)

  form_anywhere : (c : Chain CodedPattern) → GoOnFrom is_of_same_form c.first c.more
      → AllByRecursion IsValidCoded (members c) → Anywhere (form_commands c)
  unfolding IsSpelled context_after
  form_anywhere c linked all x =
      let f : Form = form_of c.first.pattern in
      let within = runs_in_form f (chains is_next_code (members c))
      (each_chain is_next_code (IsCodedOf f) (λ d. InForm f (codes_commands d)) (codes_in_form f) (members c)
      ((refl, all.0), all_of_form f c.first c.more refl linked all.1)) in (
        record { size = all.0.2.size; planes = all.0.2.planes },
        refl,
        within.spelled (context_after x (command.DrcsHeader false f)) refl,
      )

  defined_valid : (k : Core) → IsValidCore k → AllByRecursion IsValidCoded (defined_below k.page.patterns 94)
  unfolding defined_below
  defined_valid k is =
      all_range IsValidCoded (λ d. coded_pattern d (pattern_in k.page.patterns d)) 0x21 127
      (λ j low high. each j (pattern_in k.page.patterns j) low (omega (arith, high))
      (is.page.patterns j low (omega (arith, high)))) 0x21 94 (omega arith) (omega arith) where
        each : (code : ℕ) (o : Option Pattern) → 0x21 ≤ code → code ≤ 0x7E → IfSome o IsValidPattern
            → AllByRecursion IsValidCoded (coded_pattern code o)
        each code None low high valid = tt
        each code (Some p) low high valid = ((low, high, valid), tt)

  patterns_anywhere : (k : Core) → IsValidCore k → Anywhere (defined_commands k.page.patterns)
  unfolding defined_commands
  patterns_anywhere k is =
      let list : List CodedPattern = defined_below k.page.patterns 94 in
      each_anywhere form_commands (chains is_of_same_form list)
      (each_chain is_of_same_form IsValidCoded (λ c. Anywhere (form_commands c)) form_anywhere list (defined_valid k is))

-- ---- segments

texts_textual : {X : Type 0} (text : X → List Command) (xs : List X) → AllByRecursion (λ x. AreTextual (text x)) xs
    → AreTextual (flat_map text xs)
texts_textual text [] all = tt
texts_textual text (x ∷ xs) all =
    textual-append (text x) (flat_map text xs) all.0 (texts_textual text xs all.1)

pub opening_textual : (s : SetId) → AreTextual (opening_commands s)
opening_textual set.P = tt
opening_textual set.S = tt
opening_textual set.M = (omega arith, tt)
opening_textual set.N = tt
opening_textual set.D = (omega arith, tt)

pub closing_textual : (s : SetId) → AreTextual (closing_commands s)
closing_textual set.P = tt
closing_textual set.S = tt
closing_textual set.M = (omega arith, tt)
closing_textual set.N = tt
closing_textual set.D = (omega arith, tt)

pub unit_textual : (s : SetId) (code accent : ℕ) → IsCodeOf s code → IsValidAccent s accent
    → AreTextual (unit_of_set s code accent)
unit_textual set.P code accent h k =
    textual-append (accent_commands accent) (command.Graphic code ∷ []) (accent_textual accent k) ((h.0, h.1), tt)
unit_textual set.S code accent h k = ((omega arith, omega arith), ((omega (arith, h.0), h.1), tt))
unit_textual set.M code accent h k = ((omega (arith, h.0), h.1), tt)
unit_textual set.N code accent h k = ((omega arith, omega arith), ((omega (arith, h.0), h.1), tt))
unit_textual set.D code accent h k = ((omega (arith, h.0), h.1), tt)

units_textual : (list : List Glyph) → AllByRecursion IsValidGlyph list → AreTextual (flat_map unit_commands list)
units_textual [] all = tt
units_textual (g ∷ list) all =
    textual-append (unit_commands g) (flat_map unit_commands list)
    (unit_textual g.set g.code g.accent all.0.code all.0.accent) (units_textual list all.1)

run_textual : (c : Chain Glyph) → AllByRecursion IsValidGlyph (members c) → length (members c) ≤ 64
    → AreTextual (run_commands c)
run_textual c all few = by_test (is_shorter_repeated (length c.more) c.first) where
  by_test : (shorter : Bool) → AreTextual (cond shorter
      (unit_commands c.first ++ command.Repeat (length c.more) ∷ []) (flat_map unit_commands (members c)))
  by_test true =
      textual-append (unit_commands c.first) (command.Repeat (length c.more) ∷ [])
      (unit_textual c.first.set c.first.code c.first.accent all.0.code all.0.accent) (omega (arith, few), tt)
  by_test false = units_textual (members c) all

signs_textual : (s : SetId) (list : List Glyph) → AllByRecursion IsValidGlyph list → length list ≤ 64
    → AreTextual (signs_commands s list)
signs_textual s list all few =
    textual-append (opening_commands s) (flat_map run_commands (chains same_glyph list) ++ closing_commands s)
    (opening_textual s)
    (textual-append (flat_map run_commands (chains same_glyph list)) (closing_commands s)
    (texts_textual run_commands (chains same_glyph list)
    (each_short_chain same_glyph IsValidGlyph (λ c. AreTextual (run_commands c)) 64
    (λ c linked valid short. run_textual c valid short) list all few)) (closing_textual s))

signs_valid : (list : List What) → AllByRecursion IsValidWhat list
    → AllByRecursion IsValidGlyph (flat_map sign_in list)
signs_valid [] all = tt
signs_valid (whats.Blank ∷ list) all = signs_valid list all.1
signs_valid (whats.Serial g ∷ list) all = (all.0, signs_valid list all.1)
signs_valid (whats.Parallel g pen ∷ list) all = (all.0.0, signs_valid list all.1)
signs_valid (whats.Marker m ∷ list) all = signs_valid list all.1

signs_fewer : (list : List What) → length (flat_map sign_in list) ≤ length list
signs_fewer [] = omega arith
signs_fewer (whats.Blank ∷ list) = let more = signs_fewer list in omega (arith, more)
signs_fewer (whats.Serial g ∷ list) = let more = signs_fewer list in omega (arith, more)
signs_fewer (whats.Parallel g pen ∷ list) = let more = signs_fewer list in omega (arith, more)
signs_fewer (whats.Marker m ∷ list) = let more = signs_fewer list in omega (arith, more)

stretch_textual : (c : Chain What) → AllByRecursion IsValidWhat (members c) → length (members c) ≤ 64
    → AreTextual (stretch_commands c)
stretch_textual c all few = of_first c.first c.more all few where
  of_first : (first : What) (more : List What) → AllByRecursion IsValidWhat (first ∷ more)
      → length (first ∷ more) ≤ 64 → AreTextual (stretch_commands (record { first = first; more = more }))
  of_first whats.Blank more valid short = tt
  of_first (whats.Serial g) more valid short =
      let fewer = signs_fewer more in
      signs_textual g.set (g ∷ flat_map sign_in more) (valid.0, signs_valid more valid.1) (omega (arith, fewer, short))
  of_first (whats.Parallel g pen) more valid short =
      let fewer = signs_fewer more in
      signs_textual g.set (g ∷ flat_map sign_in more) (valid.0.0, signs_valid more valid.1) (omega (arith, fewer, short))
  of_first (whats.Marker m) more valid short = marker_textual m valid.0

contents_textual : (list : List What) → AllByRecursion IsValidWhat list → length list ≤ 64
    → AreTextual (contents_commands list)
contents_textual list all few =
    texts_textual stretch_commands (chains is_of_same_set list)
    (each_short_chain is_of_same_set IsValidWhat (λ c. AreTextual (stretch_commands c)) 64
    (λ c linked valid short. stretch_textual c valid short) list all few)

pub manner_textual : (w : What) → IsValidWhat w → AreTextual (manner_commands w)
manner_textual whats.Blank h = tt
manner_textual (whats.Serial g) h = (tt, tt)
manner_textual (whats.Parallel g pen) h =
    (tt, pen_textual (λ n. command.C1 n) pen signs_coded h.1 (if_any _ pen.size size_c1))
manner_textual (whats.Marker m) h = (tt, tt)

abbrev what_at : PlacedCell → What
what_at a = a.cell.what

whats_valid : (rows : ℕ) (list : List PlacedCell) → AllByRecursion (IsPlaced rows) list
    → AllByRecursion IsValidWhat (map what_at list)
whats_valid rows [] all = tt
whats_valid rows (a ∷ list) all = (all.0.valid, whats_valid rows list all.1)

segment_textual : (rows : ℕ) (c : Chain PlacedCell) → GoOnFrom continues c.first c.more
    → AllByRecursion (IsPlaced rows) (members c) → AreTextual (segment_commands c)
segment_textual rows c linked all =
    let within = ends_in_row rows c.first c.more linked all in
    let long = length-map c.more what_at in
    let list : List What = map what_at (members c) in (
      all.0.on,
      protected_textual c.first.cell.protected (manner_commands c.first.cell.what ++ contents_commands list)
          (textual-append (manner_commands c.first.cell.what) (contents_commands list)
          (manner_textual c.first.cell.what all.0.valid)
          (contents_textual list (whats_valid rows (members c) all) (omega (arith, within, long)))),
    )

segment_anywhere : (rows : ℕ) (c : Chain PlacedCell) → GoOnFrom continues c.first c.more
    → AllByRecursion (IsPlaced rows) (members c) → Anywhere (segment_commands c)
segment_anywhere rows c linked all =
    let textual = segment_textual rows c linked all in
    placed_anywhere c.first.place.row c.first.place.column _ all.0.on textual.1

segments_anywhere : Decides → (k : Core) → IsValidCore k → Anywhere (segments_commands k.page.cells)
unfolding segments_commands
segments_anywhere decides k is =
    let list : List PlacedCell = written_below k.page.cells 960 in
    each_anywhere segment_commands (chains continues list)
    (each_chain continues (IsPlaced k.rows) (λ c. Anywhere (segment_commands c)) (segment_anywhere k.rows) list
    (placed_are decides (fixed_of k) k.page.cells (record { valid = is.page.cells; past = is.past })))

-- ---- the page

module _ (forms : (a b : Form) → IsTrue (same_form a b) ↔ (a ≡ b)) (decides : Decides) where
  pub compact_spelled : (k : Core) → IsValidCore k → AreSpelled start_context (compact_commands k)
  unfolding compact_commands
  compact_spelled k v =
      let head = first_commands k in
      let colours = with_colour_header (changed_commands k.page.paints) in
      let area = area_commands k.area in
      let implicit = implicit_commands k.implicit in
      let cells = segments_commands k.page.cells ++ (area ++ implicit) in
      let rows = rows_below k.page.row_pens 24 ++ cells in
      let screen = screen_commands k.page.screen_pen ++ rows in
      let patterns = defined_commands k.page.patterns ++ screen in
      let dclut = dclut_commands k.page.dclut ++ patterns in
      anywhere-append head (colours ++ dclut) (head_anywhere k v.rows v.revision)
      (anywhere-append colours dclut (colours_anywhere k v)
      (anywhere-append (dclut_commands k.page.dclut) patterns (dclut_anywhere k.page.dclut v.page.dclut)
      (anywhere-append (defined_commands k.page.patterns) screen (patterns_anywhere forms k v)
      (anywhere-append (screen_commands k.page.screen_pen) rows (screen_anywhere k.page.screen_pen v.page.screen_pen)
      (anywhere-append (rows_below k.page.row_pens 24) cells (rows_anywhere k v)
      (anywhere-append (segments_commands k.page.cells) (area ++ implicit) (segments_anywhere decides k v)
      (anywhere-append area implicit (area_anywhere k.area v.area) (implicit_anywhere k.implicit)))))))) start_context

  compact_reads : (k : Core) → IsValidCore k
      → Reads start_context (compact_text k) (compact_commands k) (context_after_all start_context (compact_commands k))
  compact_reads k v = reads_list start_context (compact_commands k) (compact_spelled k v)

  pub compact_commands_read : (k : Core) → IsValidCore k → commands (compact_text k) ≡ compact_commands k
  compact_commands_read k v = commands_are (compact_text k) (compact_commands k) _ (compact_reads k v)

  pub compact_unrefused : (k : Core) → IsValidCore k
      → AllByRecursion (λ i. is_refusal i.what ≡ false) (closed_items (compact_text k))
  compact_unrefused k v = no_refusals (compact_text k) (compact_commands k) _ (compact_reads k v)
