-- Rows that a command doesn't reach have the looks of the rows of which they came.
use Rattle.std.proofs.Common.{◌≡◌, ℕ, ◌-◌, ◌≤◌, ◌<◌, cond, not, ◌&&◌, ◌||◌, ◌==◌, inl, inr, zero, suc, Bool}
use Rattle.std.proofs.Common.{true, false, List, Option, Some, None, refl, sym, ◌∙◌, ap, subst, arith}
use Rattle.std.specs.Prelude.{IsSomeAnd, IsTrue, nat_lt}
use Rattle.std.specs.List.{AllByRecursion, count_by, list_any, range_with_len}
use Rattle.std.proofs.lemmas.Bool.{cases_Bool, cases_lt, eqb-true, not-false, or_left, or_parts, or_right, true≢false}
use Rattle.std.proofs.lemmas.Bool.Decides.{nat_tests}
use Rattle.std.proofs.lemmas.List.FromFn.{length-range_with_len}
use Rattle.std.proofs.lemmas.List.Sums.{count_by-le-length}
use Rattle.cept_codes.specs.declared.cell.Cell.{Cell}
use Rattle.cept_codes.specs.declared.cell.What.{What}
use Rattle.cept_codes.specs.declared.cell.What.TheVariants as whats
use Rattle.cept_codes.specs.declared.attribute.Full.{Full}
use Rattle.cept_codes.specs.declared.command.Command.{Command}
use Rattle.cept_codes.specs.declared.glyph.SetId.{SetId}
use Rattle.cept_codes.specs.declared.glyph.SetId.TheVariants as sets
use Rattle.cept_codes.specs.declared.look.Look.{Look}
use Rattle.cept_codes.specs.declared.look.Part.{Part}
use Rattle.cept_codes.specs.declared.look.Shape.{Shape}
use Rattle.cept_codes.specs.declared.stroke.Stroke.{Stroke}
use Rattle.cept_codes.specs.Cell.{IsValidWhat, blank_cell}
use Rattle.cept_codes.specs.Command.{IsValidCommand}
use Rattle.cept_codes.specs.Glyph.{IsCodeOf}
use Rattle.cept_codes.specs.Look.{blank_look}
use Rattle.cept_codes.specs.Place.{OnScreen}
use Rattle.cept_codes.specs.Same.{same_pen}
use Rattle.cept_codes.specs.Stroke.{IsRow, IsValidStroke}
use Rattle.cept_codes.specs.Table.{value_at}
use Rattle.cept_codes.proofs.Laws.{IsTable-table}
use Rattle.cept_profile.specs.Edges.{edges_of_core, is_last}
use Rattle.cept_profile.specs.Look.{contents_of_row, look, look_in_row, looks_of, own_look, part_of, parts_of}
use Rattle.cept_profile.specs.MovedRows.{row_before}
use Rattle.cept_profile.specs.Names.{code_in_set, code_named, contents_at_origin, full_attributes, is_code, names_at}
use Rattle.cept_profile.specs.Names.{names_dclut, names_entry, names_pattern, own_attributes_in}
use Rattle.cept_profile.specs.Names.{pattern_shown, place_names_entry, shows_ink_of, shows_two_planes}
use Rattle.cept_profile.specs.PageParts.{dclut_in, paint_in, pattern_in, row_pen_in}
use Rattle.cept_profile.specs.Reach.{LeadsTo, has_other_attributes, is_reached, is_reached_from}
use Rattle.cept_profile.specs.Reach.{is_redefined, is_written, just_one, reaches, rows_in_reach}
use Rattle.cept_profile.specs.RowsFromAbove.{covering, is_covered_otherwise, is_other_covering, look_seen, looks_in}
use Rattle.cept_profile.specs.RowsFromAbove.{look_with_part}
use Rattle.cept_profile.specs.State.{Core, Page, State, core_of, definitions_of, page_after, state_after}
use Rattle.cept_profile.specs.Strokes.{strokes_of}
use Rattle.cept_profile.specs.Tiling.{covers_below, part_at}
use Rattle.cept_profile.specs.Valid.{IsValidPage, IsValidState}
use Rattle.cept_profile.proofs.ColumnEntries.{column_entry-past, length-row_in, no_index}
use Rattle.cept_profile.proofs.LooksFromAbove.{covering-alike, look-above}
use Rattle.cept_profile.proofs.LooksInRows.{look_in_row-alike}
use Rattle.cept_profile.proofs.NamedDefinitions.{KeepsNamed, look-kept, some_index}
use Rattle.cept_profile.proofs.OneMoreState.{IsValidStroke-strokes_of}
use Rattle.cept_profile.proofs.RowsAlike.{IsMadeAs, at_origin-upper, names_at-made, origin_column, part_at-made}
use Rattle.cept_profile.proofs.RowsAlike.{part_of-seen, upper_part_at}
use Rattle.cept_profile.proofs.RowsMoved.{cells_after_all-from, row_before-on}
use Rattle.cept_profile.proofs.RowsRedefined.{dclut-kept, paint-kept, pattern-kept}
use Rattle.cept_profile.proofs.SamePens.{pen-same}

-- ---- a row that is made alike

-- both or neither
just_one-neither : (a b : Bool) → just_one a b ≡ false → a ≡ b
just_one-neither true true none = refl
just_one-neither false false none = refl
just_one-neither true false none = absurd (true≢false none)
just_one-neither false true none = absurd (true≢false none)

covers-alike : (before after : Core) (q r : ℕ) → q ≤ 24 → r ≤ 24
    → is_covered_otherwise (looks_of before) q (looks_of after) r ≡ false → (c : ℕ)
    → covering (look_seen (looks_of after) (r - 1) c) ≡ covering (look_seen (looks_of before) (q - 1) c)
unfolding is_covered_otherwise
covers-alike before after q r to high none zero = refl
covers-alike before after q r to high none (suc c) =
    elim (cases_lt 40 (suc c)) [
      | inl past ↦ ap (λ l. covering l) (nothing_past after (r - 1) (suc c) (omega arith) past)
          ∙ sym (ap (λ l. covering l) (nothing_past before (q - 1) (suc c) (omega arith) past))
      | inr within ↦
          sym (covering-alike (look_seen (looks_of before) (q - 1) (suc c)) (look_seen (looks_of after) (r - 1) (suc c))
          (no_index 1 40
          (λ d. is_other_covering (look_seen (looks_of before) (q - 1) d) (look_seen (looks_of after) (r - 1) d)) none
          (suc c) (omega arith) (omega arith)))
    ]
  where
    nothing_past : (k : Core) (r c : ℕ) → r ≤ 24 → 40 < c → look_seen (looks_of k) r c ≡ blank_look
    nothing_past k r c high past =
        column_entry-past blank_look (looks_in (looks_of k) r) c
        (length-row_in (λ _. blank_look) (looks_of k) r (IsTable-table (look k)) high) past

-- cells come with their row
pub cell-from : (p : Page) (strokes : List Stroke) (q r c : ℕ) → AllByRecursion IsValidStroke strokes → OnScreen r c
    → row_before strokes r ≡ Some q → is_written strokes r ≡ false
    → value_at blank_cell (page_after p strokes).cells r c ≡ value_at blank_cell p.cells q c
cell-from p strokes q r c each on from free = cells_after_all-from p.cells strokes r q c each on from free

-- and what stands in them
contents-from : (before after : Core) (strokes : List Stroke) (q r c : ℕ) → LeadsTo before after strokes
    → OnScreen r c → row_before strokes r ≡ Some q → is_written strokes r ≡ false
    → contents_of_row after r c ≡ contents_of_row before q c
contents-from before after strokes q r c leads on from free =
    ap (λ (p : Page). (value_at blank_cell p.cells r c).what) leads.page
    ∙ ap (λ (cell : Cell). cell.what)
    (cell-from before.page strokes q r c leads.each on from free)

-- a row that is not written, has the same attributes and stands under the same covers is made as it was
pub made-as : (before after : Core) (strokes : List Stroke) (q r : ℕ) → LeadsTo before after strokes → 1 ≤ r → r ≤ 24
    → row_before strokes r ≡ Some q → is_written strokes r ≡ false → has_other_attributes before q after r ≡ false
    → is_covered_otherwise (looks_of before) q (looks_of after) r ≡ false → IsMadeAs before q after r
unfolding has_other_attributes
made-as before after strokes q r leads low high from free same covers =
    let there : IsRow q = row_before-on strokes r q leads.each low high from in
    let first = or_parts
    (not (same_pen (row_pen_in before.page.row_pens q) (row_pen_in after.page.row_pens r))
    || not (same_pen before.page.screen_pen after.page.screen_pen))
    (just_one (is_last (edges_of_core before) q) (is_last (edges_of_core after) r)) same in
    let pens = or_parts (not (same_pen (row_pen_in before.page.row_pens q) (row_pen_in after.page.row_pens r)))
    (not (same_pen before.page.screen_pen after.page.screen_pen)) first.0 in
    record {
      contents = λ c left right.
          contents-from before after strokes q r c leads (assumption) from free;
      pen = sym (pen-same (row_pen_in before.page.row_pens q) (row_pen_in after.page.row_pens r)
          (not-false (same_pen (row_pen_in before.page.row_pens q) (row_pen_in after.page.row_pens r)) pens.0));
      screen = sym (pen-same before.page.screen_pen after.page.screen_pen
          (not-false (same_pen before.page.screen_pen after.page.screen_pen) pens.1));
      last = sym (just_one-neither (is_last (edges_of_core before) q) (is_last (edges_of_core after) r) first.1);
      covers = covers-alike before after q r there.1 high covers;
    }

-- ---- its parts and its names

pub part_at-unreached : (before after : Core) (strokes : List Stroke) (q r c : ℕ) → LeadsTo before after strokes
    → OnScreen r c → row_before strokes r ≡ Some q → is_written strokes r ≡ false
    → has_other_attributes before q after r ≡ false → is_covered_otherwise (looks_of before) q (looks_of after) r ≡ false
    → part_at (parts_of after) r c ≡ part_at (parts_of before) q c
part_at-unreached before after strokes q r c leads on from free same covers =
    let there : IsRow q = row_before-on strokes r q leads.each on.from_top on.to_bottom from in
    part_at-made before after q r
    (made-as before after strokes q r leads on.from_top on.to_bottom from free same covers) there.0 there.1 on.from_top
    on.to_bottom c on.to_right

pub names_at-unreached : (before after : Core) (strokes : List Stroke) (q r c : ℕ) → LeadsTo before after strokes
    → OnScreen r c → row_before strokes r ≡ Some q → is_written strokes r ≡ false
    → has_other_attributes before q after r ≡ false → is_covered_otherwise (looks_of before) q (looks_of after) r ≡ false
    → (IsTrue (covers_below (part_at (parts_of after) (r - 1) c))
    → names_at after (r - 1) c ≡ names_at before (q - 1) c)
    → names_at after r c ≡ names_at before q c
names_at-unreached before after strokes q r c leads on from free same covers above =
    let there : IsRow q = row_before-on strokes r q leads.each on.from_top on.to_bottom from in
    names_at-made before after q r
    (made-as before after strokes q r leads on.from_top on.to_bottom from free same covers) there.0 there.1 c on above

-- ---- what a place of the row names

some_column : (meets : ℕ → Bool) (c : ℕ) → 1 ≤ c → c ≤ 40 → meets c ≡ true
    → list_any meets (range_with_len 1 40) ≡ true
some_column meets c low high here = some_index 1 40 meets c low (omega arith) here

-- what its places name a row names
entry-named : (k : Core) (r i c : ℕ) → 1 ≤ c → c ≤ 40 → place_names_entry k r i c ≡ true → names_entry k r i ≡ true
unfolding names_entry
entry-named k r i c low high here = some_column (place_names_entry k r i) c low high here

pub dclut-named : (k : Core) (r j c : ℕ) → 1 ≤ c → c ≤ 40 → j < 4
    → shows_two_planes (pattern_shown (look k r c).shape) ≡ true → names_dclut k r j ≡ true
unfolding names_dclut
dclut-named k r j c low high below here =
    both_hold (nat_lt j 4) (list_any (λ d. shows_two_planes (pattern_shown (look k r d).shape)) (range_with_len 1 40))
    (grind (arith, nat_tests)) (some_column (λ d. shows_two_planes (pattern_shown (look k r d).shape)) c low high here)
  where
    both_hold : (a b : Bool) → a ≡ true → b ≡ true → (a && b) ≡ true
    both_hold a b first second = (λ i. first i && second i)

pub pattern-named : (k : Core) (r d c : ℕ) → 1 ≤ c → c ≤ 40 → is_code (names_at k r c).code d ≡ true
    → names_pattern k r d ≡ true
unfolding names_pattern
pattern-named k r d c low high here = some_column (λ e. is_code (names_at k r e).code d) c low high here

-- ---- an upper part

-- what an upper part shows stands in its own row
full_attributes-upper : (k : Core) (r c : ℕ) → (part_at (parts_of k) r c).dy ≡ 0
    → full_attributes k r c ≡ own_attributes_in k r (c - (part_at (parts_of k) r c).dx)
unfolding full_attributes
full_attributes-upper k r c upper = at_origin-upper (own_attributes_in k) r c (part_at (parts_of k) r c) upper

pub contents-upper : (k : Core) (r c : ℕ) → (part_at (parts_of k) r c).dy ≡ 0
    → contents_at_origin k r c ≡ contents_of_row k r (c - (part_at (parts_of k) r c).dx)
unfolding contents_at_origin
contents-upper k r c upper = at_origin-upper (contents_of_row k) r c (part_at (parts_of k) r c) upper

look-upper : (k : Core) (r c : ℕ) → (part_at (parts_of k) r c).dy ≡ 0
    → look k r c
    ≡ look_with_part (part_at (parts_of k) r c) (own_look k r (c - (part_at (parts_of k) r c).dx))
unfolding look
look-upper k r c upper =
    ap (look_with_part (part_at (parts_of k) r c)) (at_origin-upper (own_look k) r c (part_at (parts_of k) r c) upper)

pub shape-upper : (k : Core) (r c : ℕ) → (part_at (parts_of k) r c).dy ≡ 0
    → (look k r c).shape ≡ (own_look k r (c - (part_at (parts_of k) r c).dx)).shape
shape-upper k r c upper = ap (λ (l : Look). l.shape) (look-upper k r c upper)

-- ---- which stays

code_of_set-low : (set : SetId) (code d : ℕ) → IsCodeOf set code → is_code (code_in_set set code) d ≡ true → 0x21 ≤ d
code_of_set-low sets.D code d valid is = let same : code ≡ d = eqb-true code d is in omega (arith, same, valid.0)
code_of_set-low _ code d valid is = absurd (true≢false (sym is))

-- the code of a pattern that a valid cell names is one of the set
pub code-low : (what : What) (d : ℕ) → IsValidWhat what → is_code (code_named what) d ≡ true → 0x21 ≤ d
code-low (whats.Serial g) d valid is = code_of_set-low g.set g.code d valid.code is
code-low (whats.Parallel g pen) d valid is = code_of_set-low g.set g.code d valid.0.code is
code-low _ d valid is = absurd (true≢false (sym is))

-- what row r of the core k names stays
pub record KeepsNames (before after k : Core) (r : ℕ) : Type 0 where
  pub entry : (i : ℕ) → names_entry k r i ≡ true → paint_in after.page.paints i ≡ paint_in before.page.paints i
  pub dclut : (j : ℕ) → names_dclut k r j ≡ true → dclut_in after.page.dclut j ≡ dclut_in before.page.dclut j
  pub pattern : (d : ℕ) → 0x21 ≤ d → names_pattern k r d ≡ true
      → pattern_in after.page.patterns d ≡ pattern_in before.page.patterns d

-- where nothing that it names is defined anew
pub names-kept : (before after k : Core) (strokes : List Stroke) (r : ℕ) → LeadsTo before after strokes
    → is_redefined k strokes r ≡ false → KeepsNames before after k r
names-kept before after k strokes r leads none = record {
  entry = λ i named.
      ap (λ (p : Page). paint_in p.paints i) leads.page
      ∙ paint-kept k r i before.page.paints strokes leads.valid.colours none named;
  dclut = λ j named.
      ap (λ (p : Page). dclut_in p.dclut j) leads.page
      ∙ dclut-kept k r j before.page.dclut strokes leads.valid.names none named;
  pattern = λ d low named.
      ap (λ (p : Page). pattern_in p.patterns d) leads.page
      ∙ pattern-kept k r d before.page.patterns strokes leads.valid.codes low none named;
}

-- what stands at its column d, with these attributes and this shape, names what the place c names whose sign it is
place-kept : (before after : Core) (r c : ℕ) (f : Full) (what : What) (shape : Shape) → KeepsNames before after after r
    → 1 ≤ c → c ≤ 40 → IsValidWhat what → full_attributes after r c ≡ f → contents_at_origin after r c ≡ what
    → (look after r c).shape ≡ shape
    → KeepsNamed (definitions_of before.page) (definitions_of after.page) f what shape
place-kept before after r c f what shape kept low high valid attributes contents shown = record {
  fore = kept.entry f.fore (entry-named after r f.fore c low high
      (or_left ((names_at after r c).fore == f.fore || (names_at after r c).back == f.fore)
      (shows_ink_of (definitions_of after.page) (pattern_shown (look after r c).shape) f.fore)
      (or_left ((names_at after r c).fore == f.fore) ((names_at after r c).back == f.fore)
      (same_number (full_attributes after r c).fore f.fore (ap (λ (g : Full). g.fore) attributes)))));
  back = kept.entry f.back (entry-named after r f.back c low high
      (or_left ((names_at after r c).fore == f.back || (names_at after r c).back == f.back)
      (shows_ink_of (definitions_of after.page) (pattern_shown (look after r c).shape) f.back)
      (or_right ((names_at after r c).fore == f.back) ((names_at after r c).back == f.back)
      (same_number (full_attributes after r c).back f.back (ap (λ (g : Full). g.back) attributes)))));
  ink = λ i is. kept.entry i (entry-named after r i c low high
      (or_right ((names_at after r c).fore == i || (names_at after r c).back == i)
      (shows_ink_of (definitions_of after.page) (pattern_shown (look after r c).shape) i)
      (ap (λ s. shows_ink_of (definitions_of after.page) (pattern_shown s) i) shown ∙ is)));
  dclut = λ two j below. kept.dclut j (dclut-named after r j c low high below
      (ap (λ s. shows_two_planes (pattern_shown s)) shown ∙ two));
  code = λ d is. kept.pattern d (code-low what d valid is) (pattern-named after r d c low high
      (ap (λ w. is_code (code_named w) d) contents ∙ is));
}
  where
    same_number : (a b : ℕ) → a ≡ b → (a == b) ≡ true
    same_number a b same = grind (arith, nat_tests)

-- so it looks as it did
own_look-kept : (before after : Core) (q r d : ℕ) → IsMadeAs before q after r → 1 ≤ d → d ≤ 40
    → KeepsNamed (definitions_of before.page) (definitions_of after.page) (own_attributes_in after r d)
    (contents_of_row after r d) (own_look after r d).shape
    → own_look after r d ≡ own_look before q d
unfolding look_in_row
own_look-kept before after q r d made low high kept =
    look-kept (definitions_of before.page) (definitions_of after.page) (own_attributes_in after r d)
    (contents_of_row after r) d kept
    ∙ look_in_row-alike (definitions_of before.page) (contents_of_row after r) (contents_of_row before q)
    (row_pen_in after.page.row_pens r) after.page.screen_pen d low (λ e from to. made.contents e from (omega arith))
    ∙ (λ i. look_in_row (definitions_of before.page) (contents_of_row before q) (made.pen i) (made.screen i) d)

-- ---- the looks of the row

-- what covers is there and is the same, where what covers in another is the same
covering-same_look : (b d : Bool) (l m : Look) → cond b (Some l) None ≡ cond d (Some m) None → b ≡ true
    → (d ≡ true) × (l ≡ m)
covering-same_look true true l m same covers = (refl, cc)
covering-same_look true false l m same covers = absurd (cc)
covering-same_look false d l m same covers = absurd (true≢false (sym covers))

-- a place that is covered from above in both
pub look-covered : (before after : Core) (q r c : ℕ) → IsMadeAs before q after r → OnScreen q c → OnScreen r c
    → covers_below (part_of (look_seen (looks_of after) (r - 1) c)) ≡ true → look after r c ≡ look before q c
look-covered before after q r c made beneath on covered =
    let above : Look = look_seen (looks_of after) (r - 1) c in
    let over : Look = look_seen (looks_of before) (q - 1) c in
    let same = covering-same_look (covers_below (part_of above)) (covers_below (part_of over)) above over (made.covers c)
    covered in
    look-above after r c on covered
    ∙ ap (λ (l : Look). look_with_part (record (part_of l) { dy = 1 }) l) same.1
    ∙ sym (look-above before q c beneath same.0)

-- a place that is not
look-free : (before after : Core) (q r c : ℕ) → IsMadeAs before q after r → KeepsNames before after after r
    → IsValidPage before.page → OnScreen q c → OnScreen r c
    → covers_below (part_at (parts_of after) (r - 1) c) ≡ false → look after r c ≡ look before q c
look-free before after q r c made kept valid beneath on free =
    let p : Part = part_at (parts_of after) r c in
    let u : Part = part_at (parts_of before) q c in
    let same : p ≡ u =
    part_at-made before after q r made beneath.from_top beneath.to_bottom on.from_top on.to_bottom c on.to_right in
    let upper : p.dy ≡ 0 = upper_part_at after r c on free in
    let other : u.dy ≡ 0 = sym (ap (λ (o : Part). o.dy) same) ∙ upper in
    let column = origin_column after r c on in
    let d : ℕ = c - p.dx in
    let what_valid : IsValidWhat (contents_of_row after r d) =
    subst IsValidWhat (sym (made.contents d column.0 column.1)) (valid.cells q d (assumption)) in
    let named : KeepsNamed (definitions_of before.page) (definitions_of after.page) (own_attributes_in after r d)
    (contents_of_row after r d) (own_look after r d).shape =
    place-kept before after r c (own_attributes_in after r d) (contents_of_row after r d) (own_look after r d).shape kept
    on.from_left on.to_right what_valid (full_attributes-upper after r c upper) (contents-upper after r c upper)
    (shape-upper after r c upper) in
    look-upper after r c upper
    ∙ ap (look_with_part p) (own_look-kept before after q r d made column.0 column.1 named)
    ∙ ap (λ (o : Part). look_with_part o (own_look before q (c - o.dx))) same
    ∙ sym (look-upper before q c other)

look-made : (before after : Core) (q r c : ℕ) → IsMadeAs before q after r → KeepsNames before after after r
    → IsValidPage before.page → OnScreen q c → OnScreen r c → look after r c ≡ look before q c
look-made before after q r c made kept valid beneath on =
    let part : part_of (look_seen (looks_of after) (r - 1) c) ≡ part_at (parts_of after) (r - 1) c =
    part_of-seen after (r - 1) c (omega (arith, on)) in
    elim (cases_Bool (covers_below (part_at (parts_of after) (r - 1) c))) [
      | inl covered ↦
          look-covered before after q r c made beneath on (ap (λ p. covers_below p) part ∙ covered)
      | inr free ↦ look-free before after q r c made kept valid beneath on free
    ]

-- ---- rows that are not reached

-- the four cases fail
pub record IsUnreached (before after : Core) (strokes : List Stroke) (q r : ℕ) : Type 0 where
  pub free : is_written strokes r ≡ false
  pub attributes : has_other_attributes before q after r ≡ false
  pub names : is_redefined after strokes r ≡ false
  pub covers : is_covered_otherwise (looks_of before) q (looks_of after) r ≡ false

cases_fail : (before after : Core) (strokes : List Stroke) (q r : ℕ) (found : Option ℕ) → found ≡ Some q
    → is_reached_from before after strokes found r ≡ false → IsUnreached before after strokes q r
cases_fail before after strokes q r found from out =
    let here : is_reached_from before after strokes (Some q) r ≡ false =
    sym (ap (λ o. is_reached_from before after strokes o r) from) ∙ out in
    let a = or_parts (is_written strokes r || has_other_attributes before q after r || is_redefined after strokes r)
    (is_covered_otherwise (looks_of before) q (looks_of after) r) here in
    let b = or_parts (is_written strokes r || has_other_attributes before q after r) (is_redefined after strokes r) a.0 in
    let d = or_parts (is_written strokes r) (has_other_attributes before q after r) b.0 in
    record { free = d.0; attributes = d.1; names = b.1; covers = a.1 }

-- a row that is not reached came of a row of the screen
came_of : (before after : Core) (strokes : List Stroke) (r : ℕ) (found : Option ℕ)
    → is_reached_from before after strokes found r ≡ false → (q : ℕ) × (found ≡ Some q)
came_of before after strokes r None out = absurd (true≢false out)
came_of before after strokes r (Some q) out = (q, refl)

pub is_reached-by : (before after : Core) (strokes : List Stroke) (r : ℕ)
    → is_reached before after strokes r ≡ is_reached_from before after strokes (row_before strokes r) r
unfolding is_reached
is_reached-by before after strokes r = refl

pub row_before-unreached : (before after : Core) (strokes : List Stroke) (r : ℕ) → AllByRecursion IsValidStroke strokes
    → 1 ≤ r → r ≤ 24 → is_reached before after strokes r ≡ false → IsSomeAnd (row_before strokes r) IsRow
unfolding is_reached
row_before-unreached before after strokes r each low high out =
    let from = came_of before after strokes r (row_before strokes r) out in
    subst (λ o. IsSomeAnd o IsRow) (sym from.1) (row_before-on strokes r from.0 each low high from.1)

-- and has the looks that that row had
pub look-unreached : (before after : Core) (strokes : List Stroke) (q r c : ℕ) → LeadsTo before after strokes
    → OnScreen r c → row_before strokes r ≡ Some q → is_reached before after strokes r ≡ false
    → look after r c ≡ look before q c
unfolding is_reached
look-unreached before after strokes q r c leads on from out =
    let fail : IsUnreached before after strokes q r =
    cases_fail before after strokes q r (row_before strokes r) from out in
    let there : IsRow q = row_before-on strokes r q leads.each on.from_top on.to_bottom from in
    look-made before after q r c
    (made-as before after strokes q r leads on.from_top on.to_bottom from fail.free fail.attributes fail.covers)
    (names-kept before after after strokes r leads fail.names) leads.valid (assumption) on

-- ---- commands

-- the strokes of a valid command lead from a valid state to the next
pub LeadsTo-state_after : (s : State) (command : Command) → IsValidState s → IsValidCommand command
    → LeadsTo (core_of s) (core_of (state_after s command)) (strokes_of s.control command)
LeadsTo-state_after s command is valid = assumption (IsValidStroke-strokes_of s.control command is.control valid)

pub reaches-by : (s : State) (command : Command) (r : ℕ)
    → reaches s command r
    ≡ is_reached (core_of s) (core_of (state_after s command)) (strokes_of s.control command) r
unfolding reaches
reaches-by s command r = refl

pub look-not_reached : (s : State) (command : Command) (q r c : ℕ) → IsValidState s → IsValidCommand command
    → OnScreen r c → row_before (strokes_of s.control command) r ≡ Some q → reaches s command r ≡ false
    → look (core_of (state_after s command)) r c ≡ look (core_of s) q c
look-not_reached s command q r c is valid on from out =
    look-unreached (core_of s) (core_of (state_after s command)) (strokes_of s.control command) q r c
    (LeadsTo-state_after s command is valid) on from (sym (reaches-by s command r) ∙ out)

pub row_before-not_reached : (s : State) (command : Command) (r : ℕ) → IsValidState s → IsValidCommand command
    → 1 ≤ r → r ≤ 24 → reaches s command r ≡ false → IsSomeAnd (row_before (strokes_of s.control command) r) IsRow
row_before-not_reached s command r is valid low high out =
    row_before-unreached (core_of s) (core_of (state_after s command)) (strokes_of s.control command) r
    (LeadsTo-state_after s command is valid).each low high (sym (reaches-by s command r) ∙ out)

pub rows_in_reach-counted : (s : State) (command : Command)
    → rows_in_reach s command ≡ count_by (reaches s command) (range_with_len 1 24)
unfolding rows_in_reach
rows_in_reach-counted s command = refl

pub rows_in_reach-le : (s : State) (command : Command) → rows_in_reach s command ≤ 24
unfolding rows_in_reach
rows_in_reach-le s command =
    omega (arith, count_by-le-length (reaches s command) (range_with_len 1 24), length-range_with_len 1 24)
