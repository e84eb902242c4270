-- Rows that are made alike under the same covers: they have the same parts, and what they show of their own cells and of
-- the row above depends on the same origins.
use Rattle.std.proofs.Common.{◌≡◌, ℕ, ◌+◌, ◌-◌, ◌≤◌, cond, not, ◌&&◌, ◌==◌, inl, inr, zero, suc, Bool, true, false}
use Rattle.std.proofs.Common.{Option, Some, None, refl, sym, ◌∙◌, ap, subst, arith, rules}
use Rattle.std.specs.Prelude.{IsTrue, is_none, is_some, nat_lt, option_map}
use Rattle.std.proofs.lemmas.Bool.{and_parts, cases_Bool, eqb-true}
use Rattle.cept_codes.specs.declared.attribute.Full.{Full}
use Rattle.cept_codes.specs.declared.attribute.Pen.{Pen}
use Rattle.cept_codes.specs.declared.attribute.Size.{Size}
use Rattle.cept_codes.specs.declared.cell.What.{What}
use Rattle.cept_codes.specs.declared.look.Look.{Look}
use Rattle.cept_codes.specs.declared.look.Part.{Part}
use Rattle.cept_codes.specs.Look.{blank_look}
use Rattle.cept_codes.specs.Place.{OnScreen}
use Rattle.cept_codes.proofs.Laws.{IsTable-table}
use Rattle.cept_profile.specs.Edges.{edges_of_core, is_last}
use Rattle.cept_profile.specs.Look.{contents_of_row, look, looks_of, own_size, part_of}
use Rattle.cept_profile.specs.Look.{parts_of, size_in_row}
use Rattle.cept_profile.specs.Names.{at_origin, contents_at_origin, full_attributes, names_at, own_attributes_in}
use Rattle.cept_profile.specs.Names.{names_with}
use Rattle.cept_profile.specs.PageParts.{row_pen_in}
use Rattle.cept_profile.specs.RowsFromAbove.{covering, look_seen}
use Rattle.cept_profile.specs.Serial.{own_attributes, own_attributes_of, serial_attributes}
use Rattle.cept_profile.specs.State.{Core}
use Rattle.cept_profile.specs.Tiling.{covers_below, covers_right, is_high, is_wide, origin_part}
use Rattle.cept_profile.specs.Tiling.{part_at, part_by, single_part}
use Rattle.cept_profile.proofs.ColumnEntries.{entry_off, off_or_on}
use Rattle.cept_profile.proofs.LooksFromAbove.{look-seen, origin-on_screen, part_of-look, tiled_parts}
use Rattle.cept_profile.proofs.LooksOfOrigins.{part_at-by, upper_at}
use Rattle.cept_profile.proofs.MarkersInForce.{serial_attributes-alike}

-- row r of the core after is made as row q of the core before: of the same contents, with the same attributes, last as
-- that or not, and covered from above by the same looks
pub record IsMadeAs (before : Core) (q : ℕ) (after : Core) (r : ℕ) : Type 0 where
  pub contents : (c : ℕ) → 1 ≤ c → c ≤ 40 → contents_of_row after r c ≡ contents_of_row before q c
  pub pen : row_pen_in after.page.row_pens r ≡ row_pen_in before.page.row_pens q
  pub screen : after.page.screen_pen ≡ before.page.screen_pen
  pub last : is_last (edges_of_core after) r ≡ is_last (edges_of_core before) q
  pub covers : (c : ℕ) → covering (look_seen (looks_of after) (r - 1) c) ≡ covering (look_seen (looks_of before) (q - 1) c)

-- ---- own attributes

own_attributes-alike : (f g : ℕ → What) (pen screen : Pen) (c : ℕ) → 1 ≤ c → ((d : ℕ) → 1 ≤ d → d ≤ c → f d ≡ g d)
    → own_attributes f pen screen c ≡ own_attributes g pen screen c
own_attributes-alike f g pen screen c low same =
    ap (λ w. own_attributes_of w pen screen (serial_attributes f pen screen c)) (same c low (omega arith))
    ∙ ap (λ s. own_attributes_of (g c) pen screen s) (serial_attributes-alike f g pen screen c low same)

pub own_attributes-made : (before after : Core) (q r : ℕ) → IsMadeAs before q after r → (c : ℕ) → 1 ≤ c → c ≤ 40
    → own_attributes_in after r c ≡ own_attributes_in before q c
own_attributes-made before after q r made c low high =
    own_attributes-alike (contents_of_row after r) (contents_of_row before q) (row_pen_in after.page.row_pens r)
    after.page.screen_pen c low (λ d from to. made.contents d from (omega arith))
    ∙ (λ i. own_attributes (contents_of_row before q) (made.pen i) (made.screen i) c)

own_size-made : (before after : Core) (q r : ℕ) → IsMadeAs before q after r → (c : ℕ) → 1 ≤ c → c ≤ 40
    → own_size after r c ≡ own_size before q c
unfolding size_in_row
own_size-made before after q r made c low high =
    ap (λ (f : Full). f.size) (own_attributes-made before after q r made c low high)

-- ---- parts under the same covers

-- the part, where it covers the place below it
abbrev cover : Part → Option Part
cover p = cond (covers_below p) (Some p) None

-- the part of a place by what covers it and its neighbours from above, and by the part left of it
by_covers : Option Part → Option Part → Option Part → Part → Size → Bool → ℕ → Part
by_covers (Some a) beside over left size last c = record a { dy = 1 }
by_covers None beside over left size last c =
    cond (is_none beside && covers_right left) (record left { dy = 0; dx = 1 })
    (origin_part (is_wide size && nat_lt c 40 && is_none over) (is_high size && not last))

by_tests : (ba bl br : Bool) (a al ar left : Part) (size : Size) (last : Bool) (c : ℕ)
    → cond ba (record a { dy = 1 })
    (cond (not bl && covers_right left) (record left { dy = 0; dx = 1 })
    (origin_part (is_wide size && nat_lt c 40 && not br) (is_high size && not last)))
    ≡ by_covers (cond ba (Some a) None) (cond bl (Some al) None) (cond br (Some ar) None) left size last c
unfolding by_covers
by_tests true bl br a al ar left size last c = refl
by_tests false true true a al ar left size last c = refl
by_tests false true false a al ar left size last c = refl
by_tests false false true a al ar left size last c = refl
by_tests false false false a al ar left size last c = refl

part_by-alike : (a al ar left b bl br other : Part) (size size_other : Size) (last last_other : Bool) (c : ℕ)
    → cover a ≡ cover b → cover al ≡ cover bl → cover ar ≡ cover br → left ≡ other → size ≡ size_other
    → last ≡ last_other → part_by a al ar left size last c ≡ part_by b bl br other size_other last_other c
part_by-alike a al ar left b bl br other size size_other last last_other c above beside over before wanted ends =
    by_tests (covers_below a) (covers_below al) (covers_below ar) a al ar left size last c
    ∙ (λ i. by_covers (above i) (beside i) (over i) (before i) (wanted i) (ends i) c)
    ∙ sym (by_tests (covers_below b) (covers_below bl) (covers_below br) b bl br other size_other last_other c)

-- the part of a look that is seen is that of its place, off the screen too
pub part_of-seen : (k : Core) (r c : ℕ) → r ≤ 24 → part_of (look_seen (looks_of k) r c) ≡ part_at (parts_of k) r c
part_of-seen k r c high =
    elim (off_or_on r c high) [
      | inl off ↦
          ap (λ l. part_of l) (entry_off blank_look (looks_of k) r c (IsTable-table (look k)) high off)
          ∙ sym (entry_off single_part (parts_of k) r c (tiled_parts k).table high off)
      | inr on ↦ ap (λ l. part_of l) (look-seen k r c on) ∙ part_of-look k r c
    ]

cover-of_look : (b : Bool) (l : Look) → cond b (Some (part_of l)) None ≡ option_map (λ m. part_of m) (cond b (Some l) None)
cover-of_look true l = refl
cover-of_look false l = refl

cover-seen : (k : Core) (r c : ℕ) → r ≤ 24
    → cover (part_at (parts_of k) r c) ≡ option_map (λ m. part_of m) (covering (look_seen (looks_of k) r c))
cover-seen k r c high =
    ap (λ p. cover p) (sym (part_of-seen k r c high))
    ∙ cover-of_look (covers_below (part_of (look_seen (looks_of k) r c))) (look_seen (looks_of k) r c)

cover-made : (before after : Core) (q r : ℕ) → IsMadeAs before q after r → q ≤ 24 → r ≤ 24 → (c : ℕ)
    → cover (part_at (parts_of after) (r - 1) c) ≡ cover (part_at (parts_of before) (q - 1) c)
cover-made before after q r made from to c =
    cover-seen after (r - 1) c (omega arith)
    ∙ ap (option_map (λ m. part_of m)) (made.covers c)
    ∙ sym (cover-seen before (q - 1) c (omega arith))

-- rows that are made alike have the same parts
pub part_at-made : (before after : Core) (q r : ℕ) → IsMadeAs before q after r → 1 ≤ q → q ≤ 24 → 1 ≤ r → r ≤ 24 → (c : ℕ)
    → c ≤ 40 → part_at (parts_of after) r c ≡ part_at (parts_of before) q c
part_at-made before after q r made from to low high zero right = refl
part_at-made before after q r made from to low high (suc c) right =
    let back : suc c - 1 ≡ c = omega arith in
    let earlier : part_at (parts_of after) r (suc c - 1) ≡ part_at (parts_of before) q (suc c - 1) =
    subst (λ d. part_at (parts_of after) r d ≡ part_at (parts_of before) q d) (sym back)
    (part_at-made before after q r made from to low high c (omega arith)) in
    part_at-by (tiled_parts after) r (suc c) (search rules)
    ∙ part_by-alike (part_at (parts_of after) (r - 1) (suc c)) (part_at (parts_of after) (r - 1) (suc c - 1))
    (part_at (parts_of after) (r - 1) (suc c + 1)) (part_at (parts_of after) r (suc c - 1))
    (part_at (parts_of before) (q - 1) (suc c)) (part_at (parts_of before) (q - 1) (suc c - 1))
    (part_at (parts_of before) (q - 1) (suc c + 1)) (part_at (parts_of before) q (suc c - 1))
    (own_size after r (suc c)) (own_size before q (suc c)) (is_last (edges_of_core after) r) (is_last (edges_of_core before) q) (suc c)
    (cover-made before after q r made to high (suc c)) (cover-made before after q r made to high (suc c - 1))
    (cover-made before after q r made to high (suc c + 1)) earlier
    (own_size-made before after q r made (suc c) (omega arith) right) made.last
    ∙ sym (part_at-by (tiled_parts before) q (suc c) (search rules))

-- ---- what is at the origins

-- a place that nothing covers from above shows the upper part of a sign
pub upper_part_at : (k : Core) (r c : ℕ) → OnScreen r c → covers_below (part_at (parts_of k) (r - 1) c) ≡ false
    → (part_at (parts_of k) r c).dy ≡ 0
upper_part_at k r c on free = upper_at (tiled_parts k) r c on.from_top on.to_bottom on.to_right free

-- of an upper part the origin is in its own row
pub at_origin-upper : {X : Type 0} (own : ℕ → ℕ → X) (r c : ℕ) (p : Part) → p.dy ≡ 0
    → at_origin own r c p ≡ own r (c - p.dx)
at_origin-upper own r c p upper =
    let same : r - p.dy ≡ r = omega (arith, upper) in
    ap (λ (k : ℕ). own k (c - p.dx)) same

-- of a lower part it is that of the part above
at_origin-below : {X : Type 0} (own : ℕ → ℕ → X) (r c : ℕ) (p u : Part) → p ≡ record u { dy = 1 } → u.dy ≡ 0
    → at_origin own r c p ≡ at_origin own (r - 1) c u
at_origin-below own r c p u same upper =
    let up : r - 1 ≡ r - 1 - u.dy = omega (arith, upper) in
    ap (at_origin own r c) same ∙ ap (λ (k : ℕ). own k (c - u.dx)) up

pub covered_part : (k : Core) (r c : ℕ) → OnScreen r c → covers_below (part_at (parts_of k) (r - 1) c) ≡ true
    → part_at (parts_of k) r c ≡ record (part_at (parts_of k) (r - 1) c) { dy = 1 }
covered_part k r c on covered = ((tiled_parts k).places r c on).from_above covered

-- where a place is covered from above it names what the place above it names
pub names_at-below : (k : Core) (r c : ℕ) → OnScreen r c → covers_below (part_at (parts_of k) (r - 1) c) ≡ true
    → names_at k r c ≡ names_at k (r - 1) c
unfolding full_attributes contents_at_origin
names_at-below k r c on covered =
    let u : Part = part_at (parts_of k) (r - 1) c in
    let upper : u.dy ≡ 0 = eqb-true u.dy 0 (and_parts (u.dy == 0) (u.h == 2) covered).0 in
    let part : part_at (parts_of k) r c ≡ record u { dy = 1 } = covered_part k r c on covered in
    let attributes : at_origin (own_attributes_in k) r c (part_at (parts_of k) r c)
    ≡ at_origin (own_attributes_in k) (r - 1) c u =
    at_origin-below (own_attributes_in k) r c (part_at (parts_of k) r c) u part upper in
    let contents : at_origin (contents_of_row k) r c (part_at (parts_of k) r c)
    ≡ at_origin (contents_of_row k) (r - 1) c u =
    at_origin-below (contents_of_row k) r c (part_at (parts_of k) r c) u part upper in
    λ i. names_with (attributes i) (contents i)

-- what covers by its part does so in both
covers-by : (p u : Part) → cover p ≡ cover u → covers_below p ≡ covers_below u
covers-by p u same = sym (is_cover p) ∙ ap (λ o. is_some o) same ∙ is_cover u
  where
    tells : (b : Bool) (p : Part) → is_some (cond b (Some p) None) ≡ b
    tells true p = refl
    tells false p = refl

    is_cover : (p : Part) → is_some (cover p) ≡ covers_below p
    is_cover p = tells (covers_below p) p

-- the column of the origin of an upper part is on the screen
pub origin_column : (k : Core) (r c : ℕ) → OnScreen r c
    → (1 ≤ c - (part_at (parts_of k) r c).dx) × (c - (part_at (parts_of k) r c).dx ≤ 40)
origin_column k r c on =
    let there = origin-on_screen k (parts_of k) r c (tiled_parts k) on in
    (there.from_left, there.to_right)

-- rows that are made alike name the same where the names above stay
pub names_at-made : (before after : Core) (q r : ℕ) → IsMadeAs before q after r → 1 ≤ q → q ≤ 24 → (c : ℕ)
    → OnScreen r c → (IsTrue (covers_below (part_at (parts_of after) (r - 1) c))
    → names_at after (r - 1) c ≡ names_at before (q - 1) c)
    → names_at after r c ≡ names_at before q c
unfolding full_attributes contents_at_origin
names_at-made before after q r made from to c on above =
    let beneath : OnScreen q c = assumption in
    let covers : covers_below (part_at (parts_of after) (r - 1) c) ≡ covers_below (part_at (parts_of before) (q - 1) c) =
    covers-by (part_at (parts_of after) (r - 1) c) (part_at (parts_of before) (q - 1) c)
    (cover-made before after q r made to on.to_bottom c) in
    elim (cases_Bool (covers_below (part_at (parts_of after) (r - 1) c))) [
      | inl covered ↦
          names_at-below after r c on covered ∙ above covered
          ∙ sym (names_at-below before q c beneath (sym covers ∙ covered))
      | inr free ↦
          let p : Part = part_at (parts_of after) r c in
          let u : Part = part_at (parts_of before) q c in
          let same : p ≡ u =
          part_at-made before after q r made from to on.from_top on.to_bottom c on.to_right in
          let upper : p.dy ≡ 0 = upper_part_at after r c on free in
          let other_upper : u.dy ≡ 0 = upper_part_at before q c beneath (sym covers ∙ free) in
          let column = origin_column after r c on in
          let attributes : at_origin (own_attributes_in after) r c p ≡ at_origin (own_attributes_in before) q c u =
          at_origin-upper (own_attributes_in after) r c p upper
          ∙ own_attributes-made before after q r made (c - p.dx) column.0 column.1
          ∙ ap (λ (o : Part). own_attributes_in before q (c - o.dx)) same
          ∙ sym (at_origin-upper (own_attributes_in before) q c u other_upper) in
          let contents : at_origin (contents_of_row after) r c p ≡ at_origin (contents_of_row before) q c u =
          at_origin-upper (contents_of_row after) r c p upper
          ∙ made.contents (c - p.dx) column.0 column.1
          ∙ ap (λ (o : Part). contents_of_row before q (c - o.dx)) same
          ∙ sym (at_origin-upper (contents_of_row before) q c u other_upper) in
          λ i. names_with (attributes i) (contents i)
    ]
