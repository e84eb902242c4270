-- Rows of single size beneath one that covers nothing: each place shows what stands in its own cell.
use Rattle.std.proofs.Common.{◌≡◌, ℕ, ◌<◌, ◌≤◌, ◌&&◌, ltb, Bool, true, false, not, cond, Option, Some, None, List}
use Rattle.std.proofs.Common.{zero, suc}
use Rattle.std.proofs.Common.{refl, sym, ap, ◌∙◌, arith}
use Rattle.std.proofs.lemmas.Bool.{cond_both}
use Rattle.cept_codes.specs.declared.attribute.Full.{Full}
use Rattle.cept_codes.specs.declared.attribute.Pen.{Pen}
use Rattle.cept_codes.specs.declared.attribute.Size.{Size}
use Rattle.cept_codes.specs.declared.attribute.Size.TheVariants as sizes
use Rattle.cept_codes.specs.declared.cell.Marker.TheVariants as markers
use Rattle.cept_codes.specs.declared.cell.What.{What}
use Rattle.cept_codes.specs.declared.cell.What.TheVariants as whats
use Rattle.cept_codes.specs.declared.look.Look.{Look}
use Rattle.cept_codes.specs.Attribute.{unset_pen}
use Rattle.cept_codes.specs.Look.{blank_look}
use Rattle.cept_profile.specs.Attributes.{cascade, first_value}
use Rattle.cept_profile.specs.Influence.{Influence, influence, influence_after, influence_in}
use Rattle.cept_profile.specs.Definitions.{Definitions}
use Rattle.cept_profile.specs.PageParts.{paint_in}
use Rattle.cept_profile.specs.Look.{attributes_of, is_double_set, look_in_row, look_of, sets_double_size, look_with}
use Rattle.cept_profile.specs.RowsFromAbove.{look_with_part}
use Rattle.cept_profile.specs.Look.{part_of}
use Rattle.cept_profile.specs.Look.{shape_in, size_in_row}
use Rattle.cept_profile.specs.RowsFromAbove.{look_by, look_from}
use Rattle.cept_profile.specs.Serial.{acts_there, held_sign, is_marker, own_attributes_of, row_in, serial_attributes}
use Rattle.cept_profile.specs.Tiling.{column_entry, covers_below, covers_right, is_covered_from_left, is_high}
use Rattle.cept_profile.specs.Tiling.{is_wide, origin_part, single_part}
use Rattle.cept_profile.proofs.Laws.{influence-start, influence-suc, serial_attributes-suc, in_plain, unmarked}
use Rattle.cept_rows.specs.declared.small_look.SmallLook.{SmallLook}
use Rattle.cept_rows.specs.SmallLooks.{small_of}
use Rattle.cept_rows.specs.Source.{Source, own_look, own_size, place_made}
use Rattle.cept_rows.proofs.RowsByPart.{look_from-0}

-- without markers the attributes are those of the row and the screen
attributes_alone : (row : ℕ → What) (pen screen : Pen) (c : ℕ) → 1 ≤ c
    → ((d : ℕ) → 1 ≤ d → d ≤ c → is_marker (row d) ≡ false)
    → serial_attributes row pen screen c ≡ cascade unset_pen pen screen
attributes_alone row pen screen zero low plain = absurd (omega arith)
attributes_alone row pen screen (suc c) low plain =
    serial_attributes-suc row pen screen c
    ∙ in_plain (row (suc c)) (influence row pen screen c) (plain (suc c) low (omega arith))
    ∙ unmarked row pen screen c (λ d from to. plain d from (omega arith))

-- what is no marker is drawn as itself
pub shape_alone : (defined : Definitions) (w : What) (held : Option _) → is_marker w ≡ false
    → shape_in defined w held ≡ shape_in defined w None
shape_alone defined (whats.Marker m) held plain = cc
shape_alone defined whats.Blank held plain = refl
shape_alone defined (whats.Serial g) held plain = refl
shape_alone defined (whats.Parallel g pen) held plain = refl

-- a look by itself is of single height
pub low_alone : (s : SmallLook) (defined : Definitions) (row screen : Pen) (w : What)
    → s ≡ small_of (look_of defined row screen w) → covers_below s.part ≡ false
unfolding look_of
low_alone s defined row screen w e = ap (λ x. covers_below x.part) e

own_alone : (row screen : Pen) (w : What)
    → own_attributes_of w row screen (cascade unset_pen row screen) ≡ attributes_of row screen w
own_alone row screen whats.Blank = refl
own_alone row screen (whats.Serial g) = refl
own_alone row screen (whats.Parallel g pen) = refl
own_alone row screen (whats.Marker m) = refl

-- the look of what stands in a cell by itself
pub look_of_itself : (defined : Definitions) (row screen : Pen) (w : What)
    → look_with (paint_in defined.paints) (shape_in defined w None)
    (own_attributes_of w row screen (cascade unset_pen row screen))
    ≡ look_of defined row screen w
unfolding look_of
look_of_itself defined row screen w =
    ap (look_with (paint_in defined.paints) (shape_in defined w None)) (own_alone row screen w)

-- the look of a cell of such a row
pub look_alone : (defined : Definitions) (row : ℕ → What) (pen screen : Pen) (c : ℕ) → 1 ≤ c
    → ((d : ℕ) → 1 ≤ d → d ≤ c → is_marker (row d) ≡ false)
    → look_with (paint_in defined.paints) (shape_in defined (row c) None)
    (own_attributes_of (row c) pen screen (cascade unset_pen pen screen))
    ≡ look_in_row defined row pen screen c
unfolding look_in_row
look_alone defined row pen screen c low plain =
    ap (λ s. look_with (paint_in defined.paints) s (own_attributes_of (row c) pen screen
    (cascade unset_pen pen screen)))
    (sym (shape_alone defined (row c) (held_sign row c) (plain c low (omega arith))))
    ∙ ap (λ f. look_with (paint_in defined.paints) (shape_in defined (row c) (held_sign row c)) (own_attributes_of
    (row c)
    pen screen f))
    (sym (attributes_alone row pen screen c low plain))

-- ---- sizes

-- what sets no size leaves the single one in force after it, and in its own cell
single_after : (w : What) (s : Influence) → sets_double_size w ≡ false → s.full.size ≡ sizes.Normal
    → (influence_after w s).full.size ≡ sizes.Normal
single_after (whats.Marker (markers.Size sizes.Normal)) s sets e = refl
single_after (whats.Marker (markers.Size sizes.High)) s sets e = cc
single_after (whats.Marker (markers.Size sizes.Wide)) s sets e = cc
single_after (whats.Marker (markers.Size sizes.Both)) s sets e = cc
single_after (whats.Marker (markers.Alpha i)) s sets e = e
single_after (whats.Marker (markers.Mosaic i)) s sets e = e
single_after (whats.Marker markers.BlackBack) s sets e = e
single_after (whats.Marker markers.NewBack) s sets e = e
single_after (whats.Marker markers.Hold) s sets e = e
single_after (whats.Marker markers.Release) s sets e = e
single_after (whats.Marker (markers.Flash f)) s sets e = e
single_after (whats.Marker (markers.Conceal b)) s sets e = e
single_after (whats.Marker (markers.Lined b)) s sets e = e
single_after (whats.Marker (markers.Boxed b)) s sets e = e
single_after whats.Blank s sets e = e
single_after (whats.Serial g) s sets e = e
single_after (whats.Parallel g p) s sets e = e

single_in : (w : What) (s : Influence) → sets_double_size w ≡ false → s.full.size ≡ sizes.Normal
    → (influence_in w s).full.size ≡ sizes.Normal
single_in w s sets e =
    cond_both (acts_there w) (influence_after w s) s (λ t. t.full.size ≡ sizes.Normal) (λ acts. single_after w s sets e)
    (λ acts. e)

-- in a row that sets none it is carried everywhere, and in force everywhere
single_carried : (row : ℕ → What) (pen screen : Pen) (c : ℕ) → ((d : ℕ) → 1 ≤ d → d ≤ c
    → sets_double_size (row d) ≡ false)
    → (cascade unset_pen pen screen).size ≡ sizes.Normal → (influence row pen screen c).full.size ≡ sizes.Normal
single_carried row pen screen zero plain e = ap (λ (s : Influence). s.full.size) (sym (influence-start row pen screen)) ∙ e
single_carried row pen screen (suc c) plain e =
    rw (influence-suc row pen screen c)
    (single_after (row (suc c)) (influence row pen screen c) (plain (suc c) (omega arith) (omega arith))
    (single_carried row pen screen c (λ d low high. plain d low (omega arith)) e))

single_serial : (row : ℕ → What) (pen screen : Pen) (c : ℕ) → 1 ≤ c → ((d : ℕ) → 1 ≤ d → d ≤ c
    → sets_double_size (row d) ≡ false)
    → (cascade unset_pen pen screen).size ≡ sizes.Normal → (serial_attributes row pen screen c).size ≡ sizes.Normal
single_serial row pen screen zero low plain e = absurd (omega arith)
single_serial row pen screen (suc c) low plain e =
    rw (serial_attributes-suc row pen screen c)
    (single_in (row (suc c)) (influence row pen screen c) (plain (suc c) low (omega arith))
    (single_carried row pen screen c (λ d from to. plain d from (omega arith)) e))

-- a pen that sets none
size_first : (s pen screen : Option Size) → is_double_set s ≡ false
    → first_value None pen screen sizes.Normal ≡ sizes.Normal → first_value s pen screen sizes.Normal ≡ sizes.Normal
size_first None pen screen single e = e
size_first (Some sizes.Normal) pen screen single e = refl
size_first (Some sizes.High) pen screen single e = cc
size_first (Some sizes.Wide) pen screen single e = cc
size_first (Some sizes.Both) pen screen single e = cc

-- what stands in a cell that sets none
size_of_cell : (w : What) (pen screen : Pen) (f : Full) → sets_double_size w ≡ false
    → (cascade unset_pen pen screen).size ≡ sizes.Normal → f.size ≡ sizes.Normal
    → (own_attributes_of w pen screen f).size ≡ sizes.Normal
size_of_cell whats.Blank pen screen f sets e g = g
size_of_cell (whats.Serial sign) pen screen f sets e g = g
size_of_cell (whats.Parallel sign p) pen screen f sets e g = size_first p.size pen.size screen.size sets e
size_of_cell (whats.Marker m) pen screen f sets e g = g

-- the size of each cell of such a row
size_alone : (row : ℕ → What) (pen screen : Pen) (c : ℕ) → 1 ≤ c
    → ((d : ℕ) → 1 ≤ d → d ≤ c → sets_double_size (row d) ≡ false) → (cascade unset_pen pen screen).size ≡ sizes.Normal
    → size_in_row row pen screen c ≡ sizes.Normal
unfolding size_in_row
size_alone row pen screen c low plain e =
    size_of_cell (row c) pen screen (serial_attributes row pen screen c) (plain c low (omega arith)) e
    (single_serial row pen screen c low plain e)

-- ---- rows

-- tests of which one fails
and_false : (p q : Bool) → q ≡ false → (p && q) ≡ false
and_false true q e = e
and_false false q e = refl

-- neither above nor left nor double
alone_tests : (x y wide high : Bool) (a l own : Look) → x ≡ false → y ≡ false → wide ≡ false → high ≡ false
    → part_of own ≡ single_part
    → cond x a (cond y l (look_with_part (origin_part wide high) own)) ≡ own
alone_tests true y wide high a l own ex ey ew eh single = cc
alone_tests false true wide high a l own ex ey ew eh single = cc
alone_tests false false true high a l own ex ey ew eh single = cc
alone_tests false false false true a l own ex ey ew eh single = cc
alone_tests false false false false a l own ex ey ew eh single = ap (λ p. look_with_part p own) (sym single)

-- a place that nothing covers, and that wants the single size
look_by-alone : (a al ar l own : Look) (size : Size) (last : Bool) (c : ℕ) → covers_below (part_of a) ≡ false
    → covers_right (part_of l) ≡ false → size ≡ sizes.Normal → part_of own ≡ single_part
    → look_by a al ar l own size last c ≡ own
look_by-alone a al ar l own size last c above left normal single =
    alone_tests (covers_below (part_of a)) (is_covered_from_left (part_of al) (part_of l))
    (is_wide size && ltb c 40 && not (covers_below (part_of ar))) (is_high size && not last)
    (look_with_part (record (part_of a) { dy = 1 }) a) (look_with_part (record (part_of l) { dy = 0; dx = 1 }) l) own above
    (and_false (not (covers_below (part_of al))) (covers_right (part_of l)) left)
    (ap (λ s. is_wide s && ltb c 40 && not (covers_below (part_of ar))) normal) (ap (λ s. is_high s && not last) normal)
    single

-- what stands in a cell is of single size by itself
pub single_look : (defined : Definitions) (row : ℕ → What) (pen screen : Pen) (c : ℕ) → part_of
    (look_in_row defined row pen screen c) ≡ single_part
unfolding look_in_row
single_look defined row pen screen c = refl

-- one column more
look_from-suc : (above own : ℕ → Look) (wanted : ℕ → Size) (last : Bool) (c : ℕ)
    → look_from above own wanted last (suc c)
    ≡ look_by (above (suc c)) (above c) (above (suc (suc c))) (look_from above own wanted last c) (own (suc c))
    (wanted (suc c)) last (suc c)
unfolding look_from
look_from-suc above own wanted last c = refl

-- each column up to the last of single size shows its own
look_from-alone : (above own : ℕ → Look) (wanted : ℕ → Size) (last : Bool) (n : ℕ) → ((c : ℕ)
    → covers_below (part_of (above c)) ≡ false)
    → ((c : ℕ) → part_of (own c) ≡ single_part) → ((c : ℕ) → 1 ≤ c → c ≤ n → wanted c ≡ sizes.Normal) → (c : ℕ)
    → suc c ≤ n → look_from above own wanted last (suc c) ≡ own (suc c)
look_from-alone above own wanted last n uncovered single normal zero high =
    look_from-suc above own wanted last 0
    ∙ look_by-alone (above 1) (above 0) (above 2) (look_from above own wanted last 0) (own 1) (wanted 1) last 1
    (uncovered 1)
    (ap (λ l. covers_right (part_of l)) (look_from-0 above own wanted last)) (normal 1 (omega arith) high) (single 1)
look_from-alone above own wanted last n uncovered single normal (suc c) high =
    look_from-suc above own wanted last (suc c)
    ∙ look_by-alone (above (suc (suc c))) (above (suc c)) (above (suc (suc (suc c)))) (look_from above own wanted last
    (suc c))
    (own (suc (suc c))) (wanted (suc (suc c))) last (suc (suc c)) (uncovered (suc (suc c)))
    (ap (λ l. covers_right (part_of l)) (look_from-alone above own wanted last n uncovered single normal c (omega arith))
    ∙ ap covers_right (single (suc c)))
    (normal (suc (suc c)) (omega arith) high) (single (suc (suc c)))

-- the columns before one in which another size may stand
pub shown_alone : (source : Source) (above : List Look) (n : ℕ)
    → ((c : ℕ) → covers_below (part_of (column_entry blank_look above c)) ≡ false)
    → ((d : ℕ) → 1 ≤ d → d < n → sets_double_size (row_in source.cells d) ≡ false)
    → (cascade unset_pen source.row_pen source.screen_pen).size ≡ sizes.Normal → (c : ℕ) → 1 ≤ c → c < n
    → own_look source c ≡ place_made source above c
shown_alone source above n uncovered plain e zero low below = absurd (omega arith)
shown_alone source above n uncovered plain e (suc c) low below =
    let row : ℕ → What = row_in source.cells in
    sym (look_from-alone (column_entry blank_look above) (own_look source) (own_size source) source.last (suc c)
    uncovered (single_look source.defined row source.row_pen source.screen_pen)
    (λ d from to. size_alone row source.row_pen source.screen_pen d from (λ b first upto. plain b first (omega arith)) e) c
    (omega arith))
