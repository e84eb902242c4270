-- Looks in rows: cells to the right count for nothing, and in a row without markers a cell looks as it does by itself.
use Rattle.std.proofs.Common.{◌≡◌, ◌==◌, ℕ, zero, suc, ◌≤◌, nat_lt, ◌&&◌, ◌||◌, false, Option, Some, None, refl, ap, ◌∙◌, arith}
use Rattle.std.specs.Option.{option_or}
use Rattle.std.proofs.lemmas.Bool.{cond_both, true≢false}
use Rattle.cept_codes.specs.declared.attribute.Pen.{Pen}
use Rattle.cept_codes.specs.declared.attribute.Size.{Size}
use Rattle.cept_codes.specs.declared.attribute.Size.TheVariants as sizes
use Rattle.cept_codes.specs.declared.cell.Marker.TheVariants as markers
use Rattle.cept_codes.specs.declared.cell.What.{What}
use Rattle.cept_codes.specs.declared.cell.What.TheVariants as whats
use Rattle.cept_codes.specs.Attribute.{unset_pen}
use Rattle.cept_codes.specs.Table.{table}
use Rattle.cept_profile.specs.Attributes.{cascade, first_value}
use Rattle.cept_profile.specs.Definitions.{Definitions}
use Rattle.cept_profile.specs.Look.{attributes_of, is_double, is_double_set, look, look_in_row, look_of, look_with}
use Rattle.cept_profile.specs.Look.{looks_of, own_look, own_size, sets_double_size, shape_in}
use Rattle.cept_profile.specs.Look.{size_in_row}
use Rattle.cept_profile.specs.PageParts.{paint_in}
use Rattle.cept_profile.specs.Serial.{acting, acts_there, fore_at, held_sign, is_marker, marker_pen, nearest_said}
use Rattle.cept_profile.specs.Serial.{own_attributes, own_attributes_of, serial_attributes}
use Rattle.cept_profile.specs.RowsFromAbove.{look_of_origin}
use Rattle.cept_profile.specs.State.{Core}
use Rattle.cept_profile.proofs.MarkersInForce.{held_sign-alike, serial_attributes-alike, serial_attributes-unmarked}
use Rattle.cept_profile.specs.Edges.{edges_of_core, is_last}
use Rattle.cept_profile.specs.Tiling.{part_at, tiled_table}

-- rows that agree up to a column have the same look there
pub look_in_row-alike : (defined : Definitions) (f g : ℕ → What) (pen screen : Pen) (c : ℕ) → 1 ≤ c
    → ((d : ℕ) → 1 ≤ d → d ≤ c → f d ≡ g d) → look_in_row defined f pen screen c ≡ look_in_row defined g pen screen c
unfolding look_in_row
look_in_row-alike defined f g pen screen c low same =
    let here : f c ≡ g c = same c low (omega arith) in
    ap (λ w. look_with (paint_in defined.paints) (shape_in defined w (held_sign f c))
    (own_attributes_of w pen screen (serial_attributes f pen screen c))) here
    ∙ ap (λ o. look_with (paint_in defined.paints) (shape_in defined (g c) o)
    (own_attributes_of (g c) pen screen (serial_attributes f pen screen c)))
    (held_sign-alike f g c low same)
    ∙ ap (λ s. look_with (paint_in defined.paints) (shape_in defined (g c) (held_sign g c)) (own_attributes_of (g c) pen screen s))
    (serial_attributes-alike f g pen screen c low same)

-- and the same size
pub size_in_row-alike : (f g : ℕ → What) (pen screen : Pen) (c : ℕ) → 1 ≤ c → ((d : ℕ) → 1 ≤ d → d ≤ c → f d ≡ g d)
    → size_in_row f pen screen c ≡ size_in_row g pen screen c
unfolding size_in_row
size_in_row-alike f g pen screen c low same =
    ap (λ w. (own_attributes_of w pen screen (serial_attributes f pen screen c)).size) (same c low (omega arith))
    ∙ ap (λ s. (own_attributes_of (g c) pen screen s).size) (serial_attributes-alike f g pen screen c low same)

-- ---- rows without markers

-- a cell that is no marker holds no sign
plain-none : (row : ℕ → What) (c : ℕ) → is_marker (row c) ≡ false → held_sign row c ≡ None
plain-none row c plain = rw plain refl

own-plain : (pen screen : Pen) (w : What) → own_attributes_of w pen screen (cascade unset_pen pen screen)
    ≡ attributes_of pen screen w
own-plain pen screen (whats.Parallel g p) = refl
own-plain pen screen w = refl

-- in a row without markers up to a column the look there is that of the cell by itself
pub look_in_row-unmarked : (defined : Definitions) (row : ℕ → What) (pen screen : Pen) (c : ℕ) → 1 ≤ c
    → ((d : ℕ) → 1 ≤ d → d ≤ c → is_marker (row d) ≡ false)
    → look_in_row defined row pen screen c ≡ look_of defined pen screen (row c)
unfolding look_in_row look_of
look_in_row-unmarked defined row pen screen c low plain =
    let here : is_marker (row c) ≡ false = plain c low (omega arith) in
    ap (λ o. look_with (paint_in defined.paints) (shape_in defined (row c) o) (own_attributes row pen screen c))
    (plain-none row c here)
    ∙ ap (λ f. look_with (paint_in defined.paints) (shape_in defined (row c) None) (own_attributes_of (row c) pen screen f))
    (serial_attributes-unmarked row pen screen c low plain)
    ∙ ap (λ f. look_with (paint_in defined.paints) (shape_in defined (row c) None) f) (own-plain pen screen (row c))

-- ---- rows without sizes

-- a size that is not double is the single one
single-size : (size : Size) → is_double size ≡ false → size ≡ sizes.Normal
single-size sizes.Normal plain = refl
single-size size plain = absurd (true≢false plain)

-- so is the first of three that is set, where none that is set is double
single-first : (own pen screen : Option Size) → is_double_set own ≡ false → is_double_set pen ≡ false
    → is_double_set screen ≡ false → first_value own pen screen sizes.Normal ≡ sizes.Normal
single-first (Some size) pen screen here row all = single-size size here
single-first None (Some size) screen here row all = single-size size row
single-first None None (Some size) here row all = single-size size all
single-first None None None here row all = refl

-- what sets no size says none, or the single one
single-said : (fore : ℕ) (w : What) → sets_double_size w ≡ false → is_double_set (marker_pen fore w).size ≡ false
single-said fore (whats.Marker (markers.Size size)) plain = plain
single-said fore (whats.Marker m) plain = refl
single-said fore w plain = refl

single-either : (a b : Option Size) → is_double_set a ≡ false → is_double_set b ≡ false
    → is_double_set (option_or a b) ≡ false
single-either None b first second = second
single-either (Some size) b first second = first

-- so does what is said nearest among such
single-nearest : (says : ℕ → Option Size) (c : ℕ) → ((d : ℕ) → 1 ≤ d → d ≤ c → is_double_set (says d) ≡ false)
    → is_double_set (nearest_said says c) ≡ false
single-nearest says zero plain = refl
single-nearest says (suc c) plain =
    single-either (says (suc c)) (nearest_said says c) (plain (suc c) (omega arith) (omega arith))
    (single-nearest says c (λ d low high. plain d low (omega arith)))

serial-single : (row : ℕ → What) (pen screen : Pen) (c : ℕ) → ((d : ℕ) → 1 ≤ d → d ≤ c
    → sets_double_size (row d) ≡ false)
    → is_double_set pen.size ≡ false → is_double_set screen.size ≡ false
    → (serial_attributes row pen screen c).size ≡ sizes.Normal
unfolding serial_attributes
serial-single row pen screen c plain in_row on_screen =
    let says : ℕ → Option Size = λ d. (marker_pen (fore_at row pen screen d) (acting row c d)).size in
    single-first (nearest_said says c) pen.size screen.size
    (single-nearest says c (λ d low high.
    cond_both (nat_lt d c || (d == c && acts_there (row d))) (row d) whats.Blank
    (λ w. is_double_set (marker_pen (fore_at row pen screen d) w).size ≡ false)
    (λ acts. single-said (fore_at row pen screen d) (row d) (plain d low high)) (λ acts. refl)))
    in_row on_screen

own-single : (row : ℕ → What) (pen screen : Pen) (c : ℕ) (w : What) → sets_double_size w ≡ false
    → is_double_set pen.size ≡ false → is_double_set screen.size ≡ false
    → (serial_attributes row pen screen c).size ≡ sizes.Normal
    → (own_attributes_of w pen screen (serial_attributes row pen screen c)).size ≡ sizes.Normal
own-single row pen screen c (whats.Parallel g p) plain in_row on_screen serial =
    single-first p.size pen.size screen.size plain in_row on_screen
own-single row pen screen c w plain in_row on_screen serial = serial

-- where nothing up to a column, the row or the screen sets a size, what stands there is of single size
pub size_in_row-single : (row : ℕ → What) (pen screen : Pen) (c : ℕ) → 1 ≤ c
    → ((d : ℕ) → 1 ≤ d → d ≤ c → sets_double_size (row d) ≡ false) → is_double_set pen.size ≡ false
    → is_double_set screen.size ≡ false → size_in_row row pen screen c ≡ sizes.Normal
unfolding size_in_row
size_in_row-single row pen screen c low plain in_row on_screen =
    own-single row pen screen c (row c) (plain c low (omega arith)) in_row on_screen
    (serial-single row pen screen c plain in_row on_screen)

-- ---- cores

-- of a core the page and its edges are seen
pub looks_of-alike : (k m : Core) → k.page ≡ m.page → edges_of_core k ≡ edges_of_core m → looks_of k ≡ looks_of m
unfolding look
looks_of-alike k m page edges = λ i.
    let here : Core = record k { page = page i } in
    table (λ r c. look_of_origin (own_look here) r c (part_at (tiled_table (own_size here) (is_last (edges i))) r c))
