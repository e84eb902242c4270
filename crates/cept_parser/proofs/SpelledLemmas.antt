-- Each spelling is a whole unit that says its command, and grows only where it is a header of colours. Patterns have
-- lemmas of their own.
use Rattle.std.proofs.Common.{◌≡◌, ℕ, ◌+◌, ◌-◌, ◌*◌, ◌/◌, ◌%◌, ◌≤◌, Bool, true, false, cond, eqb, ltb, leb}
use Rattle.std.proofs.Common.{refl, sym, subst, arith, inl, inr, ◌⊎◌, IsTrue}
use Rattle.std.proofs.lemmas.Bool.{cases_Bool, eqb-true, le-leb}
use Rattle.std.proofs.lemmas.Bool.Decides.{nat_tests}
use Rattle.cept_codes.specs.declared.command.Command.{Command}
use Rattle.cept_codes.specs.declared.command.Command.TheVariants as command
use Rattle.cept_codes.specs.declared.command.C1Set.{C1Set}
use Rattle.cept_codes.specs.declared.command.C1Set.TheVariants as c1_set
use Rattle.cept_codes.specs.declared.command.Form.{Form}
use Rattle.cept_codes.specs.declared.glyph.SetId.{SetId}
use Rattle.cept_codes.specs.declared.glyph.SetId.TheVariants.{P, S, M, N, D}
use Rattle.cept_codes.specs.declared.item.Said.TheVariants.{Command as Says}
use Rattle.cept_codes.specs.declared.look.Rgb.{Rgb}
use Rattle.cept_codes.specs.Command.{IsArea, IsC1, IsScreenC1, IsValidForm}
use Rattle.cept_codes.specs.Look.{IsValidRgb, is_pattern_size, is_plane_count}
use Rattle.cept_codes.specs.Place.{OnScreen}
use Rattle.cept_parser.specs.declared.context.ColourKind.{ColourKind}
use Rattle.cept_parser.specs.declared.context.ColourKind.TheVariants.{ColourTable, LookUpTable}
use Rattle.cept_parser.specs.declared.context.Context.{Context}
use Rattle.cept_parser.specs.declared.context.Mode.TheVariants.{Text, TableRun, DclutRun}
use Rattle.cept_parser.specs.declared.fit.Fit.TheVariants.{Whole, Longer}
use Rattle.cept_parser.specs.Bytes.{is_plain, is_digit, two_digits}
use Rattle.cept_parser.specs.Controls.{one_byte}
use Rattle.cept_parser.specs.Csi.{csi, area}
use Rattle.cept_parser.specs.Escape.{escape}
use Rattle.cept_parser.specs.Grammar.{standing, csi_unit, repetition}
use Rattle.cept_parser.specs.Runs.{bit, colour, table_entry}
use Rattle.cept_parser.specs.Spelling.{spelling, context_after, may_grow, tens_byte, ones_byte, colour_byte}
use Rattle.cept_parser.specs.Units.{us_unit, us_position, drcs_unit, drcs_header, drcs_form, colour_unit}
use Rattle.cept_parser.specs.Units.{colour_header, colour_start, last_place, format, service_unit}

-- the spelling of a command is a whole unit that says it, and may grow or not as said
abbrev pub Stands : Context → Command → Type 0
Stands x c = standing x (spelling c)
    ≡ record { fit = cond (may_grow c) Longer Whole; outcome = record { said = Says c; next = context_after x c } }

-- ---- cells, rows and the screen

pub table_spelled : (x : Context) (k : ℕ) → k ≤ 3 → Stands x (command.Table k)
unfolding csi_unit csi spelling context_after
table_spelled x k h = grind (arith, nat_tests)

pub c1_spelled : (x : Context) (n : ℕ) → IsC1 n → Stands x (command.C1 n)
unfolding one_byte spelling context_after
c1_spelled x n h = let l = h.0 in let m = h.1 in grind (arith, nat_tests)

pub flash_spelled : (x : Context) (k : ℕ) → k ≤ 6 → Stands x (command.FlashMode k)
unfolding csi_unit csi spelling context_after
flash_spelled x k h = grind (arith, nat_tests)

pub screen_spelled : (x : Context) (n : ℕ) → IsScreenC1 n → Stands x (command.FullScreen n)
unfolding escape spelling context_after
screen_spelled x n h = let l = h.0.0 in let m = h.0.1 in let o = h.1 in grind (arith, nat_tests)

pub row_spelled : (x : Context) (n : ℕ) → IsC1 n → Stands x (command.FullRow n)
unfolding escape spelling context_after
row_spelled x n h = let l = h.0 in let m = h.1 in grind (arith, nat_tests)

pub position_spelled : (x : Context) (r c : ℕ) → OnScreen r c → Stands x (command.Position r c)
unfolding us_unit us_position spelling context_after
position_spelled x r c h =
    let a = h.from_top in
    let b = h.to_bottom in
    let d = h.from_left in
    let e = h.to_right in
    grind (arith, nat_tests)

pub single_spelled : (x : Context) (g : ℕ) → (2 ≤ g) × (g ≤ 3) → Stands x (command.Single g)
unfolding one_byte spelling context_after
single_spelled x g h = let l = h.0 in let m = h.1 in grind (arith, nat_tests)

pub repeat_spelled : (x : Context) (n : ℕ) → n ≤ 63 → Stands x (command.Repeat n)
unfolding repetition spelling context_after
repeat_spelled x n h =
    let p : is_plain (0x40 + n) ≡ true = grind (arith, nat_tests) in
    let q : leb 0x40 (0x40 + n) ≡ true = grind (arith, nat_tests) in
    let r : 0x40 + n - 0x40 ≡ n = omega arith in
    rw (p, q, r) refl

pub lock_spelled : (x : Context) (g : ℕ) → g ≤ 1 → Stands x (command.LockLeft g)
unfolding one_byte spelling context_after
lock_spelled x g h = grind (arith, nat_tests)

pub designate_spelled : (x : Context) (g : ℕ) (set : SetId) → g ≤ 3 → Stands x (command.Designate g set)
unfolding escape spelling context_after
designate_spelled x g P h = grind (arith, nat_tests)
designate_spelled x g S h = grind (arith, nat_tests)
designate_spelled x g M h = grind (arith, nat_tests)
designate_spelled x g N h = grind (arith, nat_tests)
designate_spelled x g D h = grind (arith, nat_tests)

pub area_spelled : (x : Context) (a b : ℕ) → IsArea a b → Stands x (command.AreaCreate a b)
unfolding csi_unit csi area spelling context_after
area_spelled x a b h = let l = h.0 in let m = h.1 in let n = h.2 in grind (arith, nat_tests)

pub graphic_spelled : (x : Context) (b : ℕ) → x.mode ≡ Text → 0x20 ≤ b → b ≤ 0x7F → Stands x (command.Graphic b)
unfolding spelling context_after
graphic_spelled x b e l m = let p : is_plain b ≡ true = grind (arith, nat_tests) in rw (p, e) refl

pub protect_spelled : (x : Context) (on : Bool) → Stands x (command.Protect on)
unfolding csi_unit csi spelling context_after
protect_spelled x true = refl
protect_spelled x false = refl

pub implicit_spelled : (x : Context) (on : Bool) → Stands x (command.Implicit on)
unfolding csi_unit csi spelling context_after
implicit_spelled x true = refl
implicit_spelled x false = refl

pub stop_spelled : (x : Context) → Stands x command.StopConceal
unfolding csi_unit csi spelling context_after
stop_spelled x = refl

-- ---- the format and defaults

pub format_spelled : (x : Context) (rows : ℕ) (wrap : Bool) → (rows ≡ 24) ⊎ (rows ≡ 20)
    → Stands x (command.Format rows wrap)
unfolding us_unit format spelling context_after
format_spelled x rows true (inl e) = subst (λ (n : ℕ). Stands x (command.Format n true)) (sym e) refl
format_spelled x rows true (inr e) = subst (λ (n : ℕ). Stands x (command.Format n true)) (sym e) refl
format_spelled x rows false (inl e) = subst (λ (n : ℕ). Stands x (command.Format n false)) (sym e) refl
format_spelled x rows false (inr e) = subst (λ (n : ℕ). Stands x (command.Format n false)) (sym e) refl

pub defaults_spelled : (x : Context) (set : C1Set) → Stands x (command.FullDefaults set)
unfolding us_unit service_unit spelling context_after
defaults_spelled x c1_set.Serial = refl
defaults_spelled x c1_set.Parallel = refl

pub revision_spelled : (x : Context) (revision : ℕ) → (revision ≡ 1) ⊎ (revision ≡ 2)
    → Stands x (command.Revision revision)
unfolding us_unit service_unit spelling context_after
revision_spelled x revision (inl e) = subst (λ (n : ℕ). Stands x (command.Revision n)) (sym e) refl
revision_spelled x revision (inr e) = subst (λ (n : ℕ). Stands x (command.Revision n)) (sym e) refl

pub c1_set_spelled : (x : Context) (set : C1Set) → Stands x (command.DesignateC1 set)
unfolding escape spelling context_after
c1_set_spelled x c1_set.Serial = refl
c1_set_spelled x c1_set.Parallel = refl

-- ---- colours

pub header_spelled : (x : Context) (dclut : Bool) → Stands x (command.ColourHeader dclut)
unfolding us_unit colour_unit colour_header spelling context_after
header_spelled x true = refl
header_spelled x false = refl

pub last_small : (k : ColourKind) (i : ℕ) → i ≤ last_place k → i ≤ 31
last_small ColourTable i h = h
last_small LookUpTable i h = omega arith

pub start_spelled : (x : Context) (i : ℕ) → i ≤ last_place x.kind → Stands x (command.ColourStart i)
unfolding us_unit colour_unit colour_start spelling context_after
start_spelled x i h =
    let small : i ≤ 31 = last_small x.kind i h in
    let t : is_plain (tens_byte i) ≡ true = grind (arith, nat_tests) in
    let a : eqb (tens_byte i) 0x20 ≡ false = grind (arith, nat_tests) in
    let b : eqb (tens_byte i) 0x21 ≡ false = grind (arith, nat_tests) in
    let d : is_digit (tens_byte i) ≡ true = grind (arith, nat_tests) in
    let p : is_plain (ones_byte i) ≡ true = grind (arith, nat_tests) in
    let q : is_digit (ones_byte i) ≡ true = grind (arith, nat_tests) in
    let n : two_digits (tens_byte i) (ones_byte i) ≡ i = omega arith in
    let l : leb i (last_place x.kind) ≡ true = le-leb i (last_place x.kind) h in
    rw (t, a, b, d, p, q, n, l) refl

-- six bits in a byte
pub six_back : (a b c d e f : ℕ) → a ≤ 1 → b ≤ 1 → c ≤ 1 → d ≤ 1 → e ≤ 1 → f ≤ 1 → let n =
    0x40 + (32 * a + 16 * b + 8 * c) + (4 * d + 2 * e + f) in
    (n / 32 % 2 ≡ a) × (n / 16 % 2 ≡ b) × (n / 8 % 2 ≡ c) × (n / 4 % 2 ≡ d) × (n / 2 % 2 ≡ e) × (n / 1 % 2 ≡ f)
six_back a b c d e f p q r s t u = (omega arith, omega arith, omega arith, omega arith, omega arith, omega arith)

-- a bit is 0 or 1
bit_small : (k a : ℕ) → bit k a ≤ 1
bit_small k a = omega arith

four_back : (a : ℕ) → a ≤ 15 → 8 * bit 3 a + 4 * bit 2 a + (2 * bit 1 a + bit 0 a) ≡ a
four_back a l = omega arith

-- the colour of the bytes of a colour
colour_back : (c : Rgb) → IsValidRgb c → colour (colour_byte 2 c) (colour_byte 0 c) ≡ c
unfolding colour
colour_back c v =
    let p = six_back (bit 3 c.r) (bit 3 c.g) (bit 3 c.b) (bit 2 c.r) (bit 2 c.g) (bit 2 c.b) (bit_small 3 c.r)
    (bit_small 3 c.g) (bit_small 3 c.b) (bit_small 2 c.r) (bit_small 2 c.g) (bit_small 2 c.b) in
    let q = six_back (bit 1 c.r) (bit 1 c.g) (bit 1 c.b) (bit 0 c.r) (bit 0 c.g) (bit 0 c.b) (bit_small 1 c.r)
    (bit_small 1 c.g) (bit_small 1 c.b) (bit_small 0 c.r) (bit_small 0 c.g) (bit_small 0 c.b) in
    rw (
      p.0,
      p.1,
      p.2,
      p.3,
      p.4,
      p.5,
      q.0,
      q.1,
      q.2,
      q.3,
      q.4,
      q.5,
      four_back c.r v.r,
      four_back c.g v.g,
      four_back c.b v.b,
    ) refl

-- the byte of six bits is of columns 4 to 7
pub six_within : (a b c d e f : ℕ) → a ≤ 1 → b ≤ 1 → c ≤ 1 → d ≤ 1 → e ≤ 1 → f ≤ 1 → let n =
    0x40 + (32 * a + 16 * b + 8 * c) + (4 * d + 2 * e + f) in
    (0x40 ≤ n) × (n ≤ 0x7F)
six_within a b c d e f p q r s t u = (omega arith, omega arith)

pub colour_within : (k : ℕ) (c : Rgb) → (0x40 ≤ colour_byte k c) × (colour_byte k c ≤ 0x7F)
colour_within k c =
    six_within (bit (k + 1) c.r) (bit (k + 1) c.g) (bit (k + 1) c.b) (bit k c.r) (bit k c.g) (bit k c.b)
    (bit_small (k + 1) c.r) (bit_small (k + 1) c.g) (bit_small (k + 1) c.b) (bit_small k c.r) (bit_small k c.g)
    (bit_small k c.b)

pub within_plain : (n : ℕ) → (0x40 ≤ n) × (n ≤ 0x7F) → is_plain n ≡ true
within_plain n h = let l = h.0 in let m = h.1 in grind (arith, nat_tests)

pub entry_spelled : (x : Context) (i : ℕ) (c : Rgb) → x.mode ≡ TableRun i → i ≤ 31 → IsValidRgb c
    → Stands x (command.Entry i c)
unfolding table_entry spelling context_after
entry_spelled x i c e l v =
    let p = within_plain (colour_byte 2 c) (colour_within 2 c) in
    let q = within_plain (colour_byte 0 c) (colour_within 0 c) in
    let r : leb 0x40 (colour_byte 2 c) ≡ true = le-leb 0x40 (colour_byte 2 c) (colour_within 2 c).0 in
    let s : leb 0x40 (colour_byte 0 c) ≡ true = le-leb 0x40 (colour_byte 0 c) (colour_within 0 c).0 in
    let n : ltb i 32 ≡ true = grind (arith, nat_tests) in
    rw (p, e, n, r, q, s, colour_back c v) refl

pub dclut_spelled : (x : Context) (i v : ℕ) → x.mode ≡ DclutRun i → i ≤ 3 → v ≤ 31 → Stands x (command.Dclut i v)
unfolding spelling context_after
dclut_spelled x i v e l m =
    let p : is_plain (0x40 + v) ≡ true = grind (arith, nat_tests) in
    let r : leb 0x40 (0x40 + v) ≡ true = grind (arith, nat_tests) in
    let n : ltb i 4 ≡ true = grind (arith, nat_tests) in
    let b : (0x40 + v) % 32 ≡ v = omega arith in
    rw (p, e, n, r, b) refl

-- ---- headers of patterns

at_size : (R : ℕ → ℕ → Type 0) (w h a b : ℕ) → w ≡ a → h ≡ b → R a b → R w h
at_size R w h a b e f r = subst (λ n. R w n) (sym f) (subst (λ n. R n b) (sym e) r)

narrow : (w h : ℕ) → IsTrue (is_pattern_size w h) → eqb w 12 ≡ false → w ≡ 6
narrow w h t n = grind (arith, nat_tests)

wide_height : (w h : ℕ) → IsTrue (is_pattern_size w h) → eqb w 12 ≡ true → eqb h 12 ≡ false → h ≡ 10
wide_height w h t n m = grind (arith, nat_tests)

least_height : (w h : ℕ) → IsTrue (is_pattern_size w h) → eqb w 12 ≡ false → eqb h 12 ≡ false → eqb h 10 ≡ false
    → eqb h 5 ≡ false → h ≡ 6
least_height w h t n m o p = grind (arith, nat_tests)

-- what holds of each size of patterns holds of a size of patterns
pub size_cases : (R : ℕ → ℕ → Type 0) (w h : ℕ) → IsTrue (is_pattern_size w h) → R 12 12 → R 12 10 → R 6 12 → R 6 10
    → R 6 5 → R 6 6 → R w h
size_cases R w h t a b c d e f =
    let wide : eqb w 12 ≡ true → R w h = λ p. let n = eqb-true w 12 p in
    elim (cases_Bool (eqb h 12)) [
      | inl q ↦ at_size R w h 12 12 n (eqb-true h 12 q) a
      | inr q ↦ at_size R w h 12 10 n (wide_height w h t p q) b
    ] in
    let low : eqb w 12 ≡ false → eqb h 12 ≡ false → eqb h 10 ≡ false → R w h = λ p q r. let n = narrow w h t p in
    elim (cases_Bool (eqb h 5)) [
      | inl s ↦ at_size R w h 6 5 n (eqb-true h 5 s) e
      | inr s ↦ at_size R w h 6 6 n (least_height w h t p q r s) f
    ] in
    let high : eqb w 12 ≡ false → eqb h 12 ≡ false → R w h = λ p q.
    elim (cases_Bool (eqb h 10)) [
      | inl r ↦ at_size R w h 6 10 (narrow w h t p) (eqb-true h 10 r) d
      | inr r ↦ low p q r
    ] in
    elim (cases_Bool (eqb w 12)) [
      | inl p ↦ wide p
      | inr p ↦ elim (cases_Bool (eqb h 12)) [
        | inl q ↦ at_size R w h 6 12 (narrow w h t p) (eqb-true h 12 q) c
        | inr q ↦ high p q
      ]
    ]

four_left : (n : ℕ) → IsTrue (is_plane_count n) → eqb n 1 ≡ false → eqb n 2 ≡ false → n ≡ 4
four_left n t p q = grind (arith, nat_tests)

-- and of each count of planes
pub plane_cases : (R : ℕ → Type 0) (n : ℕ) → IsTrue (is_plane_count n) → R 1 → R 2 → R 4 → R n
plane_cases R n t a b c =
    elim (cases_Bool (eqb n 1)) [
      | inl p ↦ subst R (sym (eqb-true n 1 p)) a
      | inr p ↦ elim (cases_Bool (eqb n 2)) [
        | inl q ↦ subst R (sym (eqb-true n 2 q)) b
        | inr q ↦ subst R (sym (four_left n t p q)) c
      ]
    ]

abbrev form_with : ℕ → ℕ → ℕ → Form
form_with w h n = record { w = w; h = h; planes = n }

pub patterns_spelled : (x : Context) (f : Form) → IsValidForm f → Stands x (command.DrcsHeader false f)
unfolding us_unit drcs_unit drcs_header drcs_form spelling context_after
patterns_spelled x f v =
    let R : ℕ → ℕ → ℕ → Type 0 = λ w h n. Stands x (command.DrcsHeader false (form_with w h n)) in
    size_cases (λ w h. R w h f.planes) f.w f.h v.size (plane_cases (R 12 12) f.planes v.planes refl refl refl)
    (plane_cases (R 12 10) f.planes v.planes refl refl refl) (plane_cases (R 6 12) f.planes v.planes refl refl refl)
    (plane_cases (R 6 10) f.planes v.planes refl refl refl) (plane_cases (R 6 5) f.planes v.planes refl refl refl)
    (plane_cases (R 6 6) f.planes v.planes refl refl refl)

pub code_spelled : (x : Context) (c : ℕ) → (0x21 ≤ c) × (c ≤ 0x7E) → Stands x (command.DrcsStart c)
unfolding us_unit drcs_unit spelling context_after
code_spelled x c h = let l = h.0 in let m = h.1 in grind (arith, nat_tests)
