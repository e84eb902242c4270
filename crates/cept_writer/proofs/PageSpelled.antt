-- The commands of a written page are spelled from the start on.
use Rattle.std.proofs.Common.{◌≡◌, ◌⊎◌, ℕ, zero, suc, ◌+◌, ◌%◌, ◌<◌, ◌≤◌, Bool, true, false, eqb}
use Rattle.std.proofs.Common.{List, [], ◌∷◌, ◌++◌, Option, Some, None, IfSome, refl, sym, ap, ◌∙◌, subst, arith, inl}
use Rattle.std.proofs.Common.{inr}
use Rattle.std.proofs.lemmas.Bool.{cases_Bool}
use Rattle.std.proofs.lemmas.Bool.Decides.{nat_tests}
use Rattle.std.specs.List.{AllByRecursion, flat_map, range_with_len}
use Rattle.cept_codes.specs.declared.attribute.Attr.{Attr}
use Rattle.cept_codes.specs.declared.attribute.Attr.TheVariants as attrs
use Rattle.cept_codes.specs.declared.attribute.Flash.{Flash}
use Rattle.cept_codes.specs.declared.attribute.Flash.TheVariants as flashes
use Rattle.cept_codes.specs.declared.attribute.Pen.{Pen}
use Rattle.cept_codes.specs.declared.attribute.Size.{Size}
use Rattle.cept_codes.specs.declared.attribute.Size.TheVariants as sizes
use Rattle.cept_codes.specs.declared.cell.Marker.{Marker}
use Rattle.cept_codes.specs.declared.cell.Marker.TheVariants as markers
use Rattle.cept_codes.specs.declared.command.Command.{Command}
use Rattle.cept_codes.specs.declared.command.Command.TheVariants as command
use Rattle.cept_codes.specs.declared.command.Form.{Form}
use Rattle.cept_codes.specs.Attribute.{IsValidAttr, IsValidPen, IsScreenPen}
use Rattle.cept_codes.specs.Cell.{IsValidMarker}
use Rattle.cept_codes.specs.Command.{IsArea, IsC1, IsScreenC1}
use Rattle.cept_codes.specs.Place.{OnScreen}
use Rattle.cept_parser.specs.declared.context.ColourKind.TheVariants.{ColourTable}
use Rattle.cept_parser.specs.declared.context.Context.{Context}
use Rattle.cept_parser.specs.declared.context.Mode.{Mode}
use Rattle.cept_parser.specs.declared.context.Mode.TheVariants.{Skip}
use Rattle.cept_parser.specs.ReadsAs.{begins_anew}
use Rattle.cept_parser.specs.Spelling.{spelling, spellings, context_after, context_after_all, IsSpelled, AreSpelled}
use Rattle.cept_parser.specs.Spelling.{IsTextual, AreTextual}
use Rattle.cept_parser.proofs.ReadsLemmas.{anew_more, spelled-append, spellings-append, context_after_all-append}
use Rattle.cept_parser.proofs.TextualLemmas.{textual_spelled, textual-append}
use Rattle.cept_profile.specs.PageParts.{dclut_in, row_pen_in}
use Rattle.cept_profile.specs.State.{Core}
use Rattle.cept_profile.specs.Valid.{IsValidCore}
use Rattle.cept_writer.specs.AttributeCommands.{class_attributes, attributes_of, colour_commands, flash_commands}
use Rattle.cept_writer.specs.AttributeCommands.{size_code, attribute_commands, attributes_commands, pen_commands}
use Rattle.cept_writer.specs.CellCommands.{accent_commands, marker_commands}
use Rattle.cept_writer.specs.CellCommands.{protected_commands}
use Rattle.cept_writer.specs.PageCommands.{with_colour_header, is_default_dclut}
use Rattle.cept_writer.specs.PageCommands.{dclut_commands, first_commands, screen_commands}
use Rattle.cept_writer.specs.PageCommands.{at_row, row_commands, rows_below, area_commands}
use Rattle.cept_writer.specs.PageCommands.{implicit_commands}

-- ---- commands that are spelled in any context

abbrev pub Anywhere : List Command → Type 0
Anywhere cs = (x : Context) → AreSpelled x cs

-- there are none, or they begin with a breaker
abbrev pub AnewOrNone : List Command → Type 0
AnewOrNone cs = (cs ≡ []) ⊎ (begins_anew (spellings cs) ≡ true)

pub anywhere-append : (a b : List Command) → Anywhere a → Anywhere b → Anywhere (a ++ b)
anywhere-append a b h k x = spelled-append x a b (h x) (k (context_after_all x a))

anywhere_each : (f : ℕ → List Command) (from n : ℕ) → ((i : ℕ) → from ≤ i → i < from + n → Anywhere (f i))
    → Anywhere (flat_map f (range_with_len from n))
anywhere_each f from zero h x = tt
anywhere_each f from (suc n) h x =
    anywhere-append (f from) (flat_map f (range_with_len (from + 1) n)) (h from (omega arith) (omega arith))
    (anywhere_each f (from + 1) n (λ i l m. h i (omega arith) (omega arith))) x

pub anew-append : (a b : List Command) → AnewOrNone a → AnewOrNone b → AnewOrNone (a ++ b)
anew-append a b (inl e) k = subst (λ (c : List Command). AnewOrNone (c ++ b)) (sym e) k
anew-append a b (inr h) k =
    inr (ap begins_anew (spellings-append a b) ∙ anew_more (spellings a) (spellings b) h)

pub textual_anywhere : (cs : List Command) → AreTextual cs → AnewOrNone cs → Anywhere cs
textual_anywhere cs h (inl e) x = subst (AreSpelled x) (sym e) tt
textual_anywhere cs h (inr e) x = textual_spelled x cs h (inr e)

-- ---- attributes

-- a code of the size of an attribute stands, where it is one
abbrev SizeStands : (ℕ → Command) → Attr → Type 0
SizeStands code (attrs.Size s) = IsTextual (code (size_code s))
SizeStands code attr = Unit {0}

abbrev Stands : (ℕ → Command) → Attr → Type 0
Stands code attr = IsValidAttr attr × SizeStands code attr

-- codes that may stand for the screen stand here
abbrev pub IsCoded : (ℕ → Command) → Type 0
IsCoded code = (n : ℕ) → IsScreenC1 n → IsTextual (code n)

colour_textual : (code : ℕ → Command) (first e : ℕ) → IsCoded code → (first ≡ 0) ⊎ (first ≡ 16) → e < 32
    → AreTextual (colour_commands code first e)
colour_textual code first e h (inl f) l =
    (omega arith, (h (first + e % 8) ((omega arith, λ q. omega arith), inl (omega arith)), tt))
colour_textual code first e h (inr f) l =
    (omega arith, (h (first + e % 8) ((omega arith, λ q. omega arith), inr (omega arith)), tt))

-- one code that isn't that of a size
code_textual : (code : ℕ → Command) (n : ℕ) → IsCoded code → IsScreenC1 n → AreTextual (code n ∷ [])
code_textual code n h l = (h n l, tt)

below_sizes : (n : ℕ) → n < 12 → IsScreenC1 n
below_sizes n l = ((omega arith, λ q. omega arith), inl l)

above_sizes : (n : ℕ) → 15 < n → n < 27 → IsScreenC1 n
above_sizes n l m = ((omega arith, λ q. omega arith), inr l)

last_codes : (n : ℕ) → 27 < n → n < 32 → IsScreenC1 n
last_codes n l m = ((omega arith, λ q. omega arith), inr (omega arith))

flash_textual : (code : ℕ → Command) (f : Flash) → IsCoded code → AreTextual (flash_commands code f)
flash_textual code flashes.Plain h = code_textual code 8 h (below_sizes 8 (omega arith))
flash_textual code flashes.Steady h = code_textual code 9 h (below_sizes 9 (omega arith))
flash_textual code flashes.Inverted h = (omega arith, tt)
flash_textual code flashes.Reduced h = (omega arith, tt)
flash_textual code flashes.Fast1 h = (omega arith, tt)
flash_textual code flashes.Fast2 h = (omega arith, tt)
flash_textual code flashes.Fast3 h = (omega arith, tt)

attribute_textual : (code : ℕ → Command) (attr : Attr) → IsCoded code → Stands code attr
    → AreTextual (attribute_commands code attr)
attribute_textual code (attrs.Fore e) h s = colour_textual code 0 e h (inl refl) s.0
attribute_textual code (attrs.Back e) h s = colour_textual code 16 e h (inr refl) s.0
attribute_textual code attrs.NoBack h s = code_textual code 30 h (last_codes 30 (omega arith) (omega arith))
attribute_textual code (attrs.Flash f) h s = flash_textual code f h
attribute_textual code (attrs.Conceal true) h s = code_textual code 24 h (above_sizes 24 (omega arith) (omega arith))
attribute_textual code (attrs.Conceal false) h s = code_textual code 31 h (last_codes 31 (omega arith) (omega arith))
attribute_textual code (attrs.Lined true) h s = code_textual code 26 h (above_sizes 26 (omega arith) (omega arith))
attribute_textual code (attrs.Lined false) h s = code_textual code 25 h (above_sizes 25 (omega arith) (omega arith))
attribute_textual code (attrs.Boxed true) h s = code_textual code 11 h (below_sizes 11 (omega arith))
attribute_textual code (attrs.Boxed false) h s = code_textual code 10 h (below_sizes 10 (omega arith))
attribute_textual code (attrs.Size s) h k = (k.1, tt)
attribute_textual code (attrs.Invert true) h s = code_textual code 29 h (last_codes 29 (omega arith) (omega arith))
attribute_textual code (attrs.Invert false) h s = code_textual code 28 h (last_codes 28 (omega arith) (omega arith))

attributes_textual : (code : ℕ → Command) (list : List Attr) → IsCoded code → AllByRecursion (Stands code) list
    → AreTextual (attributes_commands code list)
attributes_textual code [] h k = tt
attributes_textual code (a ∷ more) h k =
    textual-append (attribute_commands code a) (attributes_commands code more) (attribute_textual code a h k.0)
    (attributes_textual code more h k.1)

all-append : (P : Attr → Type 0) (a b : List Attr) → AllByRecursion P a → AllByRecursion P b → AllByRecursion P (a ++ b)
all-append P [] b h k = k
all-append P (x ∷ a) b h k = (h.0, all-append P a b h.1 k)

class_all : {X : Type 0} (P : Attr → Type 0) (attr : X → Attr) (o : Option X) → IfSome o (λ v. P (attr v))
    → AllByRecursion P (class_attributes attr o)
class_all P attr None h = tt
class_all P attr (Some v) h = (h, tt)

pub if_any : {X : Type 0} (R : X → Type 0) (o : Option X) → ((v : X) → R v) → IfSome o R
if_any R None h = tt
if_any R (Some v) h = h v

if_valid : {X : Type 0} (R S : X → Type 0) (o : Option X) → ((v : X) → R v → S v) → IfSome o R → IfSome o S
if_valid R S None h k = tt
if_valid R S (Some v) h k = h v k

pen_stands : (code : ℕ → Command) (p : Pen) → IsValidPen p → IfSome p.size (λ s. IsTextual (code (size_code s)))
    → AllByRecursion (Stands code) (attributes_of p)
unfolding attributes_of
pen_stands code p v s =
    let P : Attr → Type 0 = Stands code in
    all-append P _ _ (class_all P (λ e. attrs.Fore e) p.fore (if_valid _ _ p.fore (λ e h. (h, tt)) v.fore))
    (all-append P _ _ (class_all P (λ e. attrs.Back e) p.back (if_valid _ _ p.back (λ e h. (h, tt)) v.back))
    (all-append P _ _ (class_all P (λ f. attrs.Flash f) p.flash (if_any _ p.flash (λ f. (tt, tt))))
    (all-append P _ _ (class_all P (λ b. attrs.Conceal b) p.conceal (if_any _ p.conceal (λ b. (tt, tt))))
    (all-append P _ _ (class_all P (λ b. attrs.Lined b) p.lined (if_any _ p.lined (λ b. (tt, tt))))
    (all-append P _ _ (class_all P (λ b. attrs.Boxed b) p.boxed (if_any _ p.boxed (λ b. (tt, tt))))
    (all-append P _ _ (class_all P (λ z. attrs.Size z) p.size (if_valid _ _ p.size (λ z h. (tt, h)) s))
    (class_all P (λ b. attrs.Invert b) p.invert (if_any _ p.invert (λ b. (tt, tt))))))))))

pub pen_textual : (code : ℕ → Command) (p : Pen) → IsCoded code → IsValidPen p
    → IfSome p.size (λ s. IsTextual (code (size_code s))) → AreTextual (pen_commands code p)
pen_textual code p h v s = attributes_textual code (attributes_of p) h (pen_stands code p v s)

pub size_c1 : (s : Size) → IsC1 (size_code s)
size_c1 sizes.Normal = (omega arith, λ q. omega arith)
size_c1 sizes.High = (omega arith, λ q. omega arith)
size_c1 sizes.Wide = (omega arith, λ q. omega arith)
size_c1 sizes.Both = (omega arith, λ q. omega arith)

-- ---- cells

pub signs_coded : IsCoded (λ n. command.C1 n)
signs_coded n h = h.0

pub rows_coded : IsCoded (λ n. command.FullRow n)
rows_coded n h = h.0

screen_coded : IsCoded (λ n. command.FullScreen n)
screen_coded n h = h

pub accent_textual : (accent : ℕ) → (accent ≡ 0) ⊎ ((0x40 ≤ accent) × (accent ≤ 0x4F)) → AreTextual (accent_commands accent)
accent_textual accent (inl e) = subst (λ (n : ℕ). AreTextual (accent_commands n)) (sym e) tt
accent_textual accent (inr h) =
    let some : eqb accent 0 ≡ false = above_zero accent h.0 in
    rw some ((omega arith, omega arith), ((omega (arith, h.0), omega (arith, h.1)), tt))
  where
    above_zero : (n : ℕ) → 0x40 ≤ n → eqb n 0 ≡ false
    above_zero n l = grind (arith, nat_tests)

pub marker_textual : (m : Marker) → IsValidMarker m → AreTextual (marker_commands m)
marker_textual (markers.Alpha e) h = colour_textual (λ n. command.C1 n) 0 e signs_coded (inl refl) h
marker_textual (markers.Mosaic e) h = colour_textual (λ n. command.C1 n) 16 e signs_coded (inr refl) h
marker_textual markers.BlackBack h = ((omega arith, λ q. omega arith), tt)
marker_textual markers.NewBack h = ((omega arith, λ q. omega arith), tt)
marker_textual markers.Hold h = ((omega arith, λ q. omega arith), tt)
marker_textual markers.Release h = ((omega arith, λ q. omega arith), tt)
marker_textual (markers.Flash f) h = flash_textual (λ n. command.C1 n) f signs_coded
marker_textual (markers.Conceal true) h = ((omega arith, λ q. omega arith), tt)
marker_textual (markers.Conceal false) h = (tt, tt)
marker_textual (markers.Lined true) h = ((omega arith, λ q. omega arith), tt)
marker_textual (markers.Lined false) h = ((omega arith, λ q. omega arith), tt)
marker_textual (markers.Boxed true) h = ((omega arith, λ q. omega arith), tt)
marker_textual (markers.Boxed false) h = ((omega arith, λ q. omega arith), tt)
marker_textual (markers.Size s) h = (size_c1 s, tt)

pub protected_textual : (b : Bool) (cs : List Command) → AreTextual cs → AreTextual (protected_commands b cs)
protected_textual true cs h = (tt, textual-append cs (command.Protect false ∷ []) h (tt, tt))
protected_textual false cs h = h

-- commands at a place are spelled anywhere
pub placed_anywhere : (r c : ℕ) (cs : List Command) → OnScreen r c → AreTextual cs → Anywhere (command.Position r c ∷ cs)
unfolding spelling
placed_anywhere r c cs on h = textual_anywhere (command.Position r c ∷ cs) (on, h) (inr refl)

-- ---- attributes of rows and of the screen

at_row_anywhere : (r : ℕ) (cs : List Command) → 1 ≤ r → r ≤ 24 → AreTextual cs → Anywhere (at_row r cs)
at_row_anywhere r [] l m h x = tt
at_row_anywhere r (c ∷ cs) l m h x =
    placed_anywhere r 1 (c ∷ cs)
    (record { from_top = l; to_bottom = m; from_left = omega arith; to_right = omega arith }) h x

pub rows_anywhere : (k : Core) → IsValidCore k → Anywhere (rows_below k.page.row_pens 24)
unfolding rows_below
rows_anywhere k v =
    anywhere_each (λ r. row_commands r (row_pen_in k.page.row_pens r)) 1 24 (λ r l m.
    let small : r ≤ 24 = omega arith in
    let p = row_pen_in k.page.row_pens r in
    at_row_anywhere r (pen_commands (λ n. command.FullRow n) p) l small
    (pen_textual (λ n. command.FullRow n) p rows_coded
    (v.page.row_pens r l small).valid (if_any _ p.size size_c1)))

screen_anew : (attr : Attr) → begins_anew (spellings (attribute_commands (λ n. command.FullScreen n) attr)) ≡ true
unfolding spelling
screen_anew (attrs.Fore e) = refl
screen_anew (attrs.Back e) = refl
screen_anew attrs.NoBack = refl
screen_anew (attrs.Flash flashes.Plain) = refl
screen_anew (attrs.Flash flashes.Steady) = refl
screen_anew (attrs.Flash flashes.Inverted) = refl
screen_anew (attrs.Flash flashes.Reduced) = refl
screen_anew (attrs.Flash flashes.Fast1) = refl
screen_anew (attrs.Flash flashes.Fast2) = refl
screen_anew (attrs.Flash flashes.Fast3) = refl
screen_anew (attrs.Conceal on) = refl
screen_anew (attrs.Lined on) = refl
screen_anew (attrs.Boxed on) = refl
screen_anew (attrs.Size s) = refl
screen_anew (attrs.Invert on) = refl

attributes_anew : (list : List Attr) → AnewOrNone (attributes_commands (λ n. command.FullScreen n) list)
attributes_anew [] = inl refl
attributes_anew (a ∷ more) =
    anew-append (attribute_commands (λ n. command.FullScreen n) a)
    (attributes_commands (λ n. command.FullScreen n) more) (inr (screen_anew a))
    (attributes_anew more)

no_size : (o : Option Size) → o ≡ None → IfSome o (λ s. IsTextual (command.FullScreen (size_code s)))
no_size o e = subst (λ (q : Option Size). IfSome q (λ s. IsTextual (command.FullScreen (size_code s)))) (sym e) tt

pub screen_anywhere : (p : Pen) → IsScreenPen p → Anywhere (screen_commands p)
screen_anywhere p v =
    textual_anywhere (screen_commands p)
    (pen_textual (λ n. command.FullScreen n) p screen_coded v.row.valid (no_size p.size v.size))
    (attributes_anew (attributes_of p))

-- ---- colours

-- a context in which entries of the table come
abbrev pub in_table : Mode → Form → Context
in_table m f = record { mode = m; kind = ColourTable; form = f }

-- commands that are spelled there, and after which there still is one
pub record InTable (cs : List Command) : Type 0 where
  pub mode : Mode → Mode
  pub spelled : (m : Mode) (f : Form) → AreSpelled (in_table m f) cs
  pub leads : (m : Mode) (f : Form) → context_after_all (in_table m f) cs ≡ in_table (mode m) f

pub in_table-none : InTable []
in_table-none = record { mode = λ m. m; spelled = λ m f. tt; leads = λ m f. refl }

pub in_table-append : (a b : List Command) → InTable a → InTable b → InTable (a ++ b)
in_table-append a b p q =
    record {
      mode = λ m. q.mode (p.mode m);
      spelled = λ m f. spelled-append (in_table m f) a b (p.spelled m f)
          (subst (λ (x : Context). AreSpelled x b) (sym (p.leads m f))
          (q.spelled (p.mode m) f));
      leads = λ m f. context_after_all-append (in_table m f) a b
          ∙ ap (λ (x : Context). context_after_all x b) (p.leads m f)
          ∙ q.leads (p.mode m) f;
    }

pub header_anywhere : (cs : List Command) → InTable cs → AnewOrNone cs → Anywhere (with_colour_header cs)
unfolding IsSpelled context_after
header_anywhere [] p h x = tt
header_anywhere (c ∷ cs) p (inl e) x = absurd cc
header_anywhere (c ∷ cs) p (inr h) x = (tt, h, p.spelled Skip x.form)

-- the four entries of the DCLUT stand after their header
dclut_spelled : (x : Context) (a b c d : ℕ) → a < 32 → b < 32 → c < 32 → d < 32
    → AreSpelled x (command.ColourHeader true ∷ command.ColourStart 0 ∷ command.Dclut 0 a ∷ command.Dclut 1 b
    ∷ command.Dclut 2 c ∷ command.Dclut 3 d ∷ [])
unfolding IsSpelled context_after spelling
dclut_spelled x a b c d k l m n = (
  tt,
  refl,
  (
    omega arith,
    refl,
    (
      (refl, (omega arith, omega arith)),
      refl,
      (
        (refl, (omega arith, omega arith)),
        refl,
        ((refl, (omega arith, omega arith)), refl, ((refl, (omega arith, omega arith)), refl, tt)),
      ),
    ),
  ),
)

pub dclut_anywhere : (d : List ℕ) → ((i : ℕ) → i < 4 → dclut_in d i < 32) → Anywhere (dclut_commands d)
dclut_anywhere d h x =
    elim (cases_Bool (is_default_dclut d)) [
      | inl e ↦ rw e tt
      | inr e ↦ rw e (dclut_spelled x (dclut_in d 0) (dclut_in d 1) (dclut_in d 2) (dclut_in d 3) (h 0 (omega arith))
          (h 1 (omega arith)) (h 2 (omega arith)) (h 3 (omega arith)))
    ]

-- ---- patterns

-- ---- the page

pub area_anywhere : (a : Option (ℕ × ℕ)) → IfSome a (λ b. IsArea b.0 b.1) → Anywhere (area_commands a)
unfolding spelling
area_anywhere None h x = tt
area_anywhere (Some a) h x = textual_anywhere (area_commands (Some a)) (h, tt) (inr refl) x

pub implicit_anywhere : (b : Bool) → Anywhere (implicit_commands b)
unfolding spelling
implicit_anywhere true x = textual_anywhere (implicit_commands true) (tt, tt) (inr refl) x
implicit_anywhere false x = tt

pub head_anywhere : (k : Core) → (k.rows ≡ 24) ⊎ (k.rows ≡ 20) → (k.revision ≡ 1) ⊎ (k.revision ≡ 2)
    → Anywhere (first_commands k)
unfolding IsSpelled context_after
head_anywhere k rows (inl e) =
    subst (λ (n : ℕ). Anywhere (first_commands (record k { revision = n }))) (sym e)
    (λ x. (tt, refl, (rows, refl, tt)))
head_anywhere k rows (inr e) =
    subst (λ (n : ℕ). Anywhere (first_commands (record k { revision = n }))) (sym e)
    (λ x. (tt, refl, (inr refl, refl, (rows, refl, tt))))

-- ---- its bytes
