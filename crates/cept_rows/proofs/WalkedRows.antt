-- The look of a cell by what is carried along its row.
use Rattle.std.proofs.Common.{◌≡◌, ℕ, false, Option, None, sym, ap, ◌∙◌}
use Rattle.cept_codes.specs.declared.attribute.Full.{Full}
use Rattle.cept_codes.specs.declared.attribute.Pen.{Pen}
use Rattle.cept_codes.specs.declared.attribute.Size.{Size}
use Rattle.cept_codes.specs.declared.cell.Marker.{Marker}
use Rattle.cept_codes.specs.declared.cell.What.{What}
use Rattle.cept_codes.specs.declared.cell.What.TheVariants as whats
use Rattle.cept_codes.specs.declared.glyph.Glyph.{Glyph}
use Rattle.cept_profile.specs.Definitions.{Definitions}
use Rattle.cept_profile.specs.Look.{look_in_row, look_with, shape_in, size_in_row}
use Rattle.cept_profile.specs.PageParts.{paint_in}
use Rattle.cept_profile.specs.Serial.{held_sign, is_marker, own_attributes_of, serial_attributes}
use Rattle.cept_rows.specs.declared.small_look.SmallLook.{SmallLook}
use Rattle.cept_codes.specs.declared.look.Paint.{Paint}
use Rattle.cept_codes.specs.declared.look.Shape.{Shape}
use Rattle.cept_codes.specs.declared.look.Shape.TheVariants as shapes
use Rattle.cept_rows.specs.declared.small_look.Sign.{Sign}
use Rattle.cept_rows.specs.SmallLooks.{sign_of, small_of}
use Rattle.cept_rows.proofs.RowsAlone.{shape_alone}

-- what is no marker, by the attributes that are in force there
unmarked_look : (defined : Definitions) (row : ℕ → What) (pen screen : Pen) (c : ℕ) (f : Full)
    → is_marker (row c) ≡ false → f ≡ serial_attributes row pen screen c
    → look_with (paint_in defined.paints) (shape_in defined (row c) None) (own_attributes_of (row c) pen screen f)
    ≡ look_in_row defined row pen screen c
unfolding look_in_row
unmarked_look defined row pen screen c f plain e =
    ap (λ s. look_with (paint_in defined.paints) s (own_attributes_of (row c) pen screen f))
    (sym (shape_alone defined (row c) (held_sign row c) plain))
    ∙ ap (λ g. look_with (paint_in defined.paints) (shape_in defined (row c) (held_sign row c))
    (own_attributes_of (row c) pen screen g)) e

-- the same of a small look, by what was found there
pub look_of_cell : (defined : Definitions) (row : ℕ → What) (pen screen : Pen) (c : ℕ) (w : What) (f own : Full)
    (s : SmallLook) → row c ≡ w → is_marker w ≡ false → f ≡ serial_attributes row pen screen c
    → own ≡ own_attributes_of w pen screen f
    → s ≡ small_of (look_with (paint_in defined.paints) (shape_in defined w None) own)
    → s ≡ small_of (look_in_row defined row pen screen c)
look_of_cell defined row pen screen c w f own s there plain e is look =
    look ∙ ap (λ g. small_of (look_with (paint_in defined.paints) (shape_in defined w None) g)) is
    ∙ ap (λ v. small_of (look_with (paint_in defined.paints) (shape_in defined v None) (own_attributes_of v pen screen f)))
    (sym there)
    ∙ ap small_of (unmarked_look defined row pen screen c f (ap is_marker there ∙ plain) e)

-- the size of what stands in a cell
pub size_of_own : (row : ℕ → What) (pen screen : Pen) (c : ℕ) (w : What) (f own : Full) (size : Size) → row c ≡ w
    → f ≡ serial_attributes row pen screen c → own ≡ own_attributes_of w pen screen f → size ≡ own.size
    → size ≡ size_in_row row pen screen c
unfolding size_in_row
size_of_own row pen screen c w f own size there e is sized =
    sized ∙ ap (λ g. g.size) is ∙ ap (λ v. (own_attributes_of v pen screen f).size) (sym there)
    ∙ ap (λ g. (own_attributes_of (row c) pen screen g).size) e

-- a marker, by the sign that it shows
pub look_of_marked : (defined : Definitions) (row : ℕ → What) (pen screen : Pen) (c : ℕ) (m : Marker)
    (held : Option Glyph) (full : Full) (s : SmallLook) → row c ≡ whats.Marker m → held ≡ held_sign row c
    → full ≡ serial_attributes row pen screen c
    → s ≡ small_of (look_with (paint_in defined.paints) (shape_in defined (whats.Marker m) held) full)
    → s ≡ small_of (look_in_row defined row pen screen c)
unfolding look_in_row
look_of_marked defined row pen screen c m held full s there sign e look =
    let back : whats.Marker m ≡ row c = sym there in
    look
    ∙ (λ i. small_of (look_with (paint_in defined.paints) (shape_in defined (back i) (sign i))
    (own_attributes_of (back i) pen screen (e i))))

-- a sign in the look of a space
pub space_with_sign : (paint_of : ℕ → Paint) (shape : Shape) (f : Full) (space : SmallLook) (sign : Sign)
    → space ≡ small_of (look_with paint_of shapes.Space f) → sign ≡ sign_of shape
    → (let s : SmallLook = record space { sign = sign } in s) ≡ small_of (look_with paint_of shape f)
space_with_sign paint_of shape f space sign e is i = record (e i) { sign = is i }
