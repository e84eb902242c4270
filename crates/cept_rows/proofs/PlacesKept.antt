-- Looks of places, in little space: those of the places above and to the left, and those of what stands in a cell.
use Rattle.std.proofs.Common.{◌≡◌, ℕ, ◌==◌, Bool, true, false, None, refl, sym, ap, ◌∙◌}
use Rattle.cept_codes.specs.declared.look.Look.{Look}
use Rattle.cept_codes.specs.declared.look.Part.{Part}
use Rattle.cept_codes.specs.declared.attribute.Pen.{Pen}
use Rattle.cept_codes.specs.declared.cell.What.{What}
use Rattle.cept_profile.specs.Definitions.{Definitions}
use Rattle.cept_profile.specs.Look.{look_in_row, part_of, shape_in}
use Rattle.cept_profile.specs.RowsFromAbove.{look_with_part}
use Rattle.cept_profile.specs.Tiling.{covers_right, origin_part}
use Rattle.cept_rows.specs.declared.small_look.SmallLook.{SmallLook}
use Rattle.cept_rows.specs.SmallLooks.{small_of}
use Rattle.cept_rows.specs.inside.SmallLooks.{drawing_of}
use Rattle.cept_rows.proofs.Signs.{drawing_of-look_in_row}

-- a look with another part
with_part : (l : Look) (s : SmallLook) (p q : Part) → s ≡ small_of l → p ≡ q
    → (let t : SmallLook = record s { part = p } in t) ≡ small_of (look_with_part q l)
with_part l s p q e is i = record (e i) { part = is i }

-- one place down
pub below_is : (a : Look) (s : SmallLook) (p : Part) → s ≡ small_of a → p ≡ record s.part { dy = 1 }
    → (let t : SmallLook = record s { part = p } in t) ≡ small_of (look_with_part (record (part_of a) { dy = 1 }) a)
below_is a s p e is =
    with_part a s p (record (part_of a) { dy = 1 }) e (is ∙ ap (λ (x : SmallLook). let q : Part = record x.part { dy = 1 } in q) e)

-- one place to the right
pub right_is : (l : Look) (s : SmallLook) (p : Part) → s ≡ small_of l → p ≡ record s.part { dy = 0; dx = 1 }
    → (let t : SmallLook = record s { part = p } in t)
    ≡ small_of (look_with_part (record (part_of l) { dy = 0; dx = 1 }) l)
right_is l s p e is =
    with_part l s p (record (part_of l) { dy = 0; dx = 1 }) e
    (is ∙ ap (λ (x : SmallLook). let q : Part = record x.part { dy = 0; dx = 1 } in q) e)

-- the upper left part
pub origin_is : (o shown : Look) (s : SmallLook) (p : Part) → s ≡ small_of o → look_with_part p o ≡ shown
    → (let t : SmallLook = record s { part = p } in t) ≡ small_of shown
origin_is o shown s p e is = with_part o s p p e refl ∙ ap small_of is

-- the drawing of what stands in a cell, whichever part is shown
pub drawing_is : (defined : Definitions) (row : ℕ → What) (pen screen : Pen) (c : ℕ) (p : Part) (shown : Look)
    → look_with_part p (look_in_row defined row pen screen c) ≡ shown
    → drawing_of (shape_in defined (row c) None) ≡ drawing_of shown.shape
drawing_is defined row pen screen c p shown is =
    drawing_of-look_in_row defined row pen screen c ∙ ap (λ (l : Look). drawing_of l.shape) is

-- an upper left part covers the place to its right where it is two columns wide
pub origin-covers : (wide high : Bool) (p : Part) → p ≡ origin_part wide high → (p.w == 2) ≡ covers_right p
origin-covers true high p is = ap (λ (q : Part). q.w == 2) is ∙ sym (ap covers_right is)
origin-covers false high p is = ap (λ (q : Part). q.w == 2) is ∙ sym (ap covers_right is)
