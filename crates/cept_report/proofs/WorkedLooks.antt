-- Worked tables: the fields of looks, and their lines, by computing.
use Rattle.std.proofs.Common.{◌≡◌, ℕ, List, [], ◌∷◌, codes, map, Bool, true, false, refl}
use Rattle.std.specs.Fmt.{digits}
use Rattle.cept_codes.specs.declared.attribute.Flash.{Flash}
use Rattle.cept_codes.specs.declared.attribute.Flash.TheVariants.{Fast1, Fast2, Fast3, Inverted, Plain, Reduced, Steady}
use Rattle.cept_codes.specs.declared.glyph.SetId.{SetId}
use Rattle.cept_codes.specs.declared.glyph.SetId.TheVariants.{D, M, N, P, S}
use Rattle.cept_codes.specs.declared.look.Look.{Look}
use Rattle.cept_codes.specs.declared.look.Paint.{Paint}
use Rattle.cept_codes.specs.declared.look.Paint.TheVariants.{Ink, Video}
use Rattle.cept_codes.specs.declared.look.Shape.TheVariants.{Char, Space}
use Rattle.cept_codes.specs.Look.{blank_look}
use Rattle.cept_codes.specs.Place.{Place}
use Rattle.cept_report.specs.Screen.{cell_text}
use Rattle.cept_report.specs.Text.{change_line, look_text, paint_text, part_text, shape_text, signs_text}

-- ---- shapes

-- signs, each with its text: the letter of the set, the code, and the accent where there is one
abbrev written : List (SetId × ℕ × ℕ × List ℕ) → Type 0
written rows =
    map (λ (row : SetId × ℕ × ℕ × List ℕ).
    shape_text (Char (record { set = row.0; code = row.1; accent = row.2 }))) rows
    ≡ map (λ (row : SetId × ℕ × ℕ × List ℕ). row.3) rows

shapes : written (
    (P, 0x41, 0, codes "P41") ∷ (S, 0x7E, 0, codes "S7E") ∷ (M, 0x2C, 0, codes "M2C") ∷ (N, 0x3F, 0, codes "N3F")
    ∷ (D, 0x21, 0, codes "D21") ∷ (P, 0x61, 0x48, codes "P61+48") ∷ (P, 0x20, 0x4F, codes "P20+4F")
    ∷ (P, 0x7F, 0x40, codes "P7F+40") ∷ [])
unfolding shape_text
shapes = refl

space : shape_text Space ≡ codes "-"
unfolding shape_text
space = refl

-- ---- parts

-- heights and widths of parts, how far down and how far right, each with its text
abbrev parted : List (ℕ × ℕ × ℕ × ℕ × List ℕ) → Type 0
parted rows =
    map (λ (row : ℕ × ℕ × ℕ × ℕ × List ℕ).
    part_text (record blank_look { h = row.0; w = row.1; dy = row.2; dx = row.3 })) rows
    ≡ map (λ (row : ℕ × ℕ × ℕ × ℕ × List ℕ). row.4) rows

parts : parted (
    (1, 1, 0, 0, codes "11.00")
    ∷ (2, 1, 0, 0, codes "21.00") ∷ (2, 1, 1, 0, codes "21.10")
    ∷ (1, 2, 0, 0, codes "12.00") ∷ (1, 2, 0, 1, codes "12.01")
    ∷ (2, 2, 0, 0, codes "22.00") ∷ (2, 2, 0, 1, codes "22.01") ∷ (2, 2, 1, 0, codes "22.10")
    ∷ (2, 2, 1, 1, codes "22.11") ∷ [])
parts = refl

-- ---- paints

-- red, green and blue
abbrev rgb : ℕ → ℕ → ℕ → Paint
rgb red green blue = Ink (record { r = red; g = green; b = blue })

-- each digit, and in the order red, green, blue
digits_of_paints : map paint_text (
    rgb 0 1 2 ∷ rgb 3 4 5 ∷ rgb 6 7 8 ∷ rgb 9 10 11 ∷ rgb 12 13 14 ∷ rgb 15 0 15 ∷ Video ∷ [])
    ≡ codes "012" ∷ codes "345" ∷ codes "678" ∷ codes "9AB" ∷ codes "CDE" ∷ codes "F0F" ∷ codes "---" ∷ []
digits_of_paints = refl

-- ---- the four signs

-- flashes, and whether a look is concealed, lined and boxed, each with its signs
abbrev signed : List (Flash × Bool × Bool × Bool × List ℕ) → Type 0
signed rows =
    map (λ (row : Flash × Bool × Bool × Bool × List ℕ).
    signs_text (record blank_look { flash = row.0; conceal = row.1; lined = row.2; boxed = row.3 })) rows
    ≡ map (λ (row : Flash × Bool × Bool × Bool × List ℕ). row.4) rows

signs : signed (
    (Steady, false, false, false, codes "S---")
    ∷ (Plain, false, false, false, codes "F---")
    ∷ (Inverted, false, false, false, codes "I---")
    ∷ (Reduced, false, false, false, codes "R---")
    ∷ (Fast1, false, false, false, codes "1---")
    ∷ (Fast2, false, false, false, codes "2---")
    ∷ (Fast3, false, false, false, codes "3---")
    ∷ (Steady, true, false, false, codes "Sc--")
    ∷ (Steady, false, true, false, codes "S-l-")
    ∷ (Steady, false, false, true, codes "S--b")
    ∷ (Fast2, true, true, true, codes "2clb") ∷ [])
signs = refl

-- ---- looks and their lines

-- an A as it is first written
abbrev letter : Look
letter = record blank_look { shape = Char (record { set = P; code = 0x41; accent = 0 }) }

-- a look in which no field is as in another: the lower left of a mosaic twice as high and wide
abbrev corner : Look
corner = record {
  shape = Char (record { set = M; code = 0x73; accent = 0 });
  dy = 1;
  dx = 0;
  w = 2;
  h = 2;
  fore = rgb 15 0 0;
  back = rgb 0 7 15;
  flash = Reduced;
  conceal = false;
  lined = true;
  boxed = false;
}

looks : map look_text (blank_look ∷ letter ∷ corner ∷ [])
    ≡ codes "- 11.00 FFF 000 S---" ∷ codes "P41 11.00 FFF 000 S---" ∷ codes "M73 22.10 F00 07F R-l-" ∷ []
unfolding shape_text
looks = refl

-- a place
abbrev at : ℕ → ℕ → Place
at r c = record { row = r; column = c }

-- a blank look has a line where it is a change
changes : change_line 0 (at 1 1) letter ∷ change_line 130 (at 24 40) corner ∷ change_line 12 (at 1 3) blank_look ∷ []
    ≡ codes "0 1 1 P41 11.00 FFF 000 S---\n" ∷ codes "130 24 40 M73 22.10 F00 07F R-l-\n"
    ∷ codes "12 1 3 - 11.00 FFF 000 S---\n" ∷ []
unfolding shape_text digits
changes = refl

-- and none as a cell, which any other has: also a space of another paint
cells : cell_text (at 1 1) letter ∷ cell_text (at 24 40) corner
    ∷ cell_text (at 1 3) (record blank_look { back = rgb 15 0 0 }) ∷ cell_text (at 24 40) blank_look ∷ []
    ≡ codes "1 1 P41 11.00 FFF 000 S---\n" ∷ codes "24 40 M73 22.10 F00 07F R-l-\n"
    ∷ codes "1 3 - 11.00 FFF F00 S---\n" ∷ [] ∷ []
unfolding cell_text shape_text digits
cells = refl
