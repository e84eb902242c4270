-- Sets of graphic signs: code extension after ISO 2022, and accents before their sign after ISO 6937. Which sets there
-- are, which stand where at the start, and the mosaic run are this profile's own.
use Rattle.std.specs.Prelude.{ℕ, ◌%◌, ◌≤◌, Bool, false, ◌&&◌, Option, None, nat_lt, nat_le, ◌==◌, if◌then◌else◌}
use Rattle.std.specs.Option.{option_map_or}
use Rattle.cept_codes.specs.declared.glyph.Glyph.{Glyph}
use Rattle.cept_codes.specs.declared.glyph.Read.{Read}
use Rattle.cept_codes.specs.declared.glyph.Read.TheVariants as reads
use Rattle.cept_codes.specs.declared.glyph.SetId.{SetId}
use Rattle.cept_codes.specs.declared.glyph.SetId.TheVariants as sets
use Rattle.cept_codes.specs.Glyph.{IsValidGlyph}

-- the sets G0 to G3, the ones that left and right bytes take, and a single shift that waits
pub record Sets : Type 0 where
  pub g0 : SetId
  pub g1 : SetId
  pub g2 : SetId
  pub g3 : SetId
  pub left : ℕ
  pub right : ℕ
  pub single : Option ℕ

-- at the start P, M, S and N are designated, and left bytes take G0, right ones G2
abbrev pub initial_sets : Sets
initial_sets = record { g0 = sets.P; g1 = sets.M; g2 = sets.S; g3 = sets.N; left = 0; right = 2; single = None }

-- a set is designated to this one of G0 to G3
abbrev pub sets_with : Sets → ℕ → SetId → Sets
sets_with s g set =
    if g == 0 then record s { g0 = set } else
    if g == 1 then record s { g1 = set } else
    if g == 2 then record s { g2 = set } else
    record s { g3 = set }

-- the set that is designated to this one of G0 to G3
abbrev pub set_in : Sets → ℕ → SetId
set_in s g = if g == 0 then s.g0 else if g == 1 then s.g1 else if g == 2 then s.g2 else s.g3

-- the code of a byte: its seven low bits
abbrev pub code_of : ℕ → ℕ
code_of byte = byte % 0x80

-- the set of a byte: that of a single shift which waits; else M for a left byte, 2/0 to 7/15, in a mosaic run; else the
-- one locked to its side
unfoldable pub set_of : Sets → ℕ → Bool → SetId
set_of s byte run = option_map_or (set_in s) s.single (
    if run && nat_lt byte 0x80 then sets.M else
    if nat_lt byte 0x80 then set_in s s.left else
    set_in s s.right)

-- an accent's code
abbrev pub IsAccent : ℕ → Type 0
IsAccent code = (0x40 ≤ code) × (code ≤ 0x4F)

-- the accents are codes of set S
abbrev pub is_accent : SetId → ℕ → Bool
is_accent sets.S code = nat_le 0x40 code && nat_le code 0x4F
is_accent _ code = false

-- the sign of a set and a code, without accent
abbrev pub sign : SetId → ℕ → Glyph
sign set code = record { set = set; code = code; accent = 0 }

-- what a code of a set gives: code 2/0 of any set is the space of P, and any other that is no accent is a sign
unfoldable pub read_as : SetId → ℕ → Read
read_as set code =
    if code == 0x20 then reads.Glyph (sign sets.P 0x20) else
    if is_accent set code then reads.Accent code else
    reads.Glyph (sign set code)

-- a valid sign, or an accent
abbrev pub IsValidRead : Read → Type 0
IsValidRead (reads.Glyph g) = IsValidGlyph g
IsValidRead (reads.Accent code) = IsAccent code
