-- The seven-bit form of bytes (this project's own; the shifts and the C1 codes in two bytes are after ISO 2022). Bytes of
-- the right half stand between SO (0/14) and SI (0/15), 8/0 lower. A C1 code is ESC (1/11) and a byte of columns 4 and 5.
-- DLE (1/0) quotes the bytes SO, SI and DLE of the page, 4/0 higher.
use Rattle.std.specs.Prelude.{ℕ, ◌+◌, ◌-◌, Bool, true, false, not, ◌&&◌, List, [], ◌∷◌, ◌++◌, reverse, if◌then◌else◌}
use Rattle.cept_parser.specs.Bytes.{is_between}

-- a byte of the right half
abbrev pub is_right : ℕ → Bool
is_right a = is_between 0xA0 0xFF a

-- a C1 code in one byte
abbrev pub is_c1 : ℕ → Bool
is_c1 a = is_between 0x80 0x9F a

-- SO, SI or DLE, which the form itself uses
abbrev pub is_quotable : ℕ → Bool
is_quotable a = is_between 0x0E 0x10 a

-- the text of a byte, where a right byte stands before it or not, and after it or not
abbrev pub text : Bool → ℕ → Bool → List ℕ
text before a after =
    if is_right a then (if before then [] else 0x0E ∷ []) ++ (a - 0x80) ∷ (if after then [] else 0x0F ∷ []) else
    if is_c1 a then 0x1B ∷ (a - 0x40) ∷ [] else
    if is_quotable a then 0x10 ∷ (a + 0x40) ∷ [] else
    a ∷ []

-- the first byte is right; of no bytes, what stands after them is
abbrev pub begins_right : List ℕ → Bool → Bool
begins_right [] after = after
begins_right (a ∷ b) after = is_right a

-- the last byte is right
abbrev pub ends_right : List ℕ → Bool
ends_right b = begins_right (reverse b) false

-- the texts of bytes, where a right byte stands before them or not, and after them or not
unfoldable pub texts : Bool → List ℕ → Bool → List ℕ
texts before [] after = []
texts before (a ∷ b) after = text before a (begins_right b after) ++ texts (is_right a) b after

-- the seven-bit form of bytes
abbrev pub seven : List ℕ → List ℕ
seven b = texts false b false

-- the same without the SI after a last right byte, as if a right byte came next
abbrev pub unclosed : List ℕ → List ℕ
unclosed b = texts false b true

-- the shift between two bytes, each of which is right or not
abbrev pub shift_between : Bool → Bool → List ℕ
shift_between before right = if before && not right then 0x0F ∷ [] else if right && not before then 0x0E ∷ [] else []

-- the text of a byte without shifts
abbrev pub own_text : ℕ → List ℕ
own_text a = text true a true

-- what one byte more adds to it: the shift from the byte before, and its own text
abbrev pub text_added : Bool → ℕ → List ℕ
text_added before a = shift_between before (is_right a) ++ own_text a

-- what the end adds to it
abbrev pub text_at_end : Bool → List ℕ
text_at_end before = if before then 0x0F ∷ [] else []
