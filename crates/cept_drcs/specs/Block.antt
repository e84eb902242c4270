-- Blocks of pattern units: what their bytes add to the lines of a plane (this profile's own). A line is a number whose
-- bit x, of worth 2 ^ x, is the pixel of column x.
use Rattle.std.specs.Prelude.{ℕ, ◌+◌, ◌-◌, ◌*◌, ◌/◌, ◌%◌, ◌^◌, Bool, true, not, ◌&&◌, ◌||◌, List, [], ◌∷◌, ◌++◌, length}
use Rattle.std.specs.Prelude.{slice_index, replicate, if◌then◌else◌, ◌==◌, nat_lt, min, Option, Some, None}
use Rattle.std.specs.List.{fold}
use Rattle.std.specs.Option.{option_to_list}
use Rattle.cept_codes.specs.declared.command.Form.{Form}
use Rattle.cept_drcs.specs.Bytes.{is_between}

-- a byte of columns 4 to 7, which carries six pixels
abbrev pub has_pixels : ℕ → Bool
has_pixels a = is_between 0x40 0x7F a

-- six pixels: the left one stands in the highest of the six low bits of the byte
abbrev pub six : ℕ → ℕ
six a = a / 32 % 2 + 2 * (a / 16 % 2) + 4 * (a / 8 % 2) + 8 * (a / 4 % 2) + 16 * (a / 2 % 2) + 32 * (a % 2)

-- the lines of a sign, where this many are left; those that the block has no room for are dropped
abbrev pub sign_lines : ℕ → ℕ → ℕ → ℕ → List ℕ
sign_lines w room before a =
    if is_between 0x21 0x2A a then replicate (min (a - 0x20) room) before else  -- one to ten like the line before
    if a == 0x20 then replicate room 0 else  -- of 0 to the end of the block
    if a == 0x2C then replicate (min 1 room) 0 else  -- one of 0
    if a == 0x2D then replicate (min 1 room) (2 ^ w - 1) else  -- one of 1
    if a == 0x2E then replicate room before else  -- like the line before to the end of the block
    replicate room (2 ^ w - 1)  -- 2F: of 1 to the end of the block

-- a part of a block: lines, and the first six pixels of a line whose other six aren't read, a half line
pub record BlockPart : Type 0 where
  pub lines : List ℕ
  pub half : Option ℕ

-- nothing yet
abbrev pub blank : BlockPart
blank = record { lines = []; half = None }

-- a block with these lines and this half line, and a byte more: one with pixels is a line of 6, begins one of 12 or
-- completes it; a sign first completes a half line with pixels of 0
unfoldable pub with_byte : Form → List ℕ → Option ℕ → ℕ → BlockPart
with_byte f ls None a =
    let before = slice_index ls (length ls - 1) in  -- 0 at the start of the block
    if not (has_pixels a) then record { lines = ls ++ sign_lines f.w (f.h - length ls) before a; half = None } else
    if f.w == 6 then record { lines = ls ++ six a ∷ []; half = None } else
    record { lines = ls; half = Some (six a) }
with_byte f ls (Some l) a =
    let more = if has_pixels a then (l + 64 * six a) ∷ [] else l ∷ sign_lines f.w (f.h - length ls - 1) l a in
    record { lines = ls ++ more; half = None }

-- each of these bytes may come: a line is left, and it has pixels or is a sign of whole lines, 2/0 to 2/15 without 2/11.
-- A half line is none of the lines, so the last may be completed
unfoldable pub all_may_come : Form → BlockPart → List ℕ → Bool
all_may_come f d [] = true
all_may_come f d (a ∷ u) =
    nat_lt (length d.lines) f.h && (has_pixels a || is_between 0x20 0x2F a && not (a == 0x2B))
    && all_may_come f (with_byte f d.lines d.half a) u

-- the lines of a block from the top: at its end a half line is completed with pixels of 0. Those that are missing are 0
abbrev pub block_lines : Form → List ℕ → List ℕ
block_lines f u = let d = fold (λ d a. with_byte f d.lines d.half a) blank u in d.lines ++ option_to_list d.half
