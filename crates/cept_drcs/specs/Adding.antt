-- What a byte adds to a block (this profile's own): the lines of it, and the half line after them.
use Rattle.std.specs.Prelude.{ℕ, ◌+◌, ◌-◌, ◌*◌, Bool, not, ◌&&◌, ◌||◌, List, [], ◌∷◌, length, slice_index, nat_lt}
use Rattle.std.specs.Prelude.{if◌then◌else◌, ◌==◌, Option, Some, None}
use Rattle.std.specs.List.{fold}
use Rattle.cept_codes.specs.declared.command.Form.{Form}
use Rattle.cept_drcs.specs.Block.{has_pixels, six, sign_lines, BlockPart, with_byte}
use Rattle.cept_drcs.specs.Bytes.{is_between}

-- a sign of whole lines: 2/0 to 2/15 without 2/11
abbrev pub is_sign : ℕ → Bool
is_sign a = is_between 0x20 0x2F a && not (a == 0x2B)

-- whole lines alone
abbrev pub whole : List ℕ → BlockPart
whole ls = record { lines = ls; half = None }

-- what a byte adds, where this many lines are left, this is the line before and this is the half line
unfoldable pub adds : ℕ → ℕ → ℕ → Option ℕ → ℕ → BlockPart
adds w room before None a =
    if has_pixels a then (if w == 6 then whole (six a ∷ []) else record { lines = []; half = Some (six a) }) else
    whole (sign_lines w room before a)
adds w room before (Some l) a =
    if has_pixels a then whole ((l + 64 * six a) ∷ []) else
    whole (l ∷ sign_lines w (room - 1) l a)

-- a byte may come where so many lines are left. A half line is none of the lines, so the last may be completed
abbrev pub may_come : ℕ → ℕ → Bool
may_come room a = nat_lt 0 room && (has_pixels a || is_sign a)

-- the last of these lines, 0 where there is none
abbrev pub last_line : List ℕ → ℕ
last_line ls = slice_index ls (length ls - 1)

-- a part of a block, with one byte more
abbrev pub part_after_byte : Form → BlockPart → ℕ → BlockPart
part_after_byte f d a = with_byte f d.lines d.half a

-- with these bytes more
abbrev pub part_after_bytes : Form → BlockPart → List ℕ → BlockPart
part_after_bytes f d u = fold (part_after_byte f) d u
