-- Pattern units, on the whole list of their bytes: 30 and a block, and then openers with a block each (this profile's
-- own).
use Rattle.std.specs.List.{list_any, range_with_len}
use Rattle.std.specs.Prelude.{◌≡◌, ◌<◌, ◌++◌, if◌then◌else◌, slice_index}
use Rattle.std.specs.Prelude.{ℕ, ◌+◌, ◌*◌, ◌/◌, ◌%◌, ◌^◌, Bool, true, false, ◌&&◌, List, [], map}
use Rattle.std.specs.Prelude.{◌∷◌, ◌==◌, nat_lt, nat_le}
use Rattle.cept_codes.specs.declared.command.Form.{Form}
use Rattle.cept_codes.specs.declared.look.Pattern.{Pattern}
use Rattle.cept_drcs.specs.Block.{blank, all_may_come, block_lines}
use Rattle.cept_drcs.specs.Cut.{Block, blocks}

-- blocks of planes that ascend strictly, from this one on, and are planes of the form
unfoldable pub are_blocks : Form → ℕ → List Block → Bool
are_blocks f p [] = true
are_blocks f p (b ∷ bs) =
    nat_le p b.plane && (nat_lt b.plane f.planes && (all_may_come f blank b.bytes && are_blocks f (b.plane + 1) bs))

-- these bytes are a pattern unit: the first opens plane 0
unfoldable pub is_pattern : Form → List ℕ → Bool
is_pattern f [] = false
is_pattern f (a ∷ u) = a == 0x30 && are_blocks f 0 (blocks (a ∷ u))

-- a byte fits after a unit
unfoldable pub pattern_grows : Form → List ℕ → Bool
pattern_grows f u = list_any (λ a. is_pattern f (u ++ a ∷ [])) (range_with_len 0 256)

-- a byte makes a longer unit of these bytes
pub record IsLonger (f : Form) (u : List ℕ) : Type 0 where
  pub byte : ℕ
  pub small : byte < 256
  pub longer : is_pattern f (u ++ byte ∷ []) ≡ true

-- lines from line n of all planes on, each at its bit of a row of bits: bit x of line n is number n * w + x
unfoldable pub lines_from : ℕ → ℕ → List ℕ → ℕ
lines_from w n [] = 0
lines_from w n (l ∷ ls) = l * 2 ^ (n * w) + lines_from w (n + 1) ls

-- the lines of each block from the first of its plane on. Planes without a block are 0
unfoldable pub blocks_number : Form → List Block → ℕ
blocks_number f [] = 0
blocks_number f (b ∷ bs) = lines_from f.w (b.plane * f.h) (block_lines f b.bytes) + blocks_number f bs

-- the pattern of these bytes: the number of its blocks is its bits, in nine words of 64, the lowest first
abbrev pub pattern : Form → List ℕ → Pattern
pattern f u =
    let n = blocks_number f (blocks u) in
    record { w = f.w; h = f.h; planes = f.planes; bits = map (λ k. n / 2 ^ (64 * k) % 2 ^ 64) (range_with_len 0 9) }

-- the lines of this plane among blocks, none where it has no block
unfoldable pub plane_lines : Form → ℕ → List Block → List ℕ
plane_lines f p [] = []
plane_lines f p (b ∷ bs) = if b.plane == p then block_lines f b.bytes else plane_lines f p bs

-- the pixel of column x and line y that these bytes draw in a plane, 0 where there is no such line
abbrev pub drawn_pixel : Form → List ℕ → ℕ → ℕ → ℕ → ℕ
drawn_pixel f u p y x = slice_index (plane_lines f p (blocks u)) y / 2 ^ x % 2
