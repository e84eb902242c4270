-- Lines cut into strips of six pixels, from the left and from the top (this project's own). A loader keeps the byte of
-- each strip.
use Rattle.std.specs.Prelude.{ℕ, zero, suc, ◌≡◌, ◌+◌, ◌*◌, ◌/◌, ◌%◌, ◌^◌, ◌≤◌, List, [], ◌∷◌, map, slice_index}
use Rattle.std.specs.Prelude.{if◌then◌else◌, ◌==◌, Option, Some, None}
use Rattle.cept_drcs.specs.Block.{six}

-- the six pixels of a byte
unfoldable pub strip_of : ℕ → ℕ
strip_of a = six a

-- a line of 12 pixels, of the bytes of its strips
unfoldable pub line_of_strips : ℕ → ℕ → ℕ
line_of_strips a b = strip_of a + 64 * strip_of b

-- lines of 12 pixels, two strips each
unfoldable pub in_pairs : List ℕ → List ℕ
in_pairs [] = []
in_pairs (a ∷ []) = []
in_pairs (a ∷ b ∷ ss) = line_of_strips a b ∷ in_pairs ss

-- the strip that is left over
unfoldable pub left_over : List ℕ → Option ℕ
left_over [] = None
left_over (a ∷ []) = Some (strip_of a)
left_over (a ∷ b ∷ ss) = left_over ss

-- whole lines of this width
abbrev pub whole_lines : ℕ → List ℕ → List ℕ
whole_lines w ss = if w == 6 then map strip_of ss else in_pairs ss

-- the half line after them
abbrev pub half_of : ℕ → List ℕ → Option ℕ
half_of w ss = if w == 6 then None else left_over ss

-- how many strips so many lines are
abbrev pub strips_in : ℕ → ℕ → ℕ
strips_in w n = if w == 6 then n else 2 * n

-- the same two so many times
unfoldable pub pairs : ℕ → ℕ → ℕ → List ℕ
pairs zero a b = []
pairs (suc n) a b = a ∷ b ∷ pairs n a b

-- so many strips from this one on, each at its bit of a row of bits
unfoldable pub number_of : ℕ → ℕ → List ℕ → ℕ
number_of zero i ss = 0
number_of (suc n) i ss = strip_of (slice_index ss i) + 64 * number_of n (i + 1) ss

-- a number in words of 64 bits, the lowest first
unfoldable pub words : ℕ → ℕ → List ℕ
words zero n = []
words (suc k) n = (n % 2 ^ 64) ∷ words k (n / 2 ^ 64)

-- at most 96 strips, and what stands in the room after them is 0
pub record AreKeptStrips (room : List ℕ) (count : ℕ) : Type 0 where
  pub few : count ≤ 96
  pub clear : (k : ℕ) → count ≤ k → slice_index room k ≡ 0
