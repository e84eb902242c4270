-- Bytes of pattern units cut at their openers: 30 to 33 open planes 0 to 3 (this profile's own).
use Rattle.std.specs.Prelude.{ℕ, ◌-◌, Bool, List, [], ◌∷◌, if◌then◌else◌}
use Rattle.std.specs.List.{before_first}
use Rattle.cept_drcs.specs.Bytes.{is_between}

-- a byte that opens a plane
abbrev pub is_opener : ℕ → Bool
is_opener a = is_between 0x30 0x33 a

-- a plane, and the bytes after its opener
pub record Block : Type 0 where
  pub plane : ℕ
  pub bytes : List ℕ

-- the blocks of bytes: each goes on to the next opener, and before the first there is none
unfoldable pub blocks : List ℕ → List Block
blocks [] = []
blocks (a ∷ u) =
    if is_opener a then record { plane = a - 0x30; bytes = before_first is_opener u } ∷ blocks u else
    blocks u
