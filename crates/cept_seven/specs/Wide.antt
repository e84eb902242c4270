-- Bytes with each C1 code in its form of two bytes, and what bytes say (this project's own).
use Rattle.std.specs.Prelude.{ℕ, ◌-◌, List, [], ◌∷◌, map, if◌then◌else◌}
use Rattle.std.specs.List.{flat_map}
use Rattle.cept_codes.specs.declared.item.Said.{Said}
use Rattle.cept_parser.specs.Items.{closed_items}
use Rattle.cept_seven.specs.Seven.{is_c1}

-- a byte; a C1 code as ESC and a byte of columns 4 and 5
abbrev pub wide_byte : ℕ → List ℕ
wide_byte a = if is_c1 a then 0x1B ∷ (a - 0x40) ∷ [] else a ∷ []

-- bytes with each C1 code in two bytes
abbrev pub wide : List ℕ → List ℕ
wide b = flat_map wide_byte b

-- the commands and reasons of bytes that end here, without places and lengths
abbrev pub says : List ℕ → List Said
says b = map (λ i. i.what) (closed_items b)
