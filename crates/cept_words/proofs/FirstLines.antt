-- The first line of bytes, where a byte ends it, and the lines after it.
use Rattle.std.proofs.Common.{◌≡◌, ℕ, ◌+◌, ◌-◌, ◌<◌, Bool, ◌==◌, List, [], ◌∷◌, length, take, drop, refl, ap, ◌∙◌, arith}
use Rattle.std.specs.List.{slice_split}
use Rattle.std.proofs.lemmas.List.{length-drop}
use Rattle.std.proofs.lemmas.List.Splits.{length-slice_split}
use Rattle.cept_words.specs.Cut.{IsFirstLine}
use Rattle.cept_words.specs.Lines.{lines_of_parts}

-- a part before some parts
line_before : (part : List ℕ) (parts : List (List ℕ)) → 0 < length parts
    → lines_of_parts (part ∷ parts) ≡ part ∷ lines_of_parts parts
line_before part [] l = absurd (omega arith)
line_before part (next ∷ parts) l = refl

-- the byte that ends a line
abbrev ends_line : ℕ → Bool
ends_line a = a == 0x0A

pub line_ended : (bytes part rest : List ℕ) → slice_split ends_line bytes ≡ part ∷ slice_split ends_line rest
    → part ≡ take (length part) bytes → rest ≡ drop (length part + 1) bytes → length part < length bytes
    → IsFirstLine bytes part rest
line_ended bytes part rest parts start after less =
    let size : length rest ≡ length bytes - (length part + 1) = ap length after ∙ length-drop (length part + 1) bytes in
    record {
      lines =
          ap lines_of_parts parts
          ∙ line_before part (slice_split ends_line rest) (omega (arith, length-slice_split ends_line rest));
      start = start;
      within = omega (arith, less);
      after = after;
      shorter = omega (arith, size, less);
    }
