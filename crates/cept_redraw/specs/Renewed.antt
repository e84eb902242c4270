-- Rows that are renewed (this project's own): each that looks otherwise than the row of which it came, and each that was
-- freed, which came of none. Each of them must be resolved.
use Rattle.std.specs.Prelude.{ℕ, Bool, true, not, List, Option, Some, None}
use Rattle.std.specs.List.{count_by, list_any, range_with_len}
use Rattle.cept_codes.specs.declared.look.Look.{Look}
use Rattle.cept_codes.specs.declared.stroke.Stroke.{Stroke}
use Rattle.cept_codes.specs.Look.{blank_look}
use Rattle.cept_codes.specs.Same.{same_look}
use Rattle.cept_codes.specs.Table.{value_at}
use Rattle.cept_profile.specs.MovedRows.{row_before}

-- row q of a grid of looks and row r of another look otherwise in some column
abbrev pub look_otherwise : List (List Look) → ℕ → List (List Look) → ℕ → Bool
look_otherwise was q now r =
    list_any (λ c. not (same_look (value_at blank_look was q c) (value_at blank_look now r c))) (range_with_len 1 40)

-- row r is renewed, which came of this row or was freed
abbrev pub is_renewed_from : List (List Look) → Option ℕ → List (List Look) → ℕ → Bool
is_renewed_from was None now r = true
is_renewed_from was (Some q) now r = look_otherwise was q now r

-- how many rows of the screen strokes renew, where these were and are the looks
unfoldable pub rows_renewed : List Stroke → List (List Look) → List (List Look) → ℕ
rows_renewed strokes was now = count_by (λ r. is_renewed_from was (row_before strokes r) now r) (range_with_len 1 24)
