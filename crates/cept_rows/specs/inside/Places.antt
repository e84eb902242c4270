-- Places of a row, kept one after the other (own).
use Rattle.std.specs.Prelude.{ℕ, ◌≡◌, ◌≤◌, ◌<◌, ◌+◌, Bool, false, None, List}
use Rattle.cept_codes.specs.declared.look.Look.{Look}
use Rattle.cept_profile.specs.Look.{part_of, shape_in}
use Rattle.cept_profile.specs.Serial.{row_in}
use Rattle.cept_profile.specs.Tiling.{is_covered_from_left}
use Rattle.cept_rows.specs.declared.drawing.Drawing.{Drawing}
use Rattle.cept_rows.specs.declared.small_look.SmallLook.{SmallLook}
use Rattle.cept_rows.specs.Flagged.{look_at}
use Rattle.cept_rows.specs.inside.Flagged.{with_look}
use Rattle.cept_rows.specs.SmallLooks.{IsSmallLook, has_pattern, look_kept, no_drawing}
use Rattle.cept_rows.specs.inside.SmallLooks.{drawing_of}
use Rattle.cept_rows.specs.RowsByCell.{FollowsToTheRight}
use Rattle.cept_rows.specs.Source.{Source, place_made, row_made}

-- the drawing of what stands in a column
abbrev pub own_drawing : Source → ℕ → Drawing
own_drawing source c = drawing_of (shape_in source.defined (row_in source.cells c) None)

-- a look with its drawing in a column
abbrev pub with_drawn : List Look → ℕ → SmallLook → Drawing → List Look
with_drawn looks c small drawing = with_look looks c (look_kept small drawing)

-- a look without a pattern
pub record IsPlainLook (look : SmallLook) : Type 0 where
  pub plain : has_pattern look ≡ false
  pub small : IsSmallLook look no_drawing

-- one place down
abbrev pub look_below : Look → Look
look_below look = record look { dy = 1 }

-- one place to the right
abbrev pub look_beside : Look → Look
look_beside look = record look { dy = 0; dx = 1 }

-- the place to the right of a column is covered from the left
abbrev pub covers_next : Source → List Look → ℕ → Bool
covers_next source above c =
    is_covered_from_left (part_of (look_at above c)) (part_of (place_made source above c))

-- a row, of which the looks left of a column are made, and those right of another follow their left neighbours
pub record IsMadeBeside (made : ℕ → Look) (from until : ℕ) (looks : List Look) : Type 0 where
  pub left : (c : ℕ) → 1 ≤ c → c < from → look_at looks c ≡ made c
  pub right : FollowsToTheRight until (look_at looks) made

-- the row is made from a column on, and to the right of another one all stayed as they were
pub record IsMadeFrom (source : Source) (above : List Look) (from end : ℕ) (was now : List Look) : Type 0 where
  pub looks : now ≡ row_made source above
  pub order : from ≤ end + 1
  pub to_right : end ≤ 40
  pub stays : (c : ℕ) → end < c → c ≤ 40 → look_at now c ≡ look_at was c
