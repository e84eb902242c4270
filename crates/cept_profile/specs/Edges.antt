-- Edges (own): no sign that begins in a last row is high. Which rows are last depends on the edges alone.
use Rattle.std.specs.Prelude.{ℕ, ◌+◌, ◌==◌, ◌||◌, Bool, false, Option, None, nat_le, if◌then◌else◌}
use Rattle.std.specs.Option.{option_map_or}
use Rattle.cept_profile.specs.Motions.{area_within}
use Rattle.cept_profile.specs.State.{Core}
use Rattle.cept_profile.specs.Working.{ControlState}

-- what decides which rows are last: the rows of the format, and the area whose edges no sign crosses, if there is one
pub record Edges : Type 0 where
  pub rows : ℕ
  pub area : Option (ℕ × ℕ)

-- the edges of so many rows under a revision: under the second no sign crosses those of an area within the format
abbrev pub edges_under : ℕ → ℕ → Option (ℕ × ℕ) → Edges
edges_under rows revision area = record { rows = rows; area = if revision == 2 then area_within rows area else None }

-- the edges of a core
abbrev pub edges_of_core : Core → Edges
edges_of_core k = edges_under k.rows k.revision k.area

-- the edges under a control state, which are those of the core that is of it
abbrev pub edges_of : ControlState → Edges
edges_of s = edges_under s.rows s.revision s.area

-- the row is at an edge of the area, if there is one: it is the one above its first, or its last
abbrev pub is_at_edge : Option (ℕ × ℕ) → ℕ → Bool
is_at_edge area r = option_map_or (λ edges. r + 1 == edges.0 || r == edges.1) area false

-- the row is last: from the last one of the format on all are, and those at an edge
abbrev pub is_last : Edges → ℕ → Bool
is_last edges r = nat_le edges.rows r || is_at_edge edges.area r
