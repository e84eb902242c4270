-- What private clauses say beside `Kept` (this project's own).
use Rattle.std.specs.Prelude.{ℕ, ◌≡◌, ◌≤◌, None}
use Rattle.cept_drcs.specs.Loading.{Loading, room}

-- the open plane has so many lines left, and no half line stands before them
pub record HasRoomFor (l : Loading) (lines : ℕ) : Type 0 where
  pub whole : l.half ≡ None
  pub enough : lines ≤ room l
