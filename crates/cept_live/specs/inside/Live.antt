-- What private clauses say beside `Live` (this project's own).
use Rattle.std.specs.Prelude.{◌≡◌, ℕ, ◌+◌, ◌*◌, ◌≤◌, Bool, List, ◌++◌, length}
use Rattle.cept_codes.specs.declared.item.Item.{Item}
use Rattle.cept_profile.specs.State.{State}
use Rattle.cept_live.specs.declared.notice.Notice.{Notice}
use Rattle.cept_live.specs.Notices.{sayings_after}
use Rattle.cept_live.specs.Renewed.{marked_with}
use Rattle.cept_live.specs.Live.{Stands, Tells}

-- items were taken by a screen, what they say is told, and its places are marked
pub record TakesItems (old : State) (marks : List Bool) (more : List Item) (list : List Notice) (from : ℕ) (new : State)
    (marked : List Bool) (to : ℕ) (now : List Notice) : Type 0 where
  pub most : to ≤ from + 960 * length more
  pub room : length now ≡ length list
  pub stands : (seen : List Item) → Stands old seen → Stands new (seen ++ more)
  pub tells : (seen : List Item) → Stands old seen → Tells list from (sayings_after seen more) to now
  pub marks_are : (seen : List Item) → Stands old seen → marked ≡ marked_with marks (sayings_after seen more)
