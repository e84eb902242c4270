-- What a shelf tells is sound where it tells no files and no selection. This project's own. It holds proofs: a ghost
-- member of an object can cite specs alone, and `sound` cites these.
use Rattle.std.specs.Prelude.{ℕ, Bool, List, Option, Some, None, refl}
use Rattle.std.proofs.lemmas.Option.{none-some}
use Rattle.cept_outside.specs.FileShelf.{untold_shelf}
use Rattle.cept_outside.specs.ShelfState.{IsSound}

-- a shelf that tells no files and no selection tells nothing false
pub untold_shelf_is_sound : (taken : ℕ) (ended : Bool) (faults : ℕ) → IsSound (untold_shelf taken ended faults)
untold_shelf_is_sound taken ended faults = record {
  together = refl;
  left = λ name e _. absurd (none-some (Some name) e);
  within = λ name bytes e _. absurd (none-some (Some name) e);
  nothing = λ e. absurd (none-some {A = Option (List ℕ)} None e);
  ended = λ _ bytes e. absurd (none-some bytes e);
}
