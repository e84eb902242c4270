-- The edits of an editor while one goes on.
use Rattle.std.proofs.Common.{◌∙◌}
use Rattle.cept_profile.specs.State.{State}
use Rattle.cept_undo.specs.Past.{Edits, StaysBegun}

-- one state more
pub StaysBegun-more : {old now new : Edits} {before mid after : State} → StaysBegun old before now mid
    → StaysBegun now mid new after → StaysBegun old before new after
StaysBegun-more first second = assumption (second.past ∙ first.past, second.at_begin ∙ first.at_begin)
