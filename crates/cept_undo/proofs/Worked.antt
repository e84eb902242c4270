-- Worked words of a past and a future, by computing: how many edits are kept, and what an undo or a redo hands on.
use Rattle.std.proofs.Common.{◌≡◌, [], ◌∷◌, Some, None, refl}
use Rattle.cept_profile.specs.OldValues.{OldValues}
use Rattle.cept_profile.specs.State.{State}
use Rattle.cept_undo.specs.Past.{count_begun, handed_on, most_kept, nearest}

most : most_kept ≡ 64
most = refl

module _ (now first second behind : State) (values : OldValues) where
  -- an undo or a redo goes to the first state ahead, and where there is none it stays
  ahead : nearest (first ∷ second ∷ []) now ≡ first
  ahead = refl

  alone : nearest [] now ≡ now
  alone = refl

  -- the state before it comes first of those behind
  handed : handed_on (first ∷ second ∷ []) now (behind ∷ []) ≡ now ∷ behind ∷ []
  handed = refl

  kept_back : handed_on [] now (behind ∷ []) ≡ behind ∷ []
  kept_back = refl

  begun : count_begun (Some values) ≡ 1
  begun = refl

none_begun : count_begun None ≡ 0
none_begun = refl
