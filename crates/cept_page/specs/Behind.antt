-- The page to which another unwinds by what a noter has noted, none where it takes no notes (this project's own).
use Rattle.std.specs.Prelude.{Option, option_map}
use Rattle.cept_profile.specs.Control.{ControlState}
use Rattle.cept_profile.specs.OldValues.{OldValues, page_unwound}
use Rattle.cept_profile.specs.State.{Page}

-- a page to which another unwinds, and what is noted of control
pub record PageBehind : Type 0 where
  pub page : Page
  pub control : Option ControlState

-- to what this page unwinds by what is noted, where anything may be noted
unfoldable pub page_behind : Option OldValues → Page → Option PageBehind
page_behind noted p = option_map (λ old. record { page = page_unwound p old; control = old.control }) noted
