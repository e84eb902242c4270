-- A state of its parts, and what a screen keeps beside it (this project's own).
use Rattle.std.specs.Prelude.{◌≡◌, List}
use Rattle.cept_codes.specs.declared.look.Look.{Look}
use Rattle.cept_profile.specs.Control.{ControlState}
use Rattle.cept_profile.specs.Look.{looks_of}
use Rattle.cept_profile.specs.State.{Page, State, core_of}
use Rattle.cept_profile.specs.Valid.{IsValidState}
use Rattle.cept_redraw.specs.Named.{AreNamed, NamesOfRows}

-- the state with this page and this control
abbrev pub state_of_parts : Page → ControlState → State
state_of_parts p c = record { page = p; control = c }

-- the state is valid, the kept looks are those of its core, and so are the names that are known
pub record IsKept (s : State) (kept : List (List Look)) (names : NamesOfRows) : Type 0 where
  pub valid : IsValidState s
  pub looks : kept ≡ looks_of (core_of s)
  pub named : AreNamed names (core_of s)
