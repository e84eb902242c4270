-- The states of control for which the fields of the code's own types stand, and the fields that stand for them.
use Rattle.cept_profile.specs.Control.{ControlState}
use Rattle.cept_control.specs.declared.control.Control.TheInside.{Inside as ControlInside}

-- the state with these fields
abbrev pub state_of : ControlInside → ControlState
state_of c = record {
  working = c.working;
  rows = c.rows;
  wrap = c.wrap;
  area = c.area;
  implicit = c.implicit;
  revision = c.revision;
  kept = c.kept;
}

-- the fields of a state
abbrev pub state_fields : ControlState → ControlInside
state_fields s = record {
  working = s.working;
  rows = s.rows;
  wrap = s.wrap;
  area = s.area;
  implicit = s.implicit;
  revision = s.revision;
  kept = s.kept;
}
