-- What private clauses say beside `Fields` (this project's own).
use Rattle.cept_profile.specs.Control.{Working}
use Rattle.cept_control.specs.declared.working.Working.TheInside.{Inside as WorkingInside}

-- the working state with these fields
abbrev pub working_of : WorkingInside → Working
working_of w = record {
  row = w.row;
  column = w.column;
  c1 = w.c1;
  sets = w.sets;
  accent = w.accent;
  last = w.last;
  pen = w.pen;
  fast = w.fast;
  run = w.run;
  step = w.step;
  table = w.table;
  protect = w.protect;
}

-- the fields of a working state
abbrev pub working_fields : Working → WorkingInside
working_fields w = record {
  row = w.row;
  column = w.column;
  c1 = w.c1;
  sets = w.sets;
  accent = w.accent;
  last = w.last;
  pen = w.pen;
  fast = w.fast;
  run = w.run;
  step = w.step;
  table = w.table;
  protect = w.protect;
}
