-- What private clauses say beside `Loading` (this project's own).
use Rattle.std.specs.Prelude.{None}
use Rattle.cept_drcs.specs.Loading.{Loading, all_lines}

-- the same, with no half line
abbrev pub completed_loading : Loading → Loading
completed_loading l = record l { lines = all_lines l; half = None }
