-- A run over a glass that was blank (this project's own).
use Rattle.std.specs.Prelude.{◌≡◌, ℕ, List, [], Option, Some, None}
use Rattle.cept_codes.specs.declared.look.Look.{Look}
use Rattle.cept_codes.specs.Look.{blank_look}
use Rattle.cept_codes.specs.Table.{table}
use Rattle.cept_outside.specs.ShelfState.{ShelfState}
use Rattle.cept_outside.specs.SinkState.{SinkState}
use Rattle.cept_profile.specs.Look.{grid}
use Rattle.cept_repaint.specs.ArrayGlass.{array_glass_state}
use Rattle.cept_repaint.specs.GlassState.{GlassState}
use Rattle.cept_repaint.specs.declared.array_glass.ArrayGlass.{ArrayGlass}
use Rattle.cept_run.specs.Outside.{outside_of}
use Rattle.cept_run.specs.Run.{Runs}
use Rattle.cept_run.specs.Words.{Request, request_of}
use Rattle.cept_run.specs.declared.run.Status.{Status}

-- what a glass shows that is blank until it is painted
abbrev pub late_grid : Option ArrayGlass → List (List Look)
late_grid None = table (λ _ _. blank_look)
late_grid (Some glass) = (array_glass_state glass).grid

-- the program ran on a request over a shelf, a sink and some glass that was blank
pub record RunsOverBlank (request : Request) (shelf : ShelfState) (sink : SinkState) (shelf_after : ShelfState)
    (sink_after : SinkState) (status : Status) : Type 0 where
  pub before : GlassState
  pub after : GlassState
  pub blank : before.grid ≡ grid []
  pub runs : (words : List (List ℕ)) → request_of words ≡ Some request
      → Runs words (outside_of shelf sink before) (outside_of shelf_after sink_after after) status
