-- What private clauses say beside `ScriptReading` (this project's own).
use Rattle.std.specs.Prelude.{◌≡◌, ℕ, ◌^◌, List, IsSome}
use Rattle.cept_editor.specs.declared.script.ScriptFault.{ScriptFault}
use Rattle.cept_editor.specs.declared.script.ScriptFault.TheVariants as faults
use Rattle.cept_outside.specs.ShelfState.{ShelfState, KeepsFiles, bytes_under}
use Rattle.cept_outside.specs.SinkState.{SinkState}
use Rattle.cept_plot.specs.declared.drawing.DrawFault.{DrawFault}
use Rattle.cept_plot.specs.declared.drawing.DrawFault.TheVariants as draw_faults
use Rattle.cept_report.specs.Text.{script_fault_line}
use Rattle.cept_run.specs.declared.page.Stop.{Stop}
use Rattle.cept_run.specs.declared.page.Stop.TheVariants as stops
use Rattle.cept_run.specs.Outside.{PutsWhole, PutsUnflushed}
use Rattle.cept_run.specs.Course.{Grammar, ScriptSource, ScriptFile, IsReadFirst}
use Rattle.cept_run.specs.Taking.{TakesUnread, TakesTooMany}

-- why the taking of a script stops
abbrev pub TakingStops : (List ℕ → Type 0) → ShelfState → Stop → ShelfState → Type 0
TakingStops Told before stops.ReadFault after = TakesUnread (2 ^ 20) before after
TakingStops Told before stops.TooLong after = TakesTooMany Told (2 ^ 20) before after
TakingStops Told before stops.NoMemory after = after.faults ≡ before.faults
TakingStops Told before _ after = ⊥

-- the line of a fault was put, whole and flushed, or the sink failed
abbrev pub Refuses : List ℕ → SinkState → Stop → SinkState → Type 0
Refuses text old stops.WriteFault new = PutsUnflushed text old new
Refuses text old stops.Script new = PutsWhole text old new
Refuses text old _ new = ⊥

-- what is answered and put by the fault of a script
abbrev pub StopsAt : ScriptFault → SinkState → Stop → SinkState → Type 0
StopsAt (faults.BadLine line reason) old stop new = Refuses (script_fault_line line reason) old stop new
StopsAt faults.NoMemory old stop new = (stop ≡ stops.NoMemory) × (new ≡ old)

-- the fault of a drawing as that of a script
abbrev pub as_script_fault : DrawFault → ScriptFault
as_script_fault (draw_faults.BadLine line reason) = faults.BadLine line reason
as_script_fault draw_faults.NoMemory = faults.NoMemory

-- ---- before a page is selected

-- the script was read, if one is asked for: it has these bytes
pub record ScriptKnown (script : ScriptSource) (bytes : List ℕ) (before after : ShelfState) : Type 0 where
  pub is : IsReadFirst before script bytes
  -- the files stay, none that is there was missed, and no fault was counted
  pub files : KeepsFiles before after
  pub missed : ((grammar : Grammar) (name : List ℕ) → script ≡ ScriptFile grammar name → IsSome (bytes_under before name))
      → after.missed ≡ before.missed
  pub stays : after.faults ≡ before.faults
