-- How the reading of a script or of a drawing ends, before the page is selected. The bytes that were read are those of the
-- file, where the shelf tells it. This project's own.
use Rattle.std.specs.Prelude.{◌≡◌, ℕ, ◌^◌, ◌≤◌, List, Some, None, IsSome, Result, Ok, Err}
use Rattle.cept_words.specs.Faults.{Fault}
use Rattle.cept_outside.specs.ShelfState.{ShelfState, KeepsFiles, bytes_under}
use Rattle.cept_outside.specs.SinkState.{SinkState}
use Rattle.cept_run.specs.declared.page.Stop.{Stop}
use Rattle.cept_run.specs.declared.page.Stop.TheVariants as stops
use Rattle.cept_run.specs.Outside.{PutsWhole, PutsUnflushed}
use Rattle.cept_run.specs.Course.{Gives, SelectsNoOther, Grammar, first_fault_in, ScriptFile, sequel_in}
use Rattle.cept_run.specs.Events.{Sequel}
use Rattle.cept_report.specs.Text.{script_fault_line}
use Rattle.cept_run.specs.Taking.{TakesWhole, TakesUnread, TakesTooMany}

-- it is within the grammar, and says that this is done
pub record ScriptWhole (grammar : Grammar) (name : List ℕ) (sequel : Sequel) (before after : ShelfState) : Type 0 where
  pub bytes : List ℕ
  pub takes : TakesWhole (Gives before name) (2 ^ 20) bytes before after
  pub good : first_fault_in grammar bytes ≡ None
  pub are : sequel ≡ sequel_in (ScriptFile grammar name) bytes

-- a line of it is outside the grammar, and this was put of the line that says so
pub record ScriptRefused (grammar : Grammar) (name : List ℕ) (before after : ShelfState) (Put : List ℕ → Type 0) : Type 0
  where
    pub bytes : List ℕ
    pub takes : TakesWhole (Gives before name) (2 ^ 20) bytes before after
    pub fault : Fault
    pub found : first_fault_in grammar bytes ≡ Some fault
    pub put : Put (script_fault_line fault.line fault.reason)

-- why the reading of a file stops
abbrev pub ScriptStops : Grammar → List ℕ → ShelfState → SinkState → Stop → ShelfState → SinkState → Type 0
ScriptStops grammar name before old stops.ReadFault after new = TakesUnread (2 ^ 20) before after × (new ≡ old)
ScriptStops grammar name before old stops.WriteFault after new =
    ScriptRefused grammar name before after (λ text. PutsUnflushed text old new)
ScriptStops grammar name before old stops.TooLong after new =
    TakesTooMany (Gives before name) (2 ^ 20) before after × (new ≡ old)
ScriptStops grammar name before old stops.Script after new =
    ScriptRefused grammar name before after (λ text. PutsWhole text old new)
ScriptStops grammar name before old stops.NoMemory after new = (new ≡ old) × (after.faults ≡ before.faults)
ScriptStops grammar name before old stops.NotSeven after new = ⊥

-- how it ends, where what was read says that this is done
abbrev pub ScriptEnds : {A : Type 0} → Grammar → (A → Sequel) → List ℕ → ShelfState → SinkState → Result A Stop
    → ShelfState → SinkState → Type 0
ScriptEnds grammar sequel name before old (Ok read) after new =
    ScriptWhole grammar name (sequel read) before after × (new ≡ old)
ScriptEnds grammar sequel name before old (Err stop) after new = ScriptStops grammar name before old stop after new

-- however it ends, no other name is selected, the files stay, no count of faults falls, and where the shelf has the
-- script no file is missed
pub record SelectsScript (name : List ℕ) (before after : ShelfState) : Type 0 where
  pub files : KeepsFiles before after
  pub selects : SelectsNoOther name after
  pub missed : IsSome (bytes_under before name) → after.missed ≡ before.missed
  pub faults : before.faults ≤ after.faults
