-- What private clauses say beside `Reporting` (this project's own).
use Rattle.std.specs.Prelude.{◌≡◌, ℕ, ◌+◌, ◌≤◌, Bool, true, false, List, [], ◌∷◌, ◌++◌, length}
use Rattle.std.specs.Prelude.{if◌then◌else◌, Result}
use Rattle.cept_codes.specs.declared.command.Command.{Command}
use Rattle.cept_codes.specs.declared.item.Item.{Item}
use Rattle.cept_outside.specs.SinkState.{PutsText}
use Rattle.cept_parser.specs.Items.{items}
use Rattle.cept_profile.specs.Changes.{changes}
use Rattle.cept_profile.specs.Valid.{AllValid}
use Rattle.cept_listing.specs.Listing.{item_line}
use Rattle.cept_report.specs.Text.{change_lines}
use Rattle.cept_editor.specs.Events.{Event}
use Rattle.cept_editor.specs.Made.{Output, IsMade}
use Rattle.cept_run.specs.declared.target.Target.TheVariants as targets
use Rattle.cept_run.specs.declared.words.ReportOptions.{ReportOptions}
use Rattle.cept_run.specs.declared.words.Way.{Way}
use Rattle.cept_run.specs.declared.words.Way.TheVariants as ways
use Rattle.cept_run.specs.Words.{lists_changes}
use Rattle.cept_run.specs.Events.{Sequel}
use Rattle.cept_run.specs.Reporting.{ReporterState, painted_target, counted_places}

-- nothing is done with commands but that they are counted
abbrev pub is_quiet : Way → Bool
is_quiet ways.Count = true
is_quiet _ = false

-- a command at this place, after these
abbrev pub command_event : ReportOptions → ℕ → List Command → Command → Event
command_event options place earlier command = record {
  before = earlier;
  after = earlier ++ command ∷ [];
  text = if lists_changes options.way then change_lines place (changes earlier command) else [];
}

-- an item's line was put, or the sink failed; nothing else happened
pub record IsListedAlone {X E : Type 0} (old : ReporterState) (item : Item) (before : Output) (result : Result X E)
    (new : ReporterState) (after : Output) : Type 0 where
  pub puts : PutsText before.sink (item_line item) result after.sink
  pub unpainted : after.glass ≡ before.glass
  pub stays : new ≡ old

-- it applies the command of an item: where commands are painted, the command's event is made; else the item is listed
pub record Applies {X E : Type 0} (old : ReporterState) (item : Item) (command : Command) (before : Output)
    (result : Result X E) (new : ReporterState) (after : Output) : Type 0 where
  pub options : new.options ≡ old.options
  pub items : new.items ≡ old.items
  pub refused : new.refused ≡ old.refused
  pub applied : (sequel : Sequel) (earlier : List Command) → AllValid earlier
      → old.target ≡ painted_target sequel earlier
      → (new.target ≡ painted_target sequel (earlier ++ command ∷ []))
      × IsMade (command_event old.options item.at earlier command) before result after
      × (new.painted ≡ old.painted + counted_places old.options (length (changes earlier command)))
  pub few : new.painted ≤ old.painted + 960
  pub listed : old.target ≡ targets.Nothing → IsListedAlone old item before result new after
