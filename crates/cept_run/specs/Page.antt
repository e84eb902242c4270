-- How the reading of a selected page ends, and that of a generated one. The bytes that were read are those of the page,
-- where the shelf tells it. This project's own. Private clauses alone cite this file.
use Rattle.std.specs.Prelude.{◌≡◌, ◌⊎◌, ℕ, ◌^◌, ◌≤◌, min, Bool, List, ◌++◌, length, take, Result, Ok, Err}
use Rattle.cept_codes.specs.declared.item.Item.{Item}
use Rattle.cept_outside.specs.ShelfState.{ShelfState, KeepsFiles}
use Rattle.cept_outside.specs.SinkState.{SinkState}
use Rattle.cept_parser.specs.Items.{items, closed_items}
use Rattle.cept_run.specs.declared.page.Stop.{Stop}
use Rattle.cept_run.specs.declared.page.Stop.TheVariants as stops
use Rattle.cept_run.specs.Events.{item_events}
use Rattle.cept_editor.specs.Made.{Output, AreMade, AreCutOff}
use Rattle.cept_generator.specs.Generated.{generated}
use Rattle.cept_run.specs.Outside.{Outside, output, PutsWhole, PutsUnflushed}
use Rattle.cept_run.specs.Reporting.{Plan, ReporterState, HasReported}
use Rattle.cept_run.specs.Taking.{AreLeft, TakesWhole, TakesUnread, TakesTooMany, TakesFront}

-- it was read to its end, and has so many bytes
pub record PageWhole (plan : Plan) (count : ℕ) (reporter : ReporterState) (before after : Outside) : Type 0 where
  pub bytes : List ℕ
  pub count_is : count ≡ length bytes
  pub takes : TakesWhole (AreLeft before.shelf) (2 ^ 24) bytes before.shelf after.shelf
  pub reported : HasReported plan reporter (closed_items bytes) (output before) (output after)

-- the shelf failed
pub record PageUnread (plan : Plan) (before after : Outside) : Type 0 where
  pub takes : TakesUnread (2 ^ 24) before.shelf after.shelf
  pub bytes : List ℕ
  pub taken : after.shelf.taken ≡ length bytes
  pub known : (page : List ℕ) → AreLeft before.shelf page → bytes ≡ take after.shelf.taken page
  pub made : AreMade (item_events plan.options (items bytes)) (output before) (output after)
  pub stays : after.sink.faults ≡ before.sink.faults

-- the sink failed at an item of the bytes that were taken, of which 2^24 are reported at most
pub record PageUnput (plan : Plan) (before after : Outside) : Type 0 where
  pub bytes : List ℕ
  pub takes : TakesFront bytes before.shelf after.shelf
  pub front : List Item
  pub front_is : front ≡ items (take (min after.shelf.taken (2 ^ 24)) bytes)
  -- these items begin those of the bytes, and those of the page, where it is told
  pub are : (others : List Item) × (closed_items bytes ≡ front ++ others)
  pub there : (page : List ℕ) → AreLeft before.shelf page → (others : List Item) × (closed_items page ≡ front ++ others)
  pub cut : AreCutOff (item_events plan.options front) (output before) (output after)

-- the sink failed at an item that the end of the page closes
pub record PageUnputAtEnd (plan : Plan) (before after : Outside) : Type 0 where
  pub bytes : List ℕ
  pub takes : TakesWhole (AreLeft before.shelf) (2 ^ 24) bytes before.shelf after.shelf
  pub cut : AreCutOff (item_events plan.options (closed_items bytes)) (output before) (output after)

-- it has more than 2^24 bytes
pub record PageTooLong (plan : Plan) (before after : Outside) : Type 0 where
  pub takes : TakesTooMany (AreLeft before.shelf) (2 ^ 24) before.shelf after.shelf
  pub bytes : List ℕ
  pub count : length bytes ≡ 2 ^ 24
  pub known : (page : List ℕ) → AreLeft before.shelf page → bytes ≡ take (2 ^ 24) page
  pub made : AreMade (item_events plan.options (items bytes)) (output before) (output after)
  pub stays : after.sink.faults ≡ before.sink.faults

-- it wasn't read to its end, for this reason
abbrev pub PageStops : Plan → Outside → Stop → Outside → Type 0
PageStops plan before stops.ReadFault after = PageUnread plan before after
PageStops plan before stops.WriteFault after = PageUnput plan before after ⊎ PageUnputAtEnd plan before after
PageStops plan before stops.TooLong after = PageTooLong plan before after
PageStops plan before _ after = ⊥

-- how its reading ends
abbrev pub PageEnds : Plan → Outside → Result ℕ Stop → ReporterState → Outside → Type 0
PageEnds plan before (Ok count) reporter after = PageWhole plan count reporter before after
PageEnds plan before (Err stop) reporter after = PageStops plan before stop after

-- a generated page was read to its end, and has so many bytes; or the sink failed at an item
abbrev pub ReadsGenerated : {E : Type 0} → Plan → ℕ → Output → Result ℕ E → ReporterState → Output → Type 0
ReadsGenerated plan number before (Ok count) reporter after =
    (count ≡ length (generated number)) × HasReported plan reporter (closed_items (generated number)) before after
ReadsGenerated plan number before (Err _) reporter after =
    AreCutOff (item_events plan.options (closed_items (generated number))) before after

-- however it ends, the files and the selection stay, and no count of faults falls
pub record KeepsShelf (before after : ShelfState) : Type 0 where
  pub files : KeepsFiles before after
  pub selected : after.selected ≡ before.selected
  pub missed : after.missed ≡ before.missed
  pub faults : before.faults ≤ after.faults

-- the text at the end was put whole and flushed, and this says whether an item was refused; or the sink failed
abbrev pub PutsEnd : List ℕ → Bool → SinkState → Result Bool Stop → SinkState → Type 0
PutsEnd text refused before (Ok answer) after = PutsWhole text before after × (answer ≡ refused)
PutsEnd text refused before (Err stop) after = PutsUnflushed text before after × (stop ≡ stops.WriteFault)
