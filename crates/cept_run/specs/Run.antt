-- The ends of a run, and what a run does by its end. This project's own.
use Rattle.std.specs.Prelude.{◌≡◌, ◌≢◌, ◌↔◌, ◌⊎◌, ℕ, ◌^◌, ◌<◌, ◌≤◌, Bool, true, false, ◌&&◌, List, [], ◌∷◌, ◌++◌, length, take}
use Rattle.std.specs.Prelude.{min, nat_lt, Some, None, IsSome, Result, Ok, Err, if◌then◌else◌}
use Rattle.std.specs.Io.KnownBytes.{append_known}
use Rattle.std.specs.List.{AllByRecursion}
use Rattle.cept_codes.specs.declared.command.Command.{Command}
use Rattle.cept_editor.specs.Events.{Event, report, paints}
use Rattle.cept_editor.specs.Made.{ArePainted, AreMade, AreCutOff}
use Rattle.cept_words.specs.Faults.{Fault}
use Rattle.cept_outside.specs.Causes.{Rose}
use Rattle.cept_outside.specs.ShelfState.{ShelfState, Holds, KeepsFiles, bytes_under}
use Rattle.cept_outside.specs.SinkState.{SinkState, Gains}
use Rattle.cept_parser.specs.Items.{closed_items, commands, is_refusal}
use Rattle.cept_profile.specs.Changes.{grid_with_paints}
use Rattle.cept_profile.specs.Look.{grid}
use Rattle.cept_profile.specs.State.{core}
use Rattle.cept_report.specs.Text.{script_fault_line}
use Rattle.cept_run.specs.declared.page.Stop.{Stop}
use Rattle.cept_run.specs.declared.page.Stop.TheVariants as stops
use Rattle.cept_run.specs.declared.run.Status.{Status}
use Rattle.cept_run.specs.declared.run.Status.TheVariants as statuses
use Rattle.cept_run.specs.Course.{Course, Source, File, Given, Gives, HasBytes, SelectsNoOther, course_of}
use Rattle.cept_run.specs.Course.{Grammar, first_fault_in, ScriptSource, NoScript, ScriptFile, IsReadFirst}
use Rattle.cept_run.specs.Events.{refused_count}
use Rattle.cept_run.specs.Outside.{Outside, output, AreAllTaken, PutsWhole, PutsFront}
use Rattle.cept_run.specs.Words.{Request, request_of}

-- a reset decoder reads these bytes without a refusal, and they bring the core, and so the grid, of these commands
pub record Restores (bytes : List ℕ) (history : List Command) : Type 0 where
  pub good : AllByRecursion (λ i. is_refusal i.what ≡ false) (closed_items bytes)
  pub brings : core (commands bytes) ≡ core history
  pub shows : grid (commands bytes) ≡ grid history

-- ---- what was reported

-- a page and a script that were read to their ends
pub record ReportsWhole (course : Course) (page script : List ℕ) (before after : Outside) : Type 0 where
  -- the whole report was put, and then flushed
  pub put : PutsWhole (report (course.events page script after.glass.grid)) before.sink after.sink
  -- exactly the changes of the events were painted, in their order
  pub painted : ArePainted (course.events page script after.glass.grid) before.glass after.glass
  -- so a glass that was blank shows after the paints of each event what the commands mean that remain after it
  pub each : before.glass.grid ≡ grid [] → (done : List Event) (event : Event) (rest : List Event)
      → course.events page script after.glass.grid ≡ done ++ event ∷ rest
      → grid_with_paints before.glass.grid (paints (done ++ event ∷ [])) ≡ grid event.after
  -- and at the end what all mean that remain
  pub meaning : before.glass.grid ≡ grid [] → after.glass.grid ≡ grid (course.remaining page script)
  -- a written page shows on a reset decoder what the glass shows: no item of it is refused, and it brings the same core
  pub written : course.written ≡ true
      → Restores (report (course.events page script after.glass.grid)) (course.remaining page script)

-- the front of a page
pub record ReportsFront (course : Course) (front : List ℕ) (before after : Outside) : Type 0 where
  -- exactly its texts were put, and exactly its changes painted
  pub made : AreMade (course.front_events front) (output before) (output after)
  -- so a glass that was blank shows its meaning
  pub meaning : before.glass.grid ≡ grid [] → after.glass.grid ≡ grid (course.front_remaining front)

-- ---- the ends: all that was put and painted is made of what was read, the files' bytes where the shelf tells them

-- status 0 or 1: the page was read to its end, and this says whether an item in it is refused
pub record EndsWhole (course : Course) (before after : Outside) (refused : Bool) : Type 0 where
  pub page : List ℕ
  pub page_is : HasBytes before.shelf course.page page
  pub script : List ℕ
  pub script_is : IsReadFirst before.shelf course.script script
  -- the whole page is reported and the whole script made, in whatever pieces they come and the sink takes the text
  pub reports : ReportsWhole course page script before after
  pub refusals : refused ≡ (course.judged && nat_lt 0 (refused_count (closed_items page)))
  -- it can be read, and end there
  pub readable : course.readable_front page ≡ page
  pub can_end : course.can_end page ≡ true
  pub page_not_too_long : length page ≤ 2 ^ 24
  -- of a page in a file all bytes were taken, and no other is selected
  pub taken : (name : List ℕ) → course.page ≡ File name → AreAllTaken page after.shelf × SelectsNoOther name after.shelf

-- a line of the script is outside the grammar. Of the line that says so this was put, and nothing else, and nothing painted
pub record EndsAtBadLine (Puts : List ℕ → SinkState → SinkState → Type 0) (grammar : Grammar) (name : List ℕ)
    (before after : Outside) : Type 0 where
  pub script : List ℕ
  pub script_is : HasBytes before.shelf (File name) script
  pub fault : Fault
  pub found : first_fault_in grammar script ≡ Some fault
  pub not_too_long : length script ≤ 2 ^ 20
  pub taken : AreAllTaken script after.shelf
  pub put : Puts (script_fault_line fault.line fault.reason) before.sink after.sink
  pub unpainted : after.glass ≡ before.glass

-- the run stands at the script in the file of this name: nothing was put and nothing painted, and no other name is selected
pub record IsAtScript (name : List ℕ) (page : Source) (before after : Outside) : Type 0 where
  pub unmade : output after ≡ output before
  pub selected : SelectsNoOther name after.shelf
  pub page_unselected : (other : List ℕ) × (page ≡ File other) × (after.shelf.selected ≢ Some (Some other))

-- a run ends at the script, before this page, by its status
abbrev pub EndsAtScript : ScriptSource → Source → Outside → Outside → Status → Type 0
EndsAtScript (ScriptFile grammar name) page before after statuses.Script =
    EndsAtBadLine PutsWhole grammar name before after
EndsAtScript (ScriptFile grammar name) page before after statuses.ReadFault =
    IsAtScript name page before after × (after.shelf.taken ≤ 2 ^ 20)
EndsAtScript (ScriptFile grammar name) page before after statuses.WriteFault =
    EndsAtBadLine PutsFront grammar name before after
EndsAtScript (ScriptFile grammar name) page before after statuses.NoMemory = IsAtScript name page before after
EndsAtScript (ScriptFile grammar name) page before after statuses.TooLong = IsAtScript name page before after
    × (2 ^ 20 < after.shelf.taken) × (after.shelf.selected ≢ Some None)
    × ((script : List ℕ) → Gives before.shelf name script → 2 ^ 20 < length script)
EndsAtScript _ page before after _ = ⊥

-- of the page in a file exactly the first bytes are reported, so many
pub record ReportsFirst (course : Course) (size : ℕ) (before after : Outside) : Type 0 where
  pub name : List ℕ
  pub named : course.page ≡ File name
  pub front : List ℕ
  pub counted : length front ≡ size
  pub front_is : (page : List ℕ) → Gives before.shelf name page → front ≡ take size page
  pub reports : ReportsFront course front before after
  -- no other file is selected
  pub selected : SelectsNoOther name after.shelf

-- status 4, at the page: it can't be read on. Its bytes that were taken are reported
pub record IsPageUnread (course : Course) (before after : Outside) : Type 0 where
  pub first : ReportsFirst course after.shelf.taken before after
  pub readable : course.readable_front first.front ≡ first.front
  pub few : after.shelf.taken ≤ 2 ^ 24
  -- before it is selected, nothing was put and nothing painted
  pub early : after.shelf.selected ≡ Some None → (after.sink ≡ before.sink) × (after.glass ≡ before.glass)

-- the sink failed at an event of the bytes that were taken, a front of the page; of these 2^24 are reported at most
pub record IsFrontCut (course : Course) (page : List ℕ) (before after : Outside) : Type 0 where
  pub within : after.shelf.taken ≤ length page
  pub cut : AreCutOff (course.front_events (take (min after.shelf.taken (2 ^ 24)) page)) (output before) (output after)
  pub unended : after.shelf.ended ≡ false

-- status 5, at the page: the sink failed at the report
pub record IsReportCut (course : Course) (before after : Outside) : Type 0 where
  pub page : List ℕ
  pub page_is : HasBytes before.shelf course.page page
  pub script : List ℕ
  pub script_is : IsReadFirst before.shelf course.script script
  -- at one event, painted as the last; or the report was put of a page that can be read and end, and the flush failed
  pub cut : AreCutOff (course.events page script after.glass.grid) (output before) (output after)
      ⊎ (AreMade (course.events page script after.glass.grid) (output before) (output after)
      × (before.sink.always_flushes ≡ false) × (course.readable_front page ≡ page) × (course.can_end page ≡ true))
  -- so where the glass was blank, a front of the report was put, and not the whole where no flush fails
  pub front : before.glass.grid ≡ grid []
      → PutsFront (report (course.events page script (grid (course.remaining page script)))) before.sink after.sink
  -- of a page in a file, beside which none is selected, all was taken, or a front
  pub taken : (name : List ℕ) → course.page ≡ File name → SelectsNoOther name after.shelf
      × ((AreAllTaken page after.shelf × (length page ≤ 2 ^ 24)) ⊎ IsFrontCut course page before after)

-- status 7, at the page: it has more than 2^24 bytes, and more were taken
pub record IsPageTooLong (course : Course) (before after : Outside) : Type 0 where
  pub too_long : 2 ^ 24 < after.shelf.taken
  pub selected : after.shelf.selected ≢ Some None
  pub first : ReportsFirst course (2 ^ 24) before after
  -- so a page within the limit, that is told, never ends so
  pub longer : (page : List ℕ) → Gives before.shelf first.name page → 2 ^ 24 < length page
  pub readable : course.readable_front first.front ≡ first.front

-- a page can't be read to its end, or can't end there
abbrev pub IsUnreadable : Course → List ℕ → Type 0
IsUnreadable course page = (course.readable_front page ≢ page) ⊎ (course.can_end page ≡ false)

-- status 8: a byte of the page can't be read from seven bits, or the page can't end where it does
pub record EndsNotSeven (course : Course) (before after : Outside) : Type 0 where
  -- the bytes of the page that were taken are reported, but 2^24 at most
  pub first : ReportsFirst course (min after.shelf.taken (2 ^ 24)) before after
  -- one of these can't be read, or they are the whole page, which can't end there
  pub cause : (course.readable_front first.front ≢ first.front)
      ⊎ (AreAllTaken first.front after.shelf × (course.can_end first.front ≡ false))
  -- so a page that can be read, and is told, never ends so
  pub unreadable : (page : List ℕ) → Gives before.shelf first.name page → IsUnreadable course page

-- how a run ends, by its status
abbrev pub Ends : Course → Outside → Outside → Status → Type 0
Ends course before after statuses.Done = EndsWhole course before after false
Ends course before after statuses.Refusals = EndsWhole course before after true
Ends course before after statuses.Usage = ⊥
Ends course before after statuses.Script = EndsAtScript course.script course.page before after statuses.Script
-- the shelf counted a fault, and no take had answered that there are no more bytes
Ends course before after statuses.ReadFault = Rose before.shelf.faults after.shelf.faults × (after.shelf.ended ≡ false)
    × (IsPageUnread course before after ⊎ EndsAtScript course.script course.page before after statuses.ReadFault)
-- the sink counted a fault
Ends course before after statuses.WriteFault = Rose before.sink.faults after.sink.faults
    × (IsReportCut course before after ⊎ EndsAtScript course.script course.page before after statuses.WriteFault)
-- what paints nothing takes no memory; nothing was touched, or the script was being read
Ends course before after statuses.NoMemory = (course.painting ≡ true)
    × ((after ≡ before) ⊎ EndsAtScript course.script course.page before after statuses.NoMemory)
Ends course before after statuses.TooLong =
    IsPageTooLong course before after ⊎ EndsAtScript course.script course.page before after statuses.TooLong
Ends course before after statuses.NotSeven = EndsNotSeven course before after

-- ---- however a run ends

-- what holds of the shelf, where the page is in the file of this name
pub record ReadsFiles (course : Course) (page : List ℕ) (before after : ShelfState) (status : Status) : Type 0 where
  -- where the shelf has the page and the script no file is missed
  pub missed : IsSome (bytes_under before page)
      → ((grammar : Grammar) (name : List ℕ) → course.script ≡ ScriptFile grammar name → IsSome (bytes_under before name))
      → after.missed ≡ before.missed
  -- at the end no other name than the page's is selected, or no other than the script's
  pub selects : status ≢ statuses.NoMemory → SelectsNoOther page after
      ⊎ ((grammar : Grammar) × (name : List ℕ) × (course.script ≡ ScriptFile grammar name) × SelectsNoOther name after)
  -- the files stay, and the count of faults doesn't fall
  pub files : KeepsFiles before after
  pub faults : before.faults ≤ after.faults

-- where no file is read the shelf isn't touched
abbrev pub TouchesShelf : Course → Source → ShelfState → ShelfState → Status → Type 0
TouchesShelf course (File page) before after status = ReadsFiles course page before after status
TouchesShelf course (Given own) before after status = after ≡ before

-- the script in the file of this name comes before this page
pub record ComesFirst (grammar : Grammar) (name : List ℕ) (page : Source) (before after : Outside) (status : Status)
    : Type 0 where
  -- where a known one is too long, or a line of it is outside the grammar, no file is missed, and the page isn't selected
  pub stops : (script : List ℕ) → Holds before.shelf name script
      → (2 ^ 20 < length script) ⊎ IsSome (first_fault_in grammar script) → (after.shelf.missed ≡ before.shelf.missed)
      × (status ≢ statuses.NoMemory → (other : List ℕ) → page ≡ File other → after.shelf.selected ≢ Some (Some other))
  -- where a line of it is outside the grammar, nothing is painted, and nothing put but the line that says so, or a front
  pub bad : (script : List ℕ) (fault : Fault) → Gives before.shelf name script
      → first_fault_in grammar script ≡ Some fault → (after.glass ≡ before.glass)
      × (size : ℕ) × (after.sink.bytes ≡ append_known before.sink.bytes (take size (script_fault_line fault.line fault.reason)))

-- so does the script, where there is one
abbrev pub IsScriptFirst : ScriptSource → Source → Outside → Outside → Status → Type 0
IsScriptFirst NoScript page before after status = Unit {0}
IsScriptFirst (ScriptFile grammar name) page before after status = ComesFirst grammar name page before after status

-- a run of a course
pub record RunsCourse (course : Course) (before after : Outside) (status : Status) : Type 0 where
  -- each status has its cause, and says what was reported
  pub ends : Ends course before after status
  pub shelf : TouchesShelf course course.page before.shelf after.shelf status
  -- a fault of the shelf is counted at status 4 alone, and one of the sink at status 5 alone
  pub shelf_stays : status ≢ statuses.ReadFault → after.shelf.faults ≡ before.shelf.faults
  pub sink_stays : status ≢ statuses.WriteFault → after.sink.faults ≡ before.sink.faults
  pub script_first : IsScriptFirst course.script course.page before after status
  -- what paints nothing doesn't touch the glass
  pub unpainted : course.painting ≡ false → after.glass ≡ before.glass
  -- no early end flushes, but that at a script's bad line: where bytes are put, no flush succeeds
  pub unflushed : status ≢ statuses.Done → status ≢ statuses.Refusals → status ≢ statuses.Script
      → (part : List ℕ) × Gains before.sink part after.sink
  -- the sink keeps its room
  pub room : after.sink.room ≡ before.sink.room
  pub sink_faults : before.sink.faults ≤ after.sink.faults

-- the shelf gives at most 2^20 bytes of the script, if one is in a file
abbrev pub IsShortScript : ShelfState → ScriptSource → Type 0
IsShortScript shelf NoScript = Unit {0}
IsShortScript shelf (ScriptFile grammar name) = (script : List ℕ) × Gives shelf name script × (length script ≤ 2 ^ 20)

-- the words are this request, its page is in a file, and the shelf gives this page
pub record Asks (words : List (List ℕ)) (shelf : ShelfState) (request : Request) (page : List ℕ) : Type 0 where
  pub asked : request_of words ≡ Some request
  pub name : List ℕ
  pub named : (course_of request).page ≡ File name
  pub given : Gives shelf name page

-- a run over these words
pub record Runs (words : List (List ℕ)) (before after : Outside) (status : Status) : Type 0 where
  -- status 2 comes exactly where the words are no request; then nothing was touched
  pub usage : (status ≡ statuses.Usage) ↔ (request_of words ≡ None)
  pub untouched : status ≡ statuses.Usage → after ≡ before
  -- what a request asks for is done, or the status says why not
  pub request : (request : Request) → request_of words ≡ Some request
      → RunsCourse (course_of request) before after status
  -- a known page of at most 2^24 bytes is read to its end, after a known script of at most 2^20 bytes, unless a line of
  -- that is outside the grammar, a fault is counted, there is no memory, or it can't be read from seven bits
  pub completes : (request : Request) (page : List ℕ) → Asks words before.shelf request page → length page ≤ 2 ^ 24
      → IsShortScript before.shelf (course_of request).script
      → (Rose before.shelf.faults after.shelf.faults → ⊥)
      → (Rose before.sink.faults after.sink.faults → ⊥)
      → (status ≡ statuses.Done) ⊎ (status ≡ statuses.Refusals) ⊎ (status ≡ statuses.Script)
      ⊎ ((status ≡ statuses.NoMemory) × ((course_of request).painting ≡ true))
      ⊎ ((status ≡ statuses.NotSeven) × IsUnreadable (course_of request) page)

-- ---- statuses

-- the number that the program ends with
abbrev pub status_number : Status → ℕ
status_number statuses.Done = 0
status_number statuses.Refusals = 1
status_number statuses.Usage = 2
status_number statuses.Script = 3
status_number statuses.ReadFault = 4
status_number statuses.WriteFault = 5
status_number statuses.NoMemory = 6
status_number statuses.TooLong = 7
status_number statuses.NotSeven = 8

-- the status of a run that stopped
abbrev pub status_of : Stop → Status
status_of stops.ReadFault = statuses.ReadFault
status_of stops.WriteFault = statuses.WriteFault
status_of stops.TooLong = statuses.TooLong
status_of stops.Script = statuses.Script
status_of stops.NoMemory = statuses.NoMemory
status_of stops.NotSeven = statuses.NotSeven

-- the status of what was answered: whether an item was refused, or why the run stopped
abbrev pub status_at_end : Result Bool Stop → Status
status_at_end (Ok refused) = if refused then statuses.Refusals else statuses.Done
status_at_end (Err stop) = status_of stop
