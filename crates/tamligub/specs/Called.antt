-- What a call does: it is a run over a shelf, a sink and a glass in memory. This project's own.
use Rattle.std.specs.Prelude.{◌≡◌, ◌⊎◌, ◌<◌, ◌≤◌, ℕ, ◌&&◌, List, [], ◌++◌, drop, length, codes}
use Rattle.std.specs.Prelude.{◌↔◌, true, Option, Some, None, bytes_eq, nat_lt}
use Rattle.std.specs.Prelude.{if◌then◌else◌}
use Rattle.cept_words.specs.Faults.{Fault}
use Rattle.cept_editor.specs.Events.{report}
use Rattle.cept_outside.specs.ShelfState.{Holds, bytes_under}
use Rattle.cept_outside.specs.SinkState.{SinkState, empty_sink}
use Rattle.cept_parser.specs.Items.{closed_items}
use Rattle.cept_profile.specs.Look.{grid}
use Rattle.cept_report.specs.Text.{script_fault_line}
use Rattle.cept_run.specs.Course.{Course, Source, File, Given, first_fault_in, ScriptSource, NoScript, ScriptFile, course_of}
use Rattle.cept_run.specs.Events.{refused_count}
use Rattle.cept_run.specs.Outside.{Outside}
use Rattle.cept_run.specs.Run.{Runs, status_number}
use Rattle.cept_run.specs.Words.{Request, request_of}
use Rattle.cept_run.specs.declared.run.Status.{Status}
use Rattle.tamligub.specs.Words.{words_for}

-- ---- the run

-- the file of a name: of `page` the page, of `script` the script, and no other
abbrev pub file_in : List ℕ → List ℕ → List ℕ → Option (List ℕ)
file_in page script name =
    if bytes_eq (codes "page") name then Some page else if bytes_eq (codes "script") name then Some script else None

-- the program ran over a shelf with this page, this script and no other file, whose faults are the files that it missed, a
-- sink, and a glass that was blank
pub record RunsOn (word : List ℕ) (given number : ℕ) (page script : List ℕ) (start end : SinkState) (status : Status)
    : Type 0 where
  pub before : Outside
  pub after : Outside
  pub has_page : Holds before.shelf (codes "page") page
  pub has_script : Holds before.shelf (codes "script") script
  pub files : (name : List ℕ) → bytes_under before.shelf name ≡ file_in page script name
  pub faultless : before.shelf.faults ≡ 0
  pub unmissed : before.shelf.missed ≡ 0
  pub missed : after.shelf.faults ≡ after.shelf.missed
  pub blank : before.glass.grid ≡ grid []
  pub before_sink : before.sink ≡ start
  pub after_sink : after.sink ≡ end
  pub runs : Runs (words_for word given number) before after status

-- this text stands at the front of the slice, what stood after it stays, and `put` is its length
pub record Holding (text old new : List ℕ) (put : ℕ) : Type 0 where
  pub front : new ≡ text ++ drop (length text) old
  pub count : put ≡ length text

-- the program ran over a sink with the room of the slice, and what it put stands in the slice
pub record HasRun (word : List ℕ) (given number : ℕ) (page script old new : List ℕ) (put : ℕ) (status : Status) : Type 0
  where
    pub end : SinkState
    pub runs : RunsOn word given number page script (empty_sink (length old)) end status
    pub text : List ℕ
    pub is : end.bytes ≡ Some text
    -- a fault of the sink was counted only where there is no room for more
    pub full : 0 < end.faults → length text ≡ length old
    pub within : length text ≤ length old
    pub holding : Holding text old new put

-- the same, by the number that it answers
pub record Called (word : List ℕ) (given number : ℕ) (page script old new : List ℕ) (put answer : ℕ) : Type 0 where
  pub status : Status
  pub is : answer ≡ status_number status
  pub run : HasRun word given number page script old new put status

-- ---- what stands in the slice

-- these are the bytes that a source has in a call: of the file `page` the page, of the file `script` the script
abbrev pub Supplies : List ℕ → List ℕ → Source → List ℕ → Type 0
Supplies page script (File name) bytes =
    ((name ≡ codes "page") × (bytes ≡ page)) ⊎ ((name ≡ codes "script") × (bytes ≡ script))
Supplies page script (Given own) bytes = bytes ≡ own

-- the same of what is read before a page, where a script is
abbrev pub SuppliesScript : List ℕ → List ℕ → ScriptSource → List ℕ → Type 0
SuppliesScript page script NoScript bytes = bytes ≡ []
SuppliesScript page script (ScriptFile grammar name) bytes = Supplies page script (File name) bytes

-- a source is one that a call supplies: the file `page` or the file `script`, or no file at all
abbrev pub IsSupplied : Source → Type 0
IsSupplied (File name) = (name ≡ codes "page") ⊎ (name ≡ codes "script")
IsSupplied (Given own) = Unit {0}

-- so is a script, where there is one
abbrev pub IsScriptSupplied : ScriptSource → Type 0
IsScriptSupplied NoScript = Unit {0}
IsScriptSupplied (ScriptFile grammar name) = IsSupplied (File name)

-- the first fault of a script, where there is one
abbrev pub fault_in : ScriptSource → List ℕ → Option Fault
fault_in NoScript bytes = None
fault_in (ScriptFile grammar name) bytes = first_fault_in grammar bytes

-- the report of a page and a script: a glass that was blank shows at the end what all commands mean that remain
abbrev pub report_of : Course → List ℕ → List ℕ → List ℕ
report_of course page script = report (course.events page script (grid (course.remaining page script)))

-- the report stands in the slice, and the answer says whether an item of the page is refused
pub record IsReported (course : Course) (page script old new : List ℕ) (put answer : ℕ) : Type 0 where
  pub holding : Holding (report_of course page script) old new put
  pub status : answer ≡ (if course.judged && nat_lt 0 (refused_count (closed_items page)) then 1 else 0)

-- a text is the front of another, and not the whole
pub record IsFront (text whole : List ℕ) : Type 0 where
  pub rest : List ℕ
  pub is : whole ≡ text ++ rest
  pub short : length text < length whole

-- the front of the report, or of the line of the script's first fault
abbrev pub IsCutOff : Course → List ℕ → List ℕ → List ℕ → Type 0
IsCutOff course page script text = IsFront text (report_of course page script)
    ⊎ ((fault : Fault) × (fault_in course.script script ≡ Some fault) × IsFront text (script_fault_line fault.line fault.reason))

-- the front of what was to be put stands in the slice, as much as there is room for
pub record IsFrontReported (course : Course) (page script old new : List ℕ) (put : ℕ) : Type 0 where
  pub text : List ℕ
  pub holding : Holding text old new put
  pub cut : IsCutOff course page script text
  pub full : put ≡ length old

-- the line of the script's first fault stands in the slice
pub record IsFaultReported (course : Course) (script old new : List ℕ) (put : ℕ) : Type 0 where
  pub fault : Fault
  pub found : fault_in course.script script ≡ Some fault
  pub holding : Holding (script_fault_line fault.line fault.reason) old new put

-- what the words ask for was done to its end
abbrev pub Reported : List ℕ → ℕ → ℕ → List ℕ → List ℕ → List ℕ → List ℕ → ℕ → ℕ → Type 0
Reported word given number page script old new put answer = (request : Request) (read lines : List ℕ)
    → request_of (words_for word given number) ≡ Some request
    → Supplies page script (course_of request).page read → SuppliesScript page script (course_of request).script lines
    → answer < 2 → IsReported (course_of request) read lines old new put answer

-- there was no room for all that is put
abbrev pub FrontReported : List ℕ → ℕ → ℕ → List ℕ → List ℕ → List ℕ → List ℕ → ℕ → ℕ → Type 0
FrontReported word given number page script old new put answer = (request : Request) (read lines : List ℕ)
    → request_of (words_for word given number) ≡ Some request
    → Supplies page script (course_of request).page read → SuppliesScript page script (course_of request).script lines
    → answer ≡ 5 → IsFrontReported (course_of request) read lines old new put

-- a line of the script is outside the grammar
abbrev pub FaultReported : List ℕ → ℕ → ℕ → List ℕ → List ℕ → List ℕ → List ℕ → ℕ → ℕ → Type 0
FaultReported word given number page script old new put answer = (request : Request) (lines : List ℕ)
    → request_of (words_for word given number) ≡ Some request
    → SuppliesScript page script (course_of request).script lines → answer ≡ 3
    → IsFaultReported (course_of request) lines old new put

-- 2 is answered exactly where the words are no request
abbrev pub UsageAnswered : List ℕ → ℕ → ℕ → ℕ → Type 0
UsageAnswered word given number answer = (answer ≡ 2) ↔ (request_of (words_for word given number) ≡ None)

-- nothing is put into the slice
pub record PutsNone (old new : List ℕ) (put : ℕ) : Type 0 where
  pub stays : new ≡ old
  pub none : put ≡ 0

-- where the words are no request, or there is no memory, nothing is put
abbrev pub NothingPut : List ℕ → List ℕ → ℕ → ℕ → Type 0
NothingPut old new put answer = (answer ≡ 2) ⊎ (answer ≡ 6) → PutsNone old new put

-- there was no memory only where the words paint
abbrev pub MemoryTaken : List ℕ → ℕ → ℕ → ℕ → Type 0
MemoryTaken word given number answer = (request : Request)
    → request_of (words_for word given number) ≡ Some request → answer ≡ 6 → (course_of request).painting ≡ true

-- a file that the words ask for isn't one that the call supplies
abbrev pub IsMissed : List ℕ → ℕ → ℕ → ℕ → Type 0
IsMissed word given number answer = (request : Request)
    → request_of (words_for word given number) ≡ Some request → answer ≡ 4
    → IsSupplied (course_of request).page → IsScriptSupplied (course_of request).script → ⊥
