-- What stands in the slice after a run, and what its status says.
use Rattle.std.proofs.Common.{◌≡◌, ◌⊎◌, inl, inr, ℕ, ◌<◌, Bool, true, false, ◌&&◌, List, ◌++◌, Some, codes, cond}
use Rattle.std.proofs.Common.{sym, ap, subst, ◌∙◌, ◌≤◌, arith, length, nat_lt, is_some, IsSome}
use Rattle.std.proofs.Common.{take, drop, take-append-drop, length-take}
use Rattle.std.proofs.lemmas.Option.{same_Some}
use Rattle.std.specs.Io.KnownBytes.{append_known}
use Rattle.cept_editor.specs.Events.{report}
use Rattle.cept_outside.specs.ShelfState.{ShelfState, Holds, bytes_under}
use Rattle.cept_outside.specs.SinkState.{SinkState, Gains, GainsPart}
use Rattle.cept_parser.specs.Items.{closed_items}
use Rattle.cept_words.specs.Faults.{Fault}
use Rattle.cept_report.specs.Text.{script_fault_line}
use Rattle.cept_run.specs.Course.{Course, Source, File, Given, HasBytes, first_fault_in, course_of}
use Rattle.cept_run.specs.Course.{ScriptSource, NoScript, ScriptFile, IsReadFirst}
use Rattle.cept_run.specs.Events.{refused_count}
use Rattle.cept_run.specs.Outside.{PutsFront}
use Rattle.cept_run.specs.Run.{EndsWhole, EndsAtScript, IsPageUnread, IsReportCut, Ends, RunsCourse, ReadsFiles}
use Rattle.cept_run.specs.Run.{TouchesShelf, status_number}
use Rattle.cept_run.specs.declared.run.Status.{Status}
use Rattle.cept_run.specs.declared.run.Status.TheVariants as statuses
use Rattle.tamligub.specs.Called.{Holding, HasRun, Supplies, SuppliesScript, IsSupplied, IsScriptSupplied, fault_in, IsReported}
use Rattle.tamligub.specs.Called.{Reported, IsMissed, report_of}
use Rattle.tamligub.specs.Called.{IsFront, IsCutOff, IsFrontReported, FrontReported, IsFaultReported, FaultReported}

-- a source has the bytes that the call supplies
supplied : (page script : List ℕ) (shelf : ShelfState) → Holds shelf (codes "page") page
    → Holds shelf (codes "script") script → (source : Source) (bytes read : List ℕ) → HasBytes shelf source bytes
    → Supplies page script source read → bytes ≡ read
supplied page script shelf paged scripted (File name) bytes read has (inl (is, e)) =
    has read (inl (subst (λ n. Holds shelf n read) (sym is)
    (subst (λ b. Holds shelf (codes "page") b) (sym e) paged)))
supplied page script shelf paged scripted (File name) bytes read has (inr (is, e)) =
    has read (inl (subst (λ n. Holds shelf n read) (sym is)
    (subst (λ b. Holds shelf (codes "script") b) (sym e) scripted)))
supplied page script shelf paged scripted (Given own) bytes read has e = has ∙ sym e

supplied_first : (page script : List ℕ) (shelf : ShelfState) → Holds shelf (codes "page") page
    → Holds shelf (codes "script") script → (source : ScriptSource) (bytes read : List ℕ) → IsReadFirst shelf source bytes
    → SuppliesScript page script source read → bytes ≡ read
supplied_first page script shelf paged scripted NoScript bytes read is e = is ∙ sym e
supplied_first page script shelf paged scripted (ScriptFile grammar name) bytes read is e =
    supplied page script shelf paged scripted (File name) bytes read is.0 e

module _ (word : List ℕ) (given number : ℕ) (page script old new : List ℕ) (put answer : ℕ) (status : Status)
    (run : HasRun word given number page script old new put status) (course : Course) (read lines : List ℕ)
    (page_is : Supplies page script course.page read) (lines_are : SuppliesScript page script course.script lines) where
  -- the text is the whole report, where the page was read to its end
  text_is : (refused : Bool) → EndsWhole course run.runs.before run.runs.after refused
      → run.text ≡ report_of course read lines
  text_is refused e =
      let on = run.runs in
      let same_page : e.page ≡ read =
      supplied page script on.before.shelf on.has_page on.has_script course.page e.page read e.page_is page_is in
      let same_lines : e.script ≡ lines =
      supplied_first page script on.before.shelf on.has_page on.has_script course.script e.script lines e.script_is lines_are in
      let shown = e.reports.meaning on.blank in
      let told : Some run.text ≡ Some (report (course.events e.page e.script on.after.glass.grid)) =
      sym run.is ∙ ap (λ s. s.bytes) (sym on.after_sink) ∙ e.reports.put.put
      ∙ ap (λ s. append_known s.bytes (report (course.events e.page e.script on.after.glass.grid))) on.before_sink in
      same_Some run.text _ told ∙ ap (λ g. report (course.events e.page e.script g)) shown
      ∙ ap (λ p. report_of course p e.script) same_page ∙ ap (λ l. report_of course read l) same_lines

  done : (refused : Bool) → EndsWhole course run.runs.before run.runs.after refused → answer ≡ cond refused 1 0
      → IsReported course read lines old new put answer
  done refused e is = record {
    holding = subst (λ t. Holding t old new put) (text_is refused e) run.holding;
    status = is ∙ ap (λ b. cond b 1 0) e.refusals
        ∙ ap (λ p. cond (course.judged && nat_lt 0 (refused_count (closed_items p))) 1 0)
        (supplied page script run.runs.before.shelf run.runs.has_page run.runs.has_script course.page e.page read
        e.page_is page_is);
  }

  by_status : (s : Status) → answer ≡ status_number s → Ends course run.runs.before run.runs.after s → answer < 2
      → IsReported course read lines old new put answer
  by_status statuses.Done is e low = done false e is
  by_status statuses.Refusals is e low = done true e is
  by_status statuses.Usage is e low = absurd (omega (arith, is, low))
  by_status statuses.Script is e low = absurd (omega (arith, is, low))
  by_status statuses.ReadFault is e low = absurd (omega (arith, is, low))
  by_status statuses.WriteFault is e low = absurd (omega (arith, is, low))
  by_status statuses.NoMemory is e low = absurd (omega (arith, is, low))
  by_status statuses.TooLong is e low = absurd (omega (arith, is, low))
  by_status statuses.NotSeven is e low = absurd (omega (arith, is, low))

  -- ---- where the sink failed

  -- what was put is this text
  put_is : (text : List ℕ) → Gains run.runs.before.sink text run.runs.after.sink → run.text ≡ text
  put_is text gains =
      let on = run.runs in
      same_Some run.text text (sym run.is ∙ ap (λ s. s.bytes) (sym on.after_sink) ∙ gains.bytes
      ∙ ap (λ s. append_known s.bytes text) on.before_sink)

  -- a part of a text is its front
  part_is : (whole : List ℕ) → GainsPart run.runs.before.sink whole run.runs.after.sink → IsFront run.text whole
  part_is whole part = record {
    rest = drop part.size whole;
    is = sym (take-append-drop part.size whole)
        ∙ ap (λ t. t ++ drop part.size whole) (sym (put_is (take part.size whole) part.gains));
    short = omega (arith, part.short, ap length (put_is (take part.size whole) part.gains), length-take part.size whole);
  }

  -- no flush of the sink fails
  flushes_always : run.runs.before.sink.always_flushes ≡ true
  flushes_always = ap (λ (s : SinkState). s.always_flushes) run.runs.before_sink

  -- the room of the sink is used up
  full_by : Ends course run.runs.before run.runs.after statuses.WriteFault → put ≡ length old
  full_by e =
      let on = run.runs in
      let faultless : on.before.sink.faults ≡ 0 = ap (λ (s : SinkState). s.faults) on.before_sink in
      let counted : on.after.sink.faults ≡ run.end.faults = ap (λ (s : SinkState). s.faults) on.after_sink in
      run.holding.count ∙ run.full (omega (arith, e.0, faultless, counted))

  front_reported_by : Ends course run.runs.before run.runs.after statuses.WriteFault
      → IsFrontReported course read lines old new put
  front_reported_by e = record { text = run.text; holding = run.holding; cut = by_cut e.1; full = full_by e }
    where
      same : (source : Source) (bytes other : List ℕ) → HasBytes run.runs.before.shelf source bytes
          → Supplies page script source other → bytes ≡ other
      same source bytes other =
          supplied page script run.runs.before.shelf run.runs.has_page run.runs.has_script source bytes other

      of_front : (whole : List ℕ) → PutsFront whole run.runs.before.sink run.runs.after.sink → IsFront run.text whole
      of_front whole front = by_size front.2
        where
          by_size : (front.0 < length whole) ⊎ (run.runs.before.sink.always_flushes ≡ false) → IsFront run.text whole
          by_size (inl short) = part_is whole (record { size = front.0; short = short; gains = front.1 })
          by_size (inr fails) = let no : false ≡ true = sym fails ∙ flushes_always in cc

      first : (bytes : List ℕ) → IsReadFirst run.runs.before.shelf course.script bytes → bytes ≡ lines
      first bytes is = supplied_first page script run.runs.before.shelf run.runs.has_page run.runs.has_script course.script
          bytes lines is lines_are

      -- at the line of a script's fault
      of_line : (source : ScriptSource) → SuppliesScript page script source lines
          → EndsAtScript source course.page run.runs.before run.runs.after statuses.WriteFault
          → (fault : Fault) × (fault_in source lines ≡ Some fault) × IsFront run.text (script_fault_line fault.line fault.reason)
      of_line NoScript is c = elim c [ ]
      of_line (ScriptFile grammar name) is c = (
        c.fault,
        subst (λ l. first_fault_in grammar l ≡ Some c.fault) (same (File name) c.script lines c.script_is is) c.found,
        of_front (script_fault_line c.fault.line c.fault.reason) c.put,
      )

      by_cut : IsReportCut course run.runs.before run.runs.after
          ⊎ EndsAtScript course.script course.page run.runs.before run.runs.after statuses.WriteFault
          → IsCutOff course read lines run.text
      by_cut (inl c) =
          inl (subst (λ l. IsFront run.text (report_of course read l)) (first c.script c.script_is)
          (subst (λ p. IsFront run.text (report_of course p c.script))
          (same course.page c.page read c.page_is page_is)
          (of_front (report_of course c.page c.script) (c.front run.runs.blank))))
      by_cut (inr c) = inr (of_line course.script lines_are c)

  front_by : (s : Status) → answer ≡ status_number s → RunsCourse course run.runs.before run.runs.after s
      → answer ≡ 5 → IsFrontReported course read lines old new put
  front_by statuses.WriteFault is r five = front_reported_by r.ends
  front_by statuses.Done is r five = absurd (omega (arith, is, five))
  front_by statuses.Refusals is r five = absurd (omega (arith, is, five))
  front_by statuses.Usage is r five = absurd (omega (arith, is, five))
  front_by statuses.Script is r five = absurd (omega (arith, is, five))
  front_by statuses.ReadFault is r five = absurd (omega (arith, is, five))
  front_by statuses.NoMemory is r five = absurd (omega (arith, is, five))
  front_by statuses.TooLong is r five = absurd (omega (arith, is, five))
  front_by statuses.NotSeven is r five = absurd (omega (arith, is, five))

-- ---- the room

pub put_within : (word : List ℕ) (given number : ℕ) (page script old new : List ℕ) (put : ℕ) (status : Status)
    → HasRun word given number page script old new put status → put ≤ length old
put_within word given number page script old new put status run = omega (arith, run.holding.count, run.within)

-- ---- a line outside the grammar, a file that isn't there

module _ (word : List ℕ) (given number : ℕ) (page script old new : List ℕ) (put answer : ℕ) (status : Status)
    (run : HasRun word given number page script old new put status) (course : Course) where
  -- the line of the fault stands in the slice
  fault_held : (lines : List ℕ) (source : ScriptSource) → SuppliesScript page script source lines
      → EndsAtScript source course.page run.runs.before run.runs.after statuses.Script
      → (fault : Fault) × (fault_in source lines ≡ Some fault) × Holding (script_fault_line fault.line fault.reason) old new put
  fault_held lines NoScript is e = elim e [ ]
  fault_held lines (ScriptFile grammar name) is e =
      let on = run.runs in
      let same : e.script ≡ lines =
      supplied page script on.before.shelf on.has_page on.has_script (File name) e.script lines e.script_is is in
      let told : Some run.text ≡ Some (script_fault_line e.fault.line e.fault.reason) =
      sym run.is ∙ ap (λ (s : SinkState). s.bytes) (sym on.after_sink) ∙ e.put.put
      ∙ ap (λ (s : SinkState). append_known s.bytes (script_fault_line e.fault.line e.fault.reason)) on.before_sink in (
        e.fault,
        subst (λ l. first_fault_in grammar l ≡ Some e.fault) same e.found,
        subst (λ t. Holding t old new put) (same_Some run.text (script_fault_line e.fault.line e.fault.reason) told) run.holding,
      )

  fault_by : (s : Status) (lines : List ℕ) → SuppliesScript page script course.script lines → answer ≡ status_number s
      → Ends course run.runs.before run.runs.after s → answer ≡ 3 → IsFaultReported course lines old new put
  fault_by statuses.Script lines lines_are is e three =
      let held = fault_held lines course.script lines_are e in
      record { fault = held.0; found = held.1; holding = held.2 }
  fault_by statuses.Done lines lines_are is e three = absurd (omega (arith, is, three))
  fault_by statuses.Refusals lines lines_are is e three = absurd (omega (arith, is, three))
  fault_by statuses.Usage lines lines_are is e three = absurd (omega (arith, is, three))
  fault_by statuses.ReadFault lines lines_are is e three = absurd (omega (arith, is, three))
  fault_by statuses.WriteFault lines lines_are is e three = absurd (omega (arith, is, three))
  fault_by statuses.NoMemory lines lines_are is e three = absurd (omega (arith, is, three))
  fault_by statuses.TooLong lines lines_are is e three = absurd (omega (arith, is, three))
  fault_by statuses.NotSeven lines lines_are is e three = absurd (omega (arith, is, three))

  there : (name : List ℕ) → IsSupplied (File name) → IsSome (bytes_under run.runs.before.shelf name)
  there name (inl is) =
      subst (λ n. IsSome (bytes_under run.runs.before.shelf n)) (sym is) (ap is_some run.runs.has_page.under)
  there name (inr is) =
      subst (λ n. IsSome (bytes_under run.runs.before.shelf n)) (sym is) (ap is_some run.runs.has_script.under)

  -- the page is in a file
  paged_at : (source : ScriptSource)
      → EndsAtScript source course.page run.runs.before run.runs.after statuses.ReadFault
      → (name : List ℕ) × (course.page ≡ File name)
  paged_at NoScript e = elim e [ ]
  paged_at (ScriptFile grammar name) e = (e.0.page_unselected.0, e.0.page_unselected.1)

  paged_by : IsPageUnread course run.runs.before run.runs.after
      ⊎ EndsAtScript course.script course.page run.runs.before run.runs.after statuses.ReadFault
      → (name : List ℕ) × (course.page ≡ File name)
  paged_by (inl unread) = (unread.first.name, unread.first.named)
  paged_by (inr script) = paged_at course.script script

  missed_by : (s : Status) → answer ≡ status_number s → RunsCourse course run.runs.before run.runs.after s → answer ≡ 4
      → IsSupplied course.page → IsScriptSupplied course.script → ⊥
  missed_by statuses.ReadFault is r four page_there script_there =
      let on = run.runs in
      let paged = paged_by r.ends.2 in
      let files : ReadsFiles course paged.0 on.before.shelf on.after.shelf statuses.ReadFault =
      subst (λ (s : Source). TouchesShelf course s on.before.shelf on.after.shelf statuses.ReadFault) paged.1
      r.shelf in
      let stays = files.missed (there paged.0 (subst IsSupplied paged.1 page_there))
      (λ grammar other named. there other (subst IsScriptSupplied named script_there)) in
      absurd (omega (arith, r.ends.0, on.faultless, on.unmissed, on.missed, stays))
  missed_by statuses.Done is r four page_there script_there = absurd (omega (arith, is, four))
  missed_by statuses.Refusals is r four page_there script_there = absurd (omega (arith, is, four))
  missed_by statuses.Usage is r four page_there script_there = absurd (omega (arith, is, four))
  missed_by statuses.Script is r four page_there script_there = absurd (omega (arith, is, four))
  missed_by statuses.WriteFault is r four page_there script_there = absurd (omega (arith, is, four))
  missed_by statuses.NoMemory is r four page_there script_there = absurd (omega (arith, is, four))
  missed_by statuses.TooLong is r four page_there script_there = absurd (omega (arith, is, four))
  missed_by statuses.NotSeven is r four page_there script_there = absurd (omega (arith, is, four))

-- what a call does, by what is asked for
pub reported : (word : List ℕ) (given number : ℕ) (page script old new : List ℕ) (put answer : ℕ) (status : Status)
    → answer ≡ status_number status → HasRun word given number page script old new put status
    → Reported word given number page script old new put answer
reported word given number page script old new put answer status is run request read lines asks page_is lines_are low =
    by_status word given number page script old new put answer status run (course_of request) read lines page_is lines_are
    status is (run.runs.runs.request request asks).ends low

pub front_reported : (word : List ℕ) (given number : ℕ) (page script old new : List ℕ) (put answer : ℕ) (status : Status)
    → answer ≡ status_number status → HasRun word given number page script old new put status
    → FrontReported word given number page script old new put answer
front_reported word given number page script old new put answer status is run request read lines asks page_is lines_are five =
    front_by word given number page script old new put answer status run (course_of request) read lines page_is lines_are
    status is (run.runs.runs.request request asks) five

pub fault_reported : (word : List ℕ) (given number : ℕ) (page script old new : List ℕ) (put answer : ℕ) (status : Status)
    → answer ≡ status_number status → HasRun word given number page script old new put status
    → FaultReported word given number page script old new put answer
fault_reported word given number page script old new put answer status is run request lines asks lines_are three =
    fault_by word given number page script old new put answer status run (course_of request) status lines lines_are is
    (run.runs.runs.request request asks).ends three

pub is_missed : (word : List ℕ) (given number : ℕ) (page script old new : List ℕ) (put answer : ℕ) (status : Status)
    → answer ≡ status_number status → HasRun word given number page script old new put status
    → IsMissed word given number answer
is_missed word given number page script old new put answer status is run request asks four page_there script_there =
    missed_by word given number page script old new put answer status run (course_of request) status is
    (run.runs.runs.request request asks) four page_there script_there
