-- Words that are no request, and a call that puts nothing.
use Rattle.std.proofs.Common.{◌≡◌, inl, inr, ℕ, List, [], ◌++◌, Option, Some, None, true, length, drop}
use Rattle.std.proofs.Common.{refl, sym, ap, subst, ◌∙◌}
use Rattle.std.proofs.lemmas.Option.{same_Some}
use Rattle.cept_editor.specs.Made.{Output}
use Rattle.cept_outside.specs.SinkState.{SinkState}
use Rattle.cept_run.specs.Outside.{Outside}
use Rattle.cept_run.specs.Run.{Ends, EndsAtScript, Runs, status_number}
use Rattle.cept_run.specs.Words.{Request, request_of}
use Rattle.cept_run.specs.Course.{Source, ScriptSource, NoScript, ScriptFile, course_of}
use Rattle.cept_run.specs.declared.run.Status.{Status}
use Rattle.cept_run.specs.declared.run.Status.TheVariants as statuses
use Rattle.tamligub.specs.Called.{Holding, HasRun, MemoryTaken, NothingPut, PutsNone, UsageAnswered}
use Rattle.tamligub.specs.Words.{words_for}

-- the status with a number
usage_by : (s : Status) → status_number s ≡ 2 → s ≡ statuses.Usage
usage_by statuses.Done e = cc
usage_by statuses.Refusals e = cc
usage_by statuses.Usage e = refl
usage_by statuses.Script e = cc
usage_by statuses.ReadFault e = cc
usage_by statuses.WriteFault e = cc
usage_by statuses.NoMemory e = cc
usage_by statuses.TooLong e = cc
usage_by statuses.NotSeven e = cc

memory_by : (s : Status) → status_number s ≡ 6 → s ≡ statuses.NoMemory
memory_by statuses.Done e = cc
memory_by statuses.Refusals e = cc
memory_by statuses.Usage e = cc
memory_by statuses.Script e = cc
memory_by statuses.ReadFault e = cc
memory_by statuses.WriteFault e = cc
memory_by statuses.NoMemory e = refl
memory_by statuses.TooLong e = cc
memory_by statuses.NotSeven e = cc

pub usage_answered : (word : List ℕ) (given number : ℕ) (page script old new : List ℕ) (put answer : ℕ) (status : Status)
    → answer ≡ status_number status → HasRun word given number page script old new put status
    → UsageAnswered word given number answer
usage_answered word given number page script old new put answer status is run = (
  (λ two. run.runs.runs.usage.0 (usage_by status (sym is ∙ two))),
  (λ none. is ∙ ap status_number (run.runs.runs.usage.1 none)),
)

without_memory : (words : List (List ℕ)) (before after : Outside) (status : Status) (request : Request)
    → request_of words ≡ Some request → Runs words before after status → status ≡ statuses.NoMemory
    → (course_of request).painting ≡ true
without_memory words before after status request asks runs is =
    (subst (λ (s : Status). Ends (course_of request) before after s) is (runs.request request asks).ends).0

pub memory_taken : (word : List ℕ) (given number : ℕ) (page script old new : List ℕ) (put answer : ℕ) (status : Status)
    → answer ≡ status_number status → HasRun word given number page script old new put status
    → MemoryTaken word given number answer
memory_taken word given number page script old new put answer status is run request asks six =
    without_memory (words_for word given number) run.runs.before run.runs.after status request asks run.runs.runs
    (memory_by status (sym is ∙ six))

-- of no text nothing stands in the slice
none_held : (text old new : List ℕ) (put : ℕ) → text ≡ [] → Holding text old new put → PutsNone old new put
none_held text old new put none holding = record {
  stays = holding.front ∙ ap (λ t. t ++ drop (length t) old) none;
  none = holding.count ∙ ap length none;
}

-- a run that puts nothing
unput_run : (word : List ℕ) (given number : ℕ) (page script old new : List ℕ) (put : ℕ) (status : Status)
    (run : HasRun word given number page script old new put status)
    → run.runs.after.sink ≡ run.runs.before.sink → PutsNone old new put
unput_run word given number page script old new put status run same =
    let none : run.text ≡ [] =
    same_Some run.text [] (sym run.is ∙ ap (λ (s : SinkState). s.bytes) (sym run.runs.after_sink ∙ same
    ∙ run.runs.before_sink)) in
    none_held run.text old new put none run.holding

-- nor does one at whose script there is no memory
unput_at : (script : ScriptSource) (page : Source) (before after : Outside)
    → EndsAtScript script page before after statuses.NoMemory → after.sink ≡ before.sink
unput_at NoScript page before after ends = elim ends [ ]
unput_at (ScriptFile grammar name) page before after ends = ap (λ (o : Output). o.sink) ends.unmade

unput_by : (words : List (List ℕ)) (before after : Outside) (asked : Option Request) → request_of words ≡ asked
    → Runs words before after statuses.NoMemory → after.sink ≡ before.sink
unput_by words before after (Some request) is runs =
    elim (runs.request request is).ends.1 [
      | inl same ↦ ap (λ (o : Outside). o.sink) same
      | inr script ↦ unput_at (course_of request).script (course_of request).page before after script
    ]
unput_by words before after None is runs = ap (λ (o : Outside). o.sink) (runs.untouched (runs.usage.1 is))

pub nothing_put : (word : List ℕ) (given number : ℕ) (page script old new : List ℕ) (put answer : ℕ) (status : Status)
    → answer ≡ status_number status → HasRun word given number page script old new put status
    → NothingPut old new put answer
nothing_put word given number page script old new put answer status is run (inl two) =
    unput_run word given number page script old new put status run
    (ap (λ (o : Outside). o.sink) (run.runs.runs.untouched (usage_by status (sym is ∙ two))))
nothing_put word given number page script old new put answer status is run (inr six) =
    let on = run.runs in
    unput_run word given number page script old new put status run
    (unput_by (words_for word given number) on.before on.after (request_of (words_for word given number)) refl
    (subst (λ (s : Status). Runs (words_for word given number) on.before on.after s) (memory_by status (sym is ∙ six)) on.runs))
