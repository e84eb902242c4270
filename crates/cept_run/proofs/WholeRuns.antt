-- A known page, whatever is selected at the end, and the whole run.
use Rattle.std.proofs.Common.{◌≡◌, ◌⊎◌, inl, inr, ℕ, ◌^◌, ◌≤◌, Bool, true, false, List, take}
use Rattle.std.proofs.Common.{Option, Some, None, is_some, Result, Ok, Err, refl, sym, ◌∙◌, ap, subst, arith}
use Rattle.std.proofs.Common.{length}
use Rattle.std.proofs.lemmas.Option.{none-some, same_Some}
use Rattle.cept_outside.specs.Causes.{Rose}
use Rattle.cept_outside.specs.ShelfState.{ShelfState, Holds, KeepsFiles, IsSound}
use Rattle.cept_run.specs.declared.page.Stop.{Stop}
use Rattle.cept_run.specs.declared.page.Stop.TheVariants as stops
use Rattle.cept_run.specs.declared.run.Status.{Status}
use Rattle.cept_run.specs.declared.run.Status.TheVariants as statuses
use Rattle.cept_run.specs.Course.{Course, Source, File, Gives, ScriptSource, NoScript, ScriptFile, course_of}
use Rattle.cept_run.specs.Outside.{Outside}
use Rattle.cept_run.specs.Run.{ReportsFirst, IsPageTooLong, EndsAtScript, Ends, ReadsFiles}
use Rattle.cept_run.specs.Run.{ReportsFront, TouchesShelf, RunsCourse, IsShortScript, IsUnreadable, Runs}
use Rattle.cept_run.specs.Run.{status_at_end}
use Rattle.cept_run.specs.Words.{Request, request_of}
use Rattle.cept_run.proofs.StoppedScripts.{name_in}

-- ---- a known page, whatever is selected at the end

-- where the page is known, either it is selected at the end, or no name is
pub selected_at_end : (name : List ℕ) (before after : ShelfState) (selected : Option (Option (List ℕ))) (page : List ℕ)
    → after.selected ≡ selected → IsSound before → KeepsFiles before after → Holds before name page
    → ((chosen : Option (List ℕ)) → after.selected ≡ Some chosen → (chosen ≡ None) ⊎ (chosen ≡ Some name))
    → (after.selected ≡ Some None) ⊎ (after.selected ≡ Some (Some name))
selected_at_end name before after None page is sound keeps holds selects =
    let reported : is_some after.selected ≡ true = keeps.tells_selected ∙ sound.together ∙ holds.tells in
    let untold : false ≡ true = sym (ap is_some is) ∙ reported in
    cc
selected_at_end name before after (Some chosen) page is sound keeps holds selects = by_name (selects chosen is)
  where
    by_name : (chosen ≡ None) ⊎ (chosen ≡ Some name)
        → (after.selected ≡ Some None) ⊎ (after.selected ≡ Some (Some name))
    by_name (inl e) = inl (is ∙ ap Some e)
    by_name (inr e) = inr (is ∙ ap Some e)

-- what the shelf does, where the page is in a file
pub reads_files : (course : Course) (name : List ℕ) (before after : ShelfState) (status : Status) → course.page ≡ File name
    → TouchesShelf course course.page before after status → ReadsFiles course name before after status
reads_files course name before after status is =
    subst (λ (s : Source). TouchesShelf course s before after status) is

-- the first bytes of a known page are reported
pub first_of : (course : Course) (name page : List ℕ) (before after : Outside) → course.page ≡ File name
    → Holds before.shelf name page → (size : ℕ) → ReportsFirst course size before after
    → ReportsFront course (take size page) before after
first_of course name page before after paged holds size first =
    let same : first.name ≡ name = name_in first.name name (sym first.named ∙ paged) in
    subst (λ (b : List ℕ). ReportsFront course b before after)
    (first.front_is page (inl (subst (λ n. Holds before.shelf n page) (sym same) holds))) first.reports

module _ (course : Course) (name page : List ℕ) (before after : Outside) (paged : course.page ≡ File name)
    (holds : Holds before.shelf name page) (alone : course.script ≡ NoScript) where
  not_script : (status : Status) → EndsAtScript course.script course.page before after status → ⊥
  not_script status = subst (λ (s : ScriptSource). EndsAtScript s course.page before after status) alone

  unread_by : Ends course before after statuses.ReadFault → ReportsFront course (take after.shelf.taken page) before after
  unread_by ends =
      elim ends.2 [
        | inl unread ↦ first_of course name page before after paged holds after.shelf.taken unread.first
        | inr script ↦ absurd (not_script statuses.ReadFault script)
      ]

  too_long_by : IsPageTooLong course before after ⊎ EndsAtScript course.script course.page before after statuses.TooLong
      → ReportsFront course (take (2 ^ 24) page) before after
  too_long_by (inl ends) = first_of course name page before after paged holds (2 ^ 24) ends.first
  too_long_by (inr ends) = absurd (not_script statuses.TooLong ends)

pub unread_reported : (words : List (List ℕ)) (request : Request) (name page : List ℕ) (before after : Outside)
    → IsSound before.shelf → IsSound after.shelf → Runs words before after statuses.ReadFault
    → request_of words ≡ Some request → (course_of request).page ≡ File name → Holds before.shelf name page
    → (course_of request).script ≡ NoScript
    → ReportsFront (course_of request) (take after.shelf.taken page) before after
unread_reported words request name page before after sound sound_after runs asked paged holds alone =
    unread_by (course_of request) name page before after paged holds alone (runs.request request asked).ends

pub too_long_reported : (words : List (List ℕ)) (request : Request) (name page : List ℕ) (before after : Outside)
    → IsSound before.shelf → IsSound after.shelf → Runs words before after statuses.TooLong
    → request_of words ≡ Some request → (course_of request).page ≡ File name → Holds before.shelf name page
    → (course_of request).script ≡ NoScript
    → ReportsFront (course_of request) (take (2 ^ 24) page) before after
too_long_reported words request name page before after sound sound_after runs asked paged holds alone =
    too_long_by (course_of request) name page before after paged holds alone (runs.request request asked).ends

-- ---- the whole run

-- a script that is short enough is not too long
not_short : (script : ScriptSource) (page : Source) (before after : Outside)
    → EndsAtScript script page before after statuses.TooLong → IsShortScript before.shelf script → ⊥
not_short NoScript page before after ends short = elim ends [ ]
not_short (ScriptFile grammar name) page before after ends short = omega (arith, short.2, ends.3 short.0 short.1)

not_too_long : (course : Course) (name page : List ℕ) (before after : Outside) → course.page ≡ File name
    → IsPageTooLong course before after ⊎ EndsAtScript course.script course.page before after statuses.TooLong
    → Gives before.shelf name page
    → length page ≤ 2 ^ 24 → IsShortScript before.shelf course.script → ⊥
not_too_long course name page before after paged (inl ends) given few short = omega (
  arith,
  few,
  ends.longer page
      (subst (λ n. Gives before.shelf n page) (name_in name ends.first.name (sym paged ∙ ends.first.named)) given),
)
not_too_long course name page before after paged (inr ends) given few short =
    not_short course.script course.page before after ends short

-- it is read to its end, or there is a cause
completes_by : (course : Course) (name page : List ℕ) (before after : Outside) (status : Status)
    → course.page ≡ File name → Ends course before after status → Gives before.shelf name page
    → length page ≤ 2 ^ 24 → IsShortScript before.shelf course.script
    → (Rose before.shelf.faults after.shelf.faults → ⊥) → (Rose before.sink.faults after.sink.faults → ⊥)
    → (status ≡ statuses.Done) ⊎ (status ≡ statuses.Refusals) ⊎ (status ≡ statuses.Script)
    ⊎ ((status ≡ statuses.NoMemory) × (course.painting ≡ true))
    ⊎ ((status ≡ statuses.NotSeven) × IsUnreadable course page)
completes_by course name page before after statuses.Done paged ends given few short shelf sink = inl refl
completes_by course name page before after statuses.Refusals paged ends given few short shelf sink = inr (inl refl)
completes_by course name page before after statuses.Usage paged ends given few short shelf sink = elim ends [ ]
completes_by course name page before after statuses.Script paged ends given few short shelf sink = inr (inr (inl refl))
completes_by course name page before after statuses.ReadFault paged ends given few short shelf sink =
    absurd (shelf ends.0)
completes_by course name page before after statuses.WriteFault paged ends given few short shelf sink =
    absurd (sink ends.0)
completes_by course name page before after statuses.NoMemory paged ends given few short shelf sink =
    inr (inr (inr (inl (refl, ends.0))))
completes_by course name page before after statuses.TooLong paged ends given few short shelf sink =
    absurd (not_too_long course name page before after paged ends given few short)
completes_by course name page before after statuses.NotSeven paged ends given few short shelf sink =
    let same = name_in name ends.first.name (sym paged ∙ ends.first.named) in
    inr (inr (inr (inr (refl, ends.unreadable page (subst (λ n. Gives before.shelf n page) same given)))))

runs_by : (words : List (List ℕ)) (request : Request) (before after : Outside) (status : Status)
    → request_of words ≡ Some request → (status ≡ statuses.Usage → ⊥)
    → RunsCourse (course_of request) before after status → Runs words before after status
runs_by words request before after status is other run =
    let same : (r : Request) → request_of words ≡ Some r → request ≡ r = λ r e. same_Some request r (sym is ∙ e) in
    let by : (r : Request) → request_of words ≡ Some r → RunsCourse (course_of r) before after status =
    λ r e. subst (λ (q : Request). RunsCourse (course_of q) before after status) (same r e) run in
    record {
      usage = ((λ e. absurd (other e)), (λ none. absurd (none-some request (sym none ∙ is))));
      untouched = λ u. absurd (other u);
      request = by;
      completes = λ r page asks few short shelf sink. completes_by (course_of r) asks.name page before after status
          asks.named (by r asks.asked).ends asks.given few short shelf sink;
    }

-- the words are no request
pub runs_nothing : (words : List (List ℕ)) (before : Outside) → request_of words ≡ None
    → Runs words before before statuses.Usage
runs_nothing words before none = record {
  usage = ((λ e. none), (λ e. refl));
  untouched = λ e. refl;
  request = λ r e. absurd (none-some r (sym none ∙ e));
  completes = λ r page asks few short shelf sink. absurd (none-some r (sym none ∙ asks.asked));
}

-- a run of a request, by what was answered
pub runs_at_end : (words : List (List ℕ)) (request : Request) (before after : Outside) (answer : Result Bool Stop)
    → request_of words ≡ Some request → RunsCourse (course_of request) before after (status_at_end answer)
    → Runs words before after (status_at_end answer)
runs_at_end words request before after (Ok false) is run =
    runs_by words request before after statuses.Done is (λ e. cc) run
runs_at_end words request before after (Ok true) is run =
    runs_by words request before after statuses.Refusals is (λ e. cc) run
runs_at_end words request before after (Err stops.ReadFault) is run =
    runs_by words request before after statuses.ReadFault is (λ e. cc) run
runs_at_end words request before after (Err stops.WriteFault) is run =
    runs_by words request before after statuses.WriteFault is (λ e. cc) run
runs_at_end words request before after (Err stops.TooLong) is run =
    runs_by words request before after statuses.TooLong is (λ e. cc) run
runs_at_end words request before after (Err stops.Script) is run =
    runs_by words request before after statuses.Script is (λ e. cc) run
runs_at_end words request before after (Err stops.NoMemory) is run =
    runs_by words request before after statuses.NoMemory is (λ e. cc) run
runs_at_end words request before after (Err stops.NotSeven) is run =
    runs_by words request before after statuses.NotSeven is (λ e. cc) run

-- what a run that isn't of status 2 ended by
pub ended : (words : List (List ℕ)) (before after : Outside) (status : Status) (P : Type 0)
    → (status ≡ statuses.Usage → ⊥) → Runs words before after status
    → ((course : Course) → Ends course before after status → P) → P
ended words before after status P other runs by = by_request (request_of words) refl
  where
    by_request : (r : Option Request) → request_of words ≡ r → P
    by_request None is = absurd (other (runs.usage.1 is))
    by_request (Some request) is = by (course_of request) (runs.request request is).ends
