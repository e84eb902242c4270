-- A known page that isn't read to its end, by what is selected at the end.
use Rattle.std.proofs.Common.{◌≡◌, ◌≢◌, ◌⊎◌, inl, inr, ℕ, ◌^◌, List, [], take, Some, None, refl, sym}
use Rattle.std.proofs.Common.{◌∙◌, ap, subst}
use Rattle.cept_outside.specs.ShelfState.{Holds, IsSound}
use Rattle.cept_run.specs.declared.run.Status.{Status}
use Rattle.cept_run.specs.declared.run.Status.TheVariants as statuses
use Rattle.cept_run.specs.declared.words.End.TheVariants as ends
use Rattle.cept_run.specs.declared.words.NumberAction.TheVariants as numbers
use Rattle.cept_run.specs.Course.{Course, Source, File, Grammar, Scripts, Drawings, ScriptSource, NoScript, ScriptFile}
use Rattle.cept_run.specs.Course.{SelectsNoOther, course_of}
use Rattle.cept_run.specs.Outside.{Outside, output}
use Rattle.cept_run.specs.Run.{Ends, EndsAtScript, IsAtScript, IsPageTooLong, ReportsFirst, ReportsFront, Runs}
use Rattle.cept_run.specs.Run.{RunsCourse}
use Rattle.cept_run.specs.Words.{Request, Page, Bytes, Script, Number, Flash, Drawing, request_of, options_of_script, painting_options}
use Rattle.cept_run.proofs.PagesInPieces.{nil_from_length}
use Rattle.cept_run.proofs.ReportedFronts.{reports_nothing}
use Rattle.cept_run.proofs.StoppedScripts.{name_in}
use Rattle.cept_run.proofs.WholeRuns.{selected_at_end, reads_files, first_of}

-- where nothing is put and nothing painted, nothing is reported of a page after a script or a drawing
nothing_reported : (request : Request) (grammar : Grammar) (script : List ℕ) (before after : Outside)
    → (course_of request).script ≡ ScriptFile grammar script → output after ≡ output before
    → ReportsFront (course_of request) [] before after
nothing_reported (Page action page) grammar script before after named same = cc
nothing_reported (Bytes action page) grammar script before after named same = cc
nothing_reported (Script action page other) grammar script before after named same =
    reports_nothing (options_of_script action) (File page) (ScriptFile Scripts other) before after same
nothing_reported (Number numbers.Generate number) grammar script before after named same = cc
nothing_reported (Number numbers.Load number) grammar script before after named same = cc
nothing_reported (Flash page turns) grammar script before after named same = cc
nothing_reported (Drawing page drawing) grammar script before after named same =
    reports_nothing (record painting_options { end = ends.Page }) (File page) (ScriptFile Drawings drawing) before after same

-- the script at which a run stands
record AtScript (script : ScriptSource) (page : Source) (before after : Outside) : Type 0 where
  pub grammar : Grammar
  pub name : List ℕ
  pub is : script ≡ ScriptFile grammar name
  pub at : IsAtScript name page before after

unread_at : (script : ScriptSource) (page : Source) (before after : Outside)
    → EndsAtScript script page before after statuses.ReadFault → AtScript script page before after
unread_at NoScript page before after ends = elim ends [ ]
unread_at (ScriptFile grammar name) page before after ends =
    record { grammar = grammar; name = name; is = refl; at = ends.0 }

too_long_at : (script : ScriptSource) (page : Source) (before after : Outside)
    → EndsAtScript script page before after statuses.TooLong → AtScript script page before after
too_long_at NoScript page before after ends = elim ends [ ]
too_long_at (ScriptFile grammar name) page before after ends =
    record { grammar = grammar; name = name; is = refl; at = ends.0 }

module _ (course : Course) (name page : List ℕ) (before after : Outside) (paged : course.page ≡ File name)
    (holds : Holds before.shelf name page) where
  -- the page is selected
  module _ (is : after.shelf.selected ≡ Some (Some name)) where
    not_at : AtScript course.script course.page before after → ⊥
    not_at stands =
        let page_is = stands.at.page_unselected in
        page_is.2 (is ∙ ap (λ n. Some (Some n)) (name_in name page_is.0 (sym paged ∙ page_is.1)))

    unread_front : Ends course before after statuses.ReadFault → ReportsFront course (take after.shelf.taken page) before after
    unread_front ends =
        elim ends.2 [
          | inl unread ↦ first_of course name page before after paged holds after.shelf.taken unread.first
          | inr script ↦ absurd (not_at (unread_at course.script course.page before after script))
        ]

    long_front : IsPageTooLong course before after ⊎ EndsAtScript course.script course.page before after statuses.TooLong
        → ReportsFront course (take (2 ^ 24) page) before after
    long_front (inl ends) = first_of course name page before after paged holds (2 ^ 24) ends.first
    long_front (inr ends) =
        absurd (not_at (too_long_at course.script course.page before after ends))

  -- or it isn't
  module _ {status : Status} (run : RunsCourse course before after status) (sound : IsSound before.shelf)
      (other : after.shelf.selected ≢ Some (Some name)) where
    nothing_selected : (own : List ℕ) → own ≡ name → SelectsNoOther own after.shelf → after.shelf.selected ≡ Some None
    nothing_selected own same selects =
        let files = (reads_files course name before.shelf after.shelf status paged run.shelf).files in
        by_name (selected_at_end name before.shelf after.shelf after.shelf.selected page refl sound files holds
        (subst (λ n. SelectsNoOther n after.shelf) same selects))
      where
        by_name : (after.shelf.selected ≡ Some None) ⊎ (after.shelf.selected ≡ Some (Some name))
            → after.shelf.selected ≡ Some None
        by_name (inl none) = none
        by_name (inr is) = absurd (other is)

    no_front : IsSound after.shelf → ReportsFirst course after.shelf.taken before after
        → ReportsFront course [] before after
    no_front sound_after first =
        let none = nothing_selected first.name (name_in first.name name (sym first.named ∙ paged)) first.selected in
        subst (λ (b : List ℕ). ReportsFront course b before after)
        (nil_from_length first.front (first.counted ∙ (sound_after.nothing none).1)) first.reports

    -- a page that is too long is selected
    not_page : IsPageTooLong course before after → ⊥
    not_page ends =
        ends.selected (nothing_selected ends.first.name (name_in ends.first.name name (sym ends.first.named ∙ paged))
        ends.first.selected)

nothing_at : (request : Request) (before after : Outside)
    → AtScript (course_of request).script (course_of request).page before after
    → ReportsFront (course_of request) [] before after
nothing_at request before after stands =
    nothing_reported request stands.grammar stands.name before after stands.is stands.at.unmade

pub unread_selected : (words : List (List ℕ)) (request : Request) (name page : List ℕ) (before after : Outside)
    → IsSound before.shelf → IsSound after.shelf → Runs words before after statuses.ReadFault
    → request_of words ≡ Some request → (course_of request).page ≡ File name → Holds before.shelf name page
    → after.shelf.selected ≡ Some (Some name)
    → ReportsFront (course_of request) (take after.shelf.taken page) before after
unread_selected words request name page before after sound sound_after runs asked paged holds is =
    unread_front (course_of request) name page before after paged holds is (runs.request request asked).ends

pub unread_unselected : (words : List (List ℕ)) (request : Request) (name page : List ℕ) (before after : Outside)
    → IsSound before.shelf → IsSound after.shelf → Runs words before after statuses.ReadFault
    → request_of words ≡ Some request → (course_of request).page ≡ File name → Holds before.shelf name page
    → after.shelf.selected ≢ Some (Some name) → ReportsFront (course_of request) [] before after
unread_unselected words request name page before after sound sound_after runs asked paged holds other =
    let run = runs.request request asked in
    elim run.ends.2 [
      | inl unread ↦ no_front (course_of request) name page before after paged holds run sound other sound_after unread.first
      | inr script ↦ nothing_at request before after
          (unread_at (course_of request).script (course_of request).page before after script)
    ]

pub too_long_selected : (words : List (List ℕ)) (request : Request) (name page : List ℕ) (before after : Outside)
    → Runs words before after statuses.TooLong → request_of words ≡ Some request
    → (course_of request).page ≡ File name → Holds before.shelf name page → after.shelf.selected ≡ Some (Some name)
    → ReportsFront (course_of request) (take (2 ^ 24) page) before after
too_long_selected words request name page before after runs asked paged holds is =
    long_front (course_of request) name page before after paged holds is (runs.request request asked).ends

pub too_long_unselected : (words : List (List ℕ)) (request : Request) (name page : List ℕ) (before after : Outside)
    → IsSound before.shelf → Runs words before after statuses.TooLong → request_of words ≡ Some request
    → (course_of request).page ≡ File name → Holds before.shelf name page
    → after.shelf.selected ≢ Some (Some name) → ReportsFront (course_of request) [] before after
too_long_unselected words request name page before after sound runs asked paged holds other =
    let run = runs.request request asked in
    by_which run run.ends
  where
    by_which : RunsCourse (course_of request) before after statuses.TooLong
        → IsPageTooLong (course_of request) before after
        ⊎ EndsAtScript (course_of request).script (course_of request).page before after statuses.TooLong
        → ReportsFront (course_of request) [] before after
    by_which run (inl ends) = absurd (not_page (course_of request) name page before after paged holds run sound other ends)
    by_which run (inr ends) =
        nothing_at request before after (too_long_at (course_of request).script (course_of request).page before after ends)
