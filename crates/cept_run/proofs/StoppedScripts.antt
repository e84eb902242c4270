-- How a run ends by its script or its drawing.
use Rattle.std.proofs.Common.{◌≡◌, ◌≢◌, ◌⊎◌, inl, inr, ℕ, ◌^◌, ◌<◌, ◌≤◌, true, false, List, []}
use Rattle.std.proofs.Common.{Some, None, is_some, refl, sym, ◌∙◌, ap, subst, arith}
use Rattle.std.proofs.Common.{length, take}
use Rattle.std.proofs.lemmas.List.{take_all}
use Rattle.std.proofs.lemmas.Option.{none-some, same_Some}
use Rattle.std.specs.Io.KnownBytes.{append_known}
use Rattle.cept_words.specs.Faults.{Fault}
use Rattle.cept_editor.specs.Made.{output_of}
use Rattle.cept_outside.specs.ShelfState.{ShelfState, IsSound}
use Rattle.cept_outside.specs.SinkState.{SinkState, HasPut, Gains, GainsPart}
use Rattle.cept_outside.proofs.Laws.{HasPut-nothing, append_known-nil}
use Rattle.cept_report.specs.Text.{script_fault_line}
use Rattle.cept_run.specs.declared.page.Stop.{Stop}
use Rattle.cept_run.specs.declared.page.Stop.TheVariants as stops
use Rattle.cept_run.specs.declared.run.Status.{Status}
use Rattle.cept_run.specs.declared.run.Status.TheVariants as statuses
use Rattle.cept_run.specs.declared.words.ReportOptions.{ReportOptions}
use Rattle.cept_run.specs.Course.{Course, Source, File, Given, Gives, Grammar, first_fault_in, NoScript, ScriptFile, report_course}
use Rattle.cept_run.specs.Events.{Sequel}
use Rattle.cept_run.specs.Outside.{Outside, outside_of, PutsWhole, PutsFront}
use Rattle.cept_run.specs.Run.{EndsAtBadLine, IsAtScript, Ends, RunsCourse}
use Rattle.cept_run.specs.Run.{status_of}
use Rattle.cept_run.specs.ScriptReading.{ScriptWhole, ScriptRefused, ScriptStops, SelectsScript}
use Rattle.cept_run.specs.inside.ScriptReading.{ScriptKnown}
use Rattle.cept_run.specs.Words.{is_painted}
use Rattle.cept_run.proofs.FrontsPut.{front_of}
use Rattle.cept_run.proofs.Selections.{put_either, EndsPut, put_unless, room_kept}

-- the name of a file
name_of : List ℕ → Source → List ℕ
name_of other (File name) = name
name_of other (Given own) = other

pub name_in : (name other : List ℕ) → File name ≡ File other → name ≡ other
unfolding name_of
name_in name other e = ap (name_of name) e

-- ---- the script was read, or none is asked for

-- none is asked for
pub no_script : (shelf : ShelfState) → ScriptKnown NoScript [] shelf shelf
no_script shelf = record {
  is = refl;
  files = record { files = refl; tells_selected = refl; tells_left = refl };
  missed = λ there. refl;
  stays = refl;
}

-- it was read
pub script_read : (grammar : Grammar) (name : List ℕ) (sequel : Sequel) (before mid : ShelfState)
    → SelectsScript name before mid → (whole : ScriptWhole grammar name sequel before mid)
    → ScriptKnown (ScriptFile grammar name) whole.bytes before mid
script_read grammar name next before mid selects whole = record {
  is = (whole.takes.known, whole.good, whole.takes.few);
  files = selects.files;
  missed = λ there. selects.missed (there grammar name refl);
  stays = whole.takes.stays;
}

-- ---- the reading of the script stopped

-- a name is selected of which bytes were taken
pub named_so_long : (shelf : ShelfState) → IsSound shelf → 2 ^ 20 < shelf.taken → shelf.selected ≢ Some None
named_so_long shelf sound long none = omega (arith, long, (sound.nothing none).1)

-- nothing was painted, and nothing put but a front of this text
abbrev PutsAtMost : List ℕ → Outside → Outside → Type 0
PutsAtMost text before after = (after.glass ≡ before.glass)
    × (size : ℕ) × (after.sink.bytes ≡ append_known before.sink.bytes (take size text))

module _ (options : ReportOptions) (grammar : Grammar) (page name : List ℕ) (before : Outside) (shelf : ShelfState)
    (sink : SinkState) (painting : is_painted options.way ≡ true) (differs : name ≢ page)
    (selects : SelectsScript name before.shelf shelf) where
  abbrev course : Course
  course = report_course options (File page) (ScriptFile grammar name)

  abbrev now : Outside
  now = outside_of shelf sink before.glass

  -- the page isn't selected
  page_unselected : shelf.selected ≡ Some (Some page) → ⊥
  page_unselected is = by_name (selects.selects (Some page) is)
    where
      by_name : (Some page ≡ None) ⊎ (Some page ≡ Some name) → ⊥
      by_name (inl e) = none-some page (sym e)
      by_name (inr e) = differs (sym (same_Some page name e))

  unselected : (other : List ℕ) → File page ≡ File other → shelf.selected ≢ Some (Some other)
  unselected other is chosen = page_unselected (chosen ∙ ap (λ n. Some (Some n)) (sym (name_in page other is)))

  runs_script : (status : Status) → Ends course before now status
      → (status ≢ statuses.ReadFault → shelf.faults ≡ before.shelf.faults)
      → (status ≢ statuses.WriteFault → sink.faults ≡ before.sink.faults)
      → ((script : List ℕ) (fault : Fault) → Gives before.shelf name script
      → first_fault_in grammar script ≡ Some fault → PutsAtMost (script_fault_line fault.line fault.reason) before now)
      → EndsPut status before.sink sink → before.sink.faults ≤ sink.faults
      → RunsCourse course before now status
  runs_script status ends shelf_stays sink_stays bad puts later = record {
    ends = ends;
    shelf_stays = shelf_stays;
    sink_stays = sink_stays;
    shelf = record {
      missed = λ there scripts. selects.missed (scripts grammar name refl);
      selects = λ touched. inr (grammar, name, refl, selects.selects);
      files = selects.files;
      faults = selects.faults;
    };
    script_first = record {
      stops = λ script holds why. (selects.missed (ap is_some holds.under), λ touched. unselected);
      bad = bad;
    };
    unpainted = λ idle. refl;
    unflushed = put_unless status before.sink sink puts;
    room = room_kept status before.sink sink puts;
    sink_faults = later;
  }

  -- nothing was put
  runs_unput : (status : Status) → Ends course before now status
      → (status ≢ statuses.ReadFault → shelf.faults ≡ before.shelf.faults) → sink ≡ before.sink
      → RunsCourse course before now status
  runs_unput status ends stays same = runs_script status ends stays (λ other. ap (λ (s : SinkState). s.faults) same)
      (λ script fault given found.
      (refl, 0, ap (λ (s : SinkState). s.bytes) same ∙ append_known-nil before.sink.bytes))
      (inl (subst (λ (s : SinkState). HasPut before.sink s) (sym same) (HasPut-nothing before.sink)))
      (omega (arith, ap (λ (s : SinkState). s.faults) same))

  -- ---- a line of it is outside the grammar

  -- nothing was put, and the page isn't selected
  at_script : sink ≡ before.sink → IsAtScript name (File page) before now
  at_script same = record {
    unmade = ap (λ (s : SinkState). output_of s before.glass) same;
    selected = selects.selects;
    page_unselected = (page, refl, page_unselected);
  }

  module _ {Put : List ℕ → Type 0} (refused : ScriptRefused grammar name before.shelf shelf Put) where
    abbrev text : List ℕ
    text = script_fault_line refused.fault.line refused.fault.reason

    -- its fault is the one that was found
    most_as : PutsAtMost text before now → (script : List ℕ) (fault : Fault) → Gives before.shelf name script
        → first_fault_in grammar script ≡ Some fault → PutsAtMost (script_fault_line fault.line fault.reason) before now
    most_as most script fault given found =
        let same : refused.fault ≡ fault = same_Some refused.fault fault (sym refused.found ∙ ap (first_fault_in grammar)
        (refused.takes.known script given) ∙ found) in
        subst (λ (f : Fault). PutsAtMost (script_fault_line f.line f.reason) before now) same most

    bad_line : (Puts : List ℕ → SinkState → SinkState → Type 0) → Puts text before.sink sink
        → EndsAtBadLine Puts grammar name before now
    bad_line Puts put = record {
      script = refused.bytes;
      script_is = refused.takes.known;
      fault = refused.fault;
      found = refused.found;
      not_too_long = refused.takes.few;
      taken = refused.takes.taken;
      put = put;
      unpainted = refl;
    }

    -- the whole line was put
    most_all : sink.bytes ≡ append_known before.sink.bytes text → PutsAtMost text before now
    most_all put = (
      refl,
      length text,
      put ∙ ap (append_known before.sink.bytes) (sym (take_all (length text) text (omega arith))),
    )

    -- or a part of it
    most_part : GainsPart before.sink text sink ⊎ (Gains before.sink text sink × (before.sink.always_flushes ≡ false))
        → PutsAtMost text before now
    most_part (inl part) = (refl, part.size, part.gains.bytes)
    most_part (inr all) = most_all all.0.bytes

  pub ends_at_script : (stop : Stop) → IsSound shelf → ScriptStops grammar name before.shelf before.sink stop shelf sink
      → RunsCourse course before now (status_of stop)
  ends_at_script stops.ReadFault sound ends =
      runs_unput statuses.ReadFault (ends.0.cause, ends.0.unended, inr (at_script ends.1, ends.0.few))
      (λ other. absurd (other refl)) ends.1
  ends_at_script stops.WriteFault sound ends = runs_script statuses.WriteFault (
    ends.put.cause,
    inr (bad_line ends PutsFront (front_of (text ends) before.sink sink ends.put.put)),
  ) (λ other. ends.takes.stays) (λ other. absurd (other refl)) (most_as ends (most_part ends ends.put.put))
      (inl (put_either (text ends) before.sink sink ends.put.put)) ends.put.later
  ends_at_script stops.TooLong sound ends = runs_unput statuses.TooLong
      (inr (at_script ends.1, ends.0.cause, named_so_long shelf sound ends.0.cause, ends.0.longer))
      (λ other. ends.0.stays) ends.1
  ends_at_script stops.Script sound ends = runs_script statuses.Script (bad_line ends PutsWhole ends.put)
      (λ other. ends.takes.stays) (λ other. ends.put.stays) (most_as ends (most_all ends ends.put.put))
      (inr (refl, ends.put.room)) (omega (arith, ends.put.stays))
  ends_at_script stops.NoMemory sound ends = runs_unput statuses.NoMemory (painting, inr (at_script ends.0))
      (λ other. ends.1) ends.0
  ends_at_script stops.NotSeven sound ends = elim ends [ ]
