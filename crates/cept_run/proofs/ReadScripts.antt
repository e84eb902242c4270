-- How the reading of a script or of a drawing ends, by what its parts did.
use Rattle.std.proofs.Common.{◌≡◌, inl, ℕ, ◌^◌, List, Option, Some, None, Ok, Err, refl, sym, ◌∙◌, subst, arith}
use Rattle.cept_editor.specs.declared.script.ScriptFault.{ScriptFault}
use Rattle.cept_editor.specs.declared.script.ScriptFault.TheVariants as faults
use Rattle.cept_editor.specs.Fault.{SaysFault}
use Rattle.cept_words.specs.Faults.{Fault}
use Rattle.cept_report.specs.Text.{script_fault_line}
use Rattle.cept_outside.specs.Causes.{Rose, HasCause}
use Rattle.cept_outside.specs.ShelfState.{ShelfState, Selects, IsSound}
use Rattle.cept_outside.specs.SinkState.{SinkState}
use Rattle.cept_plot.specs.declared.drawing.DrawFault.{DrawFault}
use Rattle.cept_plot.specs.declared.drawing.DrawFault.TheVariants as draw_faults
use Rattle.cept_plot.specs.Drawings.{SaysFault as SaysFaultOfDrawing}
use Rattle.cept_run.specs.declared.page.Stop.{Stop}
use Rattle.cept_run.specs.declared.page.Stop.TheVariants as stops
use Rattle.cept_run.specs.Course.{Gives, Grammar, first_fault_in, ScriptFile, sequel_in}
use Rattle.cept_run.specs.Events.{Sequel}
use Rattle.cept_run.specs.Page.{KeepsShelf}
use Rattle.cept_run.specs.Taking.{AreLeft, TakesWhole}
use Rattle.cept_run.specs.inside.ScriptReading.{TakingStops, Refuses, StopsAt}
use Rattle.cept_run.specs.ScriptReading.{ScriptStops, ScriptEnds, SelectsScript}
use Rattle.cept_run.specs.inside.ScriptReading.{as_script_fault}
use Rattle.cept_run.proofs.PagesInPieces.{KeepsFiles-more}
use Rattle.cept_run.proofs.Selections.{selected_is, given_left}

-- ---- a file of this name is taken

-- it couldn't be selected
module _ {X E : Type 0} (name : List ℕ) (before after : ShelfState) (f : E)
    (selects : Selects {X = X} {E = E} before name (Err f) after)
    (cause : HasCause {X = X} {E = E} before.faults after.faults (Err f)) where
  pub unselected : TakingStops (Gives before name) before stops.ReadFault after
  unselected = record { cause = cause.failed; few = omega (arith, selects.taken); unended = selects.ended }

  pub nothing_selected_of : SelectsScript name before after
  nothing_selected_of = record {
    files = selects.keeps;
    selects = λ chosen is. inl (selects.failed.chosen chosen is);
    missed = selects.missed_stays;
    faults = cause.later;
  }

-- it was selected
module _ {X E : Type 0} (name : List ℕ) (before mid after : ShelfState) (x : X) (sound : IsSound before)
    (selects : Selects {X = X} {E = E} before name (Ok x) mid) (selected : mid.faults ≡ before.faults)
    (keeps : KeepsShelf mid after) where
  pub file_selected : SelectsScript name before after
  file_selected = record {
    files = KeepsFiles-more before mid after selects.keeps keeps.files;
    selects = λ chosen is. selected_is before mid name x sound selects chosen (sym keeps.selected ∙ is);
    missed = λ there. keeps.missed ∙ selects.missed_stays there;
    faults = omega (arith, selected, keeps.faults);
  }

  -- it couldn't be taken to its end
  pub file_untaken : (stop : Stop) → TakingStops (AreLeft mid) mid stop after
      → TakingStops (Gives before name) before stop after
  file_untaken stops.ReadFault ends = record {
    cause = subst (λ n. Rose n after.faults) selected ends.cause;
    few = ends.few;
    unended = ends.unended;
  }
  file_untaken stops.WriteFault ends = elim ends [ ]
  file_untaken stops.TooLong ends = record {
    cause = ends.cause;
    longer = λ script given. ends.longer script (given_left before mid name script x selects given);
    stays = ends.stays ∙ selected;
  }
  file_untaken stops.Script ends = elim ends [ ]
  file_untaken stops.NoMemory ends = ends ∙ selected
  file_untaken stops.NotSeven ends = elim ends [ ]

  -- it was
  pub file_taken : (bytes : List ℕ) → TakesWhole (AreLeft mid) (2 ^ 20) bytes mid after
      → TakesWhole (Gives before name) (2 ^ 20) bytes before after
  file_taken bytes taken = record {
    known = λ script given. taken.known script (given_left before mid name script x selects given);
    taken = taken.taken;
    few = taken.few;
    stays = taken.stays ∙ selected;
  }

-- ---- it is read

module _ (grammar : Grammar) (name : List ℕ) (before after : ShelfState) where
  -- it wasn't taken to its end
  pub script_unread : (stop : Stop) (old : SinkState) → TakingStops (Gives before name) before stop after
      → ScriptStops grammar name before old stop after old
  script_unread stops.ReadFault old ends = (ends, refl)
  script_unread stops.WriteFault old ends = elim ends [ ]
  script_unread stops.TooLong old ends = (ends, refl)
  script_unread stops.Script old ends = elim ends [ ]
  script_unread stops.NoMemory old ends = (refl, ends)
  script_unread stops.NotSeven old ends = elim ends [ ]

  module _ (bytes : List ℕ) (whole : TakesWhole (Gives before name) (2 ^ 20) bytes before after) where
    -- it is within the grammar
    pub script_good : {A : Type 0} (sequel : A → Sequel) (read : A) (old : SinkState)
        → first_fault_in grammar bytes ≡ None → sequel read ≡ sequel_in (ScriptFile grammar name) bytes
        → ScriptEnds grammar sequel name before old (Ok read) after old
    script_good sequel read old good are = (
      record {
        bytes = bytes;
        takes = whole;
        good = good;
        are = are;
      },
      refl,
    )

    -- it isn't
    script_bad : (fault : Fault) (stop : Stop) (old new : SinkState) → first_fault_in grammar bytes ≡ Some fault
        → Refuses (script_fault_line fault.line fault.reason) old stop new → ScriptStops grammar name before old stop after new
    script_bad fault stops.ReadFault old new found refuses = elim refuses [ ]
    script_bad fault stops.WriteFault old new found refuses =
        record { bytes = bytes; takes = whole; fault = fault; found = found; put = refuses }
    script_bad fault stops.TooLong old new found refuses = elim refuses [ ]
    script_bad fault stops.Script old new found refuses =
        record { bytes = bytes; takes = whole; fault = fault; found = found; put = refuses }
    script_bad fault stops.NoMemory old new found refuses = elim refuses [ ]
    script_bad fault stops.NotSeven old new found refuses = elim refuses [ ]

    -- by what its reading answers
    pub script_faulty : (fault : ScriptFault) (stop : Stop) (old new : SinkState)
        → SaysFault (first_fault_in grammar bytes) fault → StopsAt fault old stop new
        → ScriptStops grammar name before old stop after new
    script_faulty (faults.BadLine line reason) stop old new says refuses =
        script_bad (record { line = line; reason = reason }) stop old new says refuses
    script_faulty faults.NoMemory stop old new says refuses =
        subst (λ (s : Stop). ScriptStops grammar name before old s after new) (sym refuses.0) (refuses.1, whole.stays)

-- a drawing's fault is said as a script's
pub drawing_faulty : (first : Option Fault) (fault : DrawFault) → SaysFaultOfDrawing first fault
    → SaysFault first (as_script_fault fault)
drawing_faulty first (draw_faults.BadLine line reason) says = says
drawing_faulty first draw_faults.NoMemory says = tt
