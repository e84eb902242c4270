-- A run for which there is no memory touches nothing.
use Rattle.std.proofs.Common.{◌≡◌, inl, true, [], refl, arith}
use Rattle.cept_outside.specs.ShelfState.{ShelfState}
use Rattle.cept_outside.proofs.Laws.{Gains-nil, append_known-nil}
use Rattle.cept_run.specs.declared.run.Status.TheVariants as statuses
use Rattle.cept_run.specs.Course.{Course, Source, File, Given, ScriptSource, NoScript, ScriptFile}
use Rattle.cept_run.specs.Outside.{Outside}
use Rattle.cept_run.specs.Run.{RunsCourse, TouchesShelf, IsScriptFirst}

untouched : (course : Course) (source : Source) (shelf : ShelfState)
    → TouchesShelf course source shelf shelf statuses.NoMemory
untouched course (File name) shelf = record {
  missed = λ there scripts. refl;
  selects = λ touched. absurd (touched refl);
  files = record { files = refl; tells_selected = refl; tells_left = refl };
  faults = omega arith;
}
untouched course (Given own) shelf = refl

first_untouched : (script : ScriptSource) (page : Source) (before : Outside)
    → IsScriptFirst script page before before statuses.NoMemory
first_untouched NoScript page before = tt
first_untouched (ScriptFile grammar name) page before = record {
  stops = λ script holds why. (refl, λ touched other is selected. absurd (touched refl));
  bad = λ script fault given found. (refl, 0, append_known-nil before.sink.bytes);
}

pub runs_without_memory : (course : Course) (before : Outside) → course.painting ≡ true
    → RunsCourse course before before statuses.NoMemory
runs_without_memory course before painting = record {
  ends = (painting, inl refl);
  shelf = untouched course course.page before.shelf;
  shelf_stays = λ other. refl;
  sink_stays = λ other. refl;
  script_first = first_untouched course.script course.page before;
  unpainted = λ idle. refl;
  unflushed = λ done refusals other. ([], Gains-nil before.sink);
  room = refl;
  sink_faults = omega arith;
}
