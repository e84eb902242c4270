-- How a run of a generated page ends.
use Rattle.std.proofs.Common.{◌≡◌, ◌≢◌, inl, ℕ, ◌^◌, ◌≤◌, Bool, true, false, List, [], ◌∷◌, ◌++◌, Result, Ok, Err, refl, sym}
use Rattle.std.proofs.Common.{◌∙◌, ap, subst, arith, length, nat_lt, ◌⊎◌, inr}
use Rattle.cept_codes.specs.declared.command.Command.{Command}
use Rattle.cept_editor.specs.Events.{Event, still_event, report, paints}
use Rattle.cept_editor.specs.Made.{AreStill, ArePainted, output_of, AreMade, AreCutOff}
use Rattle.cept_editor.proofs.Laws.{AreCutOff-longer, cut_untouched, report-one, ArePainted-still, AreMade-none}
use Rattle.cept_editor.proofs.Laws.{AreMade-end, AreCutOff-end}
use Rattle.cept_outside.specs.Causes.{Rose}
use Rattle.cept_outside.specs.ShelfState.{ShelfState}
use Rattle.cept_outside.specs.SinkState.{SinkState, Gains, GainsPart}
use Rattle.cept_profile.specs.Changes.{grid_with_paints}
use Rattle.cept_repaint.specs.GlassState.{GlassState}
use Rattle.cept_parser.specs.Items.{closed_items}
use Rattle.cept_profile.specs.Look.{grid}
use Rattle.cept_profile.specs.State.{core}
use Rattle.cept_writer.specs.CompactCommands.{page_text}
use Rattle.cept_run.specs.declared.page.Stop.{Stop}
use Rattle.cept_run.specs.declared.page.Stop.TheVariants as stops
use Rattle.cept_run.specs.declared.run.Status.{Status}
use Rattle.cept_run.specs.declared.run.Status.TheVariants as statuses
use Rattle.cept_run.specs.declared.words.ReportOptions.{ReportOptions}
use Rattle.cept_run.specs.Course.{Course, Given, NoScript, sequel_in, report_course, plain_course}
use Rattle.cept_run.specs.Events.{history, item_events, refused_count, Sequel, NoSequel, remaining_after}
use Rattle.cept_run.specs.Events.{end_text}
use Rattle.cept_run.specs.Outside.{Outside, output, PutsWhole, PutsUnflushed, PutsFront}
use Rattle.cept_run.specs.Page.{PutsEnd}
use Rattle.cept_run.specs.Reporting.{Plan, sequel_of, edited_events, remaining_at_end}
use Rattle.cept_run.specs.Run.{Restores, EndsWhole, IsReportCut, Ends, RunsCourse, status_at_end}
use Rattle.cept_run.specs.Words.{is_painted}
use Rattle.cept_run.proofs.EditedLines.{edited_events-none}
use Rattle.cept_run.proofs.PaintedItems.{chained-one, each_shown, still_idle}
use Rattle.cept_run.proofs.ReportedRuns.{put_cut, all, edited, the_end, the_run, whole_report, cut_at_end}
use Rattle.cept_run.proofs.FrontsPut.{cut_front, either_front, either_with}
use Rattle.cept_run.proofs.ReportedRuns.{put_to_end, front_at_end}
use Rattle.cept_run.proofs.Selections.{put_either, EndsPut, put_unless, room_kept}

-- ---- the page is put

module _ (page : List ℕ) (before after : Outside) (shelf : after.shelf ≡ before.shelf) (short : length page ≤ 2 ^ 24)
    (same : after.glass ≡ before.glass) where
  abbrev bare : Course
  bare = plain_course (Given page)

  abbrev event : Event
  event = still_event [] page

  runs_bare : (status : Status) → Ends bare before after status
      → (status ≢ statuses.WriteFault → after.sink.faults ≡ before.sink.faults) → EndsPut status before.sink after.sink → before.sink.faults ≤ after.sink.faults
      → RunsCourse bare before after status
  runs_bare status ends stays puts later = record {
    ends = ends;
    shelf = shelf;
    shelf_stays = λ other. ap (λ (s : ShelfState). s.faults) shelf;
    sink_stays = stays;
    script_first = tt;
    unpainted = λ idle. same;
    unflushed = put_unless status before.sink after.sink puts;
    room = room_kept status before.sink after.sink puts;
    sink_faults = later;
  }

  whole : PutsWhole page before.sink after.sink → EndsWhole bare before after false
  whole puts = record {
    page = page;
    page_is = refl;
    script = [];
    script_is = refl;
    reports = record {
      put = subst (λ (t : List ℕ). PutsWhole t before.sink after.sink) (sym (report-one event)) puts;
      painted = subst (λ (g : GlassState). ArePainted (event ∷ []) before.glass g) (sym same)
          (ArePainted-still event before.glass refl);
      each = λ blank done e rest split. ap (λ g. grid_with_paints g (paints (done ++ e ∷ []))) blank
          ∙ each_shown [] [] (event ∷ []) done e rest (chained-one event) split;
      meaning = λ blank. ap (λ (g : GlassState). g.grid) same ∙ blank;
      written = λ e. cc;
    };
    refusals = refl;
    readable = refl;
    can_end = refl;
    page_not_too_long = short;
    taken = λ name e. cc;
  }

  cut : PutsUnflushed page before.sink after.sink → IsReportCut bare before after
  cut puts = record {
    page = page;
    page_is = refl;
    script = [];
    script_is = refl;
    cut = either_with (event ∷ []) (output before) (output after) refl refl (by_text puts.put);
    front = λ blank. either_front (event ∷ []) (output before) (output after) (by_text puts.put);
    taken = λ name e. cc;
  }
    where
      by_text : GainsPart before.sink page after.sink ⊎ (Gains before.sink page after.sink
          × (before.sink.always_flushes ≡ false))
          → AreCutOff (event ∷ []) (output before) (output after)
          ⊎ (AreMade (event ∷ []) (output before) (output after) × (before.sink.always_flushes ≡ false))
      by_text (inl part) = inl (AreCutOff-end [] event (output before) (output before) (output after)
          (AreMade-none (output before)) refl refl part puts.cause puts.later same)
      by_text (inr all) = inr (
        AreMade-end [] event (output before) (output before) (output after)
            (AreMade-none (output before)) refl all.0 same,
        all.1,
      )

  pub runs_put : (result : Result Bool Stop) → PutsEnd page false before.sink result after.sink
      → RunsCourse bare before after (status_at_end result)
  runs_put (Ok false) puts = runs_bare statuses.Done (whole puts.0) (λ other. puts.0.stays) (inr (refl, puts.0.room))
      (omega (arith, puts.0.stays))
  runs_put (Ok true) puts =
      let no = puts.1 in
      cc
  runs_put (Err stop) puts =
      subst (λ (s : Stop). RunsCourse bare before after (status_at_end (Err s))) (sym puts.1)
      (runs_bare statuses.WriteFault (puts.0.cause, inl (cut puts.0)) (λ other. absurd (other refl)) (inl (put_either page before.sink after.sink puts.0.put)) puts.0.later)

-- ---- the page is read

module _ (plan : Plan) (page : List ℕ) (before after : Outside) (shelf : after.shelf ≡ before.shelf)
    (short : length page ≤ 2 ^ 24) (alone : sequel_of plan ≡ NoSequel) where
  abbrev options : ReportOptions
  options = plan.options

  abbrev loaded : Course
  loaded = report_course options (Given page) NoScript

  abbrev shown_run : List Event
  shown_run = the_run options NoScript page [] after.glass.grid

  runs_loaded : (status : Status) → Ends loaded before after status
      → (status ≢ statuses.WriteFault → after.sink.faults ≡ before.sink.faults)
      → (is_painted options.way ≡ false → after.glass ≡ before.glass)
      → EndsPut status before.sink after.sink → before.sink.faults ≤ after.sink.faults
      → RunsCourse loaded before after status
  runs_loaded status ends stays idle puts later = record {
    ends = ends;
    shelf = shelf;
    shelf_stays = λ other. ap (λ (s : ShelfState). s.faults) shelf;
    sink_stays = stays;
    script_first = tt;
    unpainted = idle;
    unflushed = put_unless status before.sink after.sink puts;
    room = room_kept status before.sink after.sink puts;
    sink_faults = later;
  }

  no_lines : sequel_of plan ≡ sequel_in NoScript []
  no_lines = alone

  edited_is : edited_events options (closed_items page) (sequel_of plan) ≡ item_events options (closed_items page)
  edited_is = ap (edited_events options (closed_items page)) alone ∙ edited_events-none options (closed_items page)

  -- the events where the glass shows what remains
  abbrev meant_run : List Event
  meant_run = the_run options NoScript page [] (grid (all options NoScript page []))

  loaded_cut : AreCutOff shown_run (output before) (output after)
      ⊎ (AreMade shown_run (output before) (output after) × (before.sink.always_flushes ≡ false))
      → (before.glass.grid ≡ grid [] → PutsFront (report meant_run) before.sink after.sink)
      → IsReportCut loaded before after
  loaded_cut cut front = record {
    page = page;
    page_is = refl;
    script = [];
    script_is = refl;
    cut = either_with shown_run (output before) (output after) refl refl cut;
    front = front;
    taken = λ name e. cc;
  }

  -- the sink failed at an event before the end
  pub loads_cut : (stop : Stop) → stop ≡ stops.WriteFault
      → AreCutOff (edited_events options (closed_items page) (sequel_of plan)) (output before) (output after)
      → RunsCourse loaded before after (status_at_end (Err stop))
  loads_cut stop is off =
      let own = subst (λ (s : Sequel). AreCutOff (edited_events options (closed_items page) s) (output before)
      (output after)) no_lines off in
      subst (λ (s : Stop). RunsCourse loaded before after (status_at_end (Err s))) (sym is)
      (runs_loaded statuses.WriteFault (
        off.cause,
        inl (loaded_cut (inl (AreCutOff-longer (edited options NoScript page [])
            (the_end options NoScript page [] after.glass.grid ∷ []) shown_run (output before) (output after) refl own))
            (λ blank. cut_front meant_run (output before) (output after)
            (AreCutOff-longer (edited options NoScript page [])
            (the_end options NoScript page [] (grid (all options NoScript page [])) ∷ []) meant_run (output before)
            (output after) refl own))),
      ) (λ other. absurd (other refl)) (λ idle. cut_untouched (edited_events options (closed_items page) (sequel_of plan)) (output before) (output after)
      (subst AreStill (sym edited_is) (still_idle options (closed_items page) idle)) off)
      (inl (put_cut (edited_events options (closed_items page) (sequel_of plan)) (output before) (output after) off))
      off.later)

  -- at an item
  pub loads_cut_at : (stop : Stop) → stop ≡ stops.WriteFault
      → AreCutOff (item_events options (closed_items page)) (output before) (output after)
      → RunsCourse loaded before after (status_at_end (Err stop))
  loads_cut_at stop is off = loads_cut stop is
      (subst (λ (es : List Event). AreCutOff es (output before) (output after)) (sym edited_is) off)

  -- it was read to its end
  module _ (sink : SinkState)
      (made_all : AreMade (edited_events options (closed_items page) (sequel_of plan)) (output before)
      (output_of sink after.glass)) (stays : sink.faults ≡ before.sink.faults)
      (restores : Restores (page_text (core (remaining_at_end plan (closed_items page))))
      (remaining_at_end plan (closed_items page))) where
    all_is : remaining_at_end plan (closed_items page) ≡ all options NoScript page []
    all_is = ap (remaining_after (history options (closed_items page))) no_lines

    made : AreMade (edited options NoScript page []) (output before) (output_of sink after.glass)
    made = subst (λ (s : Sequel). AreMade (edited_events options (closed_items page) s) (output before)
        (output_of sink after.glass)) no_lines made_all

    idle_run : is_painted options.way ≡ false → after.glass ≡ before.glass
    idle_run idle = made_all.painted.untouched
        (subst AreStill (sym edited_is) (still_idle options (closed_items page) idle))

    loaded_whole : (refused : Bool) → refused ≡ nat_lt 0 (refused_count (closed_items page))
        → PutsWhole (end_text options after.glass.grid page (all options NoScript page [])) sink after.sink
        → EndsWhole loaded before after refused
    loaded_whole refused is puts = record {
      page = page;
      page_is = refl;
      script = [];
      script_is = refl;
      reports = whole_report options NoScript page [] before after sink made stays (Given page)
          (subst (λ (h : List Command). Restores (page_text (core h)) h) all_is restores) puts;
      refusals = is;
      readable = refl;
      can_end = refl;
      page_not_too_long = short;
      taken = λ name e. cc;
    }

    by_end : (result : Result Bool Stop)
        → PutsEnd (end_text options after.glass.grid page (all options NoScript page [])) (nat_lt 0 (refused_count (closed_items page))) sink
        result after.sink → RunsCourse loaded before after (status_at_end result)
    by_end (Ok false) puts = runs_loaded statuses.Done (loaded_whole false puts.1 puts.0) (λ other. puts.0.stays ∙ stays)
        idle_run (inr (refl, puts.0.room ∙ made.put.room))
        (omega (arith, puts.0.stays, stays))
    by_end (Ok true) puts = runs_loaded statuses.Refusals (loaded_whole true puts.1 puts.0) (λ other. puts.0.stays ∙ stays)
        idle_run (inr (refl, puts.0.room ∙ made.put.room))
        (omega (arith, puts.0.stays, stays))
    by_end (Err stop) puts =
        subst (λ (s : Stop). RunsCourse loaded before after (status_at_end (Err s))) (sym puts.1)
        (runs_loaded statuses.WriteFault (
          subst (λ n. Rose n after.sink.faults) stays puts.0.cause,
          inl (loaded_cut (cut_at_end options NoScript page [] before after sink made stays puts.0)
              (front_at_end options NoScript page [] before after sink made stays puts.0)),
        ) (λ other. absurd (other refl)) idle_run (inl (put_to_end options NoScript page [] before after sink made stays puts.0))
        (omega (arith, puts.0.later, stays)))

    pub loads_read : (result : Result Bool Stop)
        → PutsEnd (end_text options after.glass.grid page (remaining_at_end plan (closed_items page)))
        (nat_lt 0 (refused_count (closed_items page))) sink result after.sink → RunsCourse loaded before after (status_at_end result)
    loads_read result puts = by_end result
        (subst (λ (h : List Command). PutsEnd (end_text options after.glass.grid page h)
        (nat_lt 0 (refused_count (closed_items page))) sink result after.sink) all_is puts)
