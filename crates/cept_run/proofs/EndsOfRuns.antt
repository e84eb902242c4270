-- How a run ends by its page.
use Rattle.std.proofs.Common.{◌≡◌, ◌≢◌, ◌⊎◌, inl, inr, ℕ, ◌^◌, ◌<◌, ◌≤◌, Bool, true, false, cond, List, [], ◌∷◌, ◌++◌, take}
use Rattle.std.proofs.Common.{Option, Some, None, IsSome, Result, Ok, Err, refl, sym, ◌∙◌, ap, subst, arith}
use Rattle.std.proofs.Common.{append_assoc, append-nil, min, nat_lt, take-take, length}
use Rattle.std.proofs.lemmas.Option.{none-some, same_Some}
use Rattle.cept_codes.specs.declared.command.Command.{Command}
use Rattle.cept_codes.specs.declared.item.Item.{Item}
use Rattle.cept_editor.specs.Events.{Event, report}
use Rattle.cept_editor.specs.Made.{AreStill, output_of, AreMade, AreCutOff}
use Rattle.cept_editor.proofs.Laws.{AreCutOff-longer, cut_untouched}
use Rattle.cept_outside.specs.Causes.{Rose, HasCause}
use Rattle.cept_outside.specs.ShelfState.{ShelfState, Selects, IsSound}
use Rattle.cept_outside.specs.SinkState.{SinkState}
use Rattle.cept_outside.proofs.Laws.{Gains-nil}
use Rattle.cept_parser.specs.Items.{items, closed_items}
use Rattle.cept_codes.specs.declared.look.Look.{Look}
use Rattle.cept_profile.specs.Look.{grid}
use Rattle.cept_profile.specs.State.{core}
use Rattle.cept_writer.specs.CompactCommands.{page_text}
use Rattle.cept_run.specs.declared.page.Stop.{Stop}
use Rattle.cept_run.specs.declared.page.Stop.TheVariants as stops
use Rattle.cept_run.specs.declared.run.Status.{Status}
use Rattle.cept_run.specs.declared.run.Status.TheVariants as statuses
use Rattle.cept_run.specs.declared.words.ReportOptions.{ReportOptions}
use Rattle.cept_run.specs.Course.{Course, Source, File, Gives, HasBytes, SelectsNoOther, first_fault_in, sequel_in, report_course}
use Rattle.cept_run.specs.Course.{ScriptSource, NoScript, ScriptFile, IsReadFirst}
use Rattle.cept_run.specs.Events.{history, item_events, sequel_events, Sequel, NoSequel}
use Rattle.cept_run.specs.Events.{remaining_after, refused_count}
use Rattle.cept_run.specs.Outside.{Outside, outside_of, output, PutsWhole, PutsFront}
use Rattle.cept_run.specs.Page.{PageUnput, PageStops, PutsEnd, KeepsShelf}
use Rattle.cept_run.specs.Reporting.{Plan, sequel_of, edited_events, remaining_at_end}
use Rattle.cept_run.specs.Run.{Restores, EndsWhole, IsReportCut, Ends, ReportsFirst, IsScriptFirst}
use Rattle.cept_run.specs.Run.{RunsCourse, status_of, status_at_end}
use Rattle.cept_run.specs.Taking.{AreLeft, TakesWhole}
use Rattle.cept_run.specs.Events.{end_text}
use Rattle.cept_run.specs.inside.ScriptReading.{ScriptKnown}
use Rattle.cept_run.specs.Words.{is_painted}
use Rattle.cept_run.proofs.EditedLines.{edited_events-none}
use Rattle.cept_run.proofs.EventsOfItems.{item_events-append, events_after}
use Rattle.cept_run.proofs.PagesInPieces.{KeepsFiles-more, nil_from_length}
use Rattle.cept_run.proofs.PaintedItems.{still_idle}
use Rattle.cept_run.proofs.ReportedFronts.{reports_front, reports_nothing, made_nothing}
use Rattle.cept_run.proofs.ReportedRuns.{put_made, put_cut, all, edited, the_end, the_run, whole_report}
use Rattle.cept_run.proofs.FrontsPut.{cut_front, either_with}
use Rattle.cept_run.proofs.ReportedRuns.{cut_at_end, put_to_end, front_at_end}
use Rattle.cept_run.proofs.Selections.{selected_is, given_left, under_same}
use Rattle.cept_run.proofs.Selections.{gives_still, EndsPut, put_unless, room_kept}
use Rattle.cept_run.proofs.StoppedScripts.{named_so_long, name_in}

-- ---- the script was read

-- a script that was read is short, and no line of it is outside the grammar
first_by : (page : Source) (script : ScriptSource) (told : List ℕ) (before after : Outside) (status : Status)
    → IsReadFirst before.shelf script told → IsScriptFirst script page before after status
first_by page NoScript told before after status is = tt
first_by page (ScriptFile grammar name) told before after status is = record {
  stops = λ bytes holds why. absurd (by_stop bytes (is.0 bytes (inl holds)) why);
  bad = λ bytes fault given found.
      absurd (none-some fault (sym is.1 ∙ ap (first_fault_in grammar) (is.0 bytes given) ∙ found));
}
  where
    by_stop : (bytes : List ℕ) → told ≡ bytes → (2 ^ 20 < length bytes) ⊎ IsSome (first_fault_in grammar bytes) → ⊥
    by_stop bytes same (inl long) = absurd (omega (arith, long, is.2, ap length same))
    by_stop bytes same (inr some) =
        let no : false ≡ true = subst IsSome (ap (first_fault_in grammar) (sym same) ∙ is.1) some in
        cc

module _ (plan : Plan) (name : List ℕ) (script : ScriptSource) (told : List ℕ) (before : Outside) (ready : ShelfState)
    (known : ScriptKnown script told before.shelf ready) where
  abbrev options : ReportOptions
  options = plan.options

  abbrev course : Course
  course = report_course options (File name) script

  -- ---- the page couldn't be selected

  pub ends_unselected : {X E : Type 0} (shelf : ShelfState) (f : E)
      → Selects {X = X} ready name (Err f) shelf → HasCause {X = X} ready.faults shelf.faults (Err f)
      → RunsCourse course before (outside_of shelf before.sink before.glass) statuses.ReadFault
  ends_unselected shelf f selects cause = record {
    ends = (
      subst (λ n. Rose n shelf.faults) known.stays cause.failed,
      selects.ended,
      inl (record {
        first = record {
          name = name;
          named = refl;
          front = [];
          counted = sym selects.taken;
          front_is = λ page given. ap (λ k. take k page) (sym selects.taken);
          reports = reports_nothing options (File name) script before (outside_of shelf before.sink before.glass) refl;
          selected = λ chosen is. inl (selects.failed.chosen chosen is);
        };
        readable = refl;
        few = omega (arith, selects.taken);
        early = λ none. (refl, refl);
      }),
    );
    shelf = record {
      missed = λ there scripts. selects.missed_stays (subst IsSome (sym (under_same before.shelf ready name
          known.files)) there) ∙ known.missed scripts;
      selects = λ touched. inl (λ chosen is. inl (selects.failed.chosen chosen is));
      files = KeepsFiles-more before.shelf ready shelf known.files selects.keeps;
      faults = omega (arith, known.stays, cause.later);
    };
    shelf_stays = λ other. absurd (other refl);
    sink_stays = λ other. refl;
    script_first = first_by (File name) script told before (outside_of shelf before.sink before.glass) statuses.ReadFault
        known.is;
    unpainted = λ idle. refl;
    unflushed = λ done refusals other. ([], Gains-nil before.sink);
    room = refl;
    sink_faults = omega arith;
  }

  -- ---- the page was selected

  module _ {X E : Type 0} (mid : ShelfState) (after : Outside) (x : X) (sound : IsSound ready)
      (selects : Selects {X = X} {E = E} ready name (Ok x) mid) (selected : mid.faults ≡ ready.faults)
      (keeps : KeepsShelf mid after.shelf) where
    same_faults : mid.faults ≡ before.shelf.faults
    same_faults = selected ∙ known.stays

    left_of_given : (page : List ℕ) → Gives before.shelf name page → mid.left ≡ Some page
    left_of_given page given = given_left ready mid name page x selects
        (gives_still before.shelf ready name page known.files given)

    page_or_none : (chosen : Option (List ℕ)) → after.shelf.selected ≡ Some chosen
        → (chosen ≡ None) ⊎ (chosen ≡ Some name)
    page_or_none chosen is = selected_is ready mid name x sound selects chosen (sym keeps.selected ∙ is)

    selects_page : (other : List ℕ) → course.page ≡ File other → SelectsNoOther other after.shelf
    selects_page other named = subst (λ n. SelectsNoOther n after.shelf) (name_in name other named) page_or_none

    runs_course : (status : Status) → Ends course before after status
        → (status ≢ statuses.ReadFault → after.shelf.faults ≡ mid.faults)
        → (status ≢ statuses.WriteFault → after.sink.faults ≡ before.sink.faults)
        → (is_painted options.way ≡ false → after.glass ≡ before.glass)
        → EndsPut status before.sink after.sink → before.sink.faults ≤ after.sink.faults
        → RunsCourse course before after status
    runs_course status ends shelf_stays sink_stays idle puts later = record {
      ends = ends;
      shelf_stays = λ other. shelf_stays other ∙ same_faults;
      sink_stays = sink_stays;
      shelf = record {
        missed = λ there scripts. keeps.missed ∙ selects.missed_stays (subst IsSome (sym (under_same before.shelf ready
            name known.files)) there) ∙ known.missed scripts;
        selects = λ touched. inl page_or_none;
        files = KeepsFiles-more before.shelf ready after.shelf known.files
            (KeepsFiles-more ready mid after.shelf selects.keeps keeps.files);
        faults = omega (arith, same_faults, keeps.faults);
      };
      script_first = first_by (File name) script told before after status known.is;
      unpainted = idle;
      unflushed = put_unless status before.sink after.sink puts;
      room = room_kept status before.sink after.sink puts;
      sink_faults = later;
    }

    -- the front of the page was reported, and no fault of the sink was counted
    runs_made : (status : Status) (bytes : List ℕ) → AreMade (item_events options (items bytes)) (output before)
        (output after) → after.sink.faults ≡ before.sink.faults
        → (status ≢ statuses.ReadFault → after.shelf.faults ≡ mid.faults) → Ends course before after status
        → RunsCourse course before after status
    runs_made status bytes made stays shelf_stays ends = runs_course status ends shelf_stays (λ other. stays)
        (λ idle. made.painted.untouched (still_idle options (items bytes) idle))
        (inl (put_made (item_events options (items bytes)) (output before) (output after) made))
        (omega (arith, stays))

    -- the first bytes of the page are reported
    abbrev first_reported : (size : ℕ) (front : List ℕ) → length front ≡ size
        → ((page : List ℕ) → AreLeft mid page → front ≡ take size page)
        → AreMade (item_events options (items front)) (output before) (output after)
        → ReportsFirst course size before after
    first_reported size front counted are made = record {
      name = name;
      named = refl;
      front = front;
      counted = counted;
      front_is = λ page given. are page (left_of_given page given);
      reports = reports_front options (File name) script front before after made;
      selected = page_or_none;
    }

    -- the events of some items are cut off of those of the whole run, whatever the glass shows at its end
    cut_in_run : (shown : List (List Look)) (page : List ℕ) (front others : List Item)
        → closed_items page ≡ front ++ others → AreCutOff (item_events options front) (output before) (output after)
        → AreCutOff (the_run options script page told shown) (output before) (output after)
    cut_in_run shown page front others is off =
        let end = the_end options script page told shown ∷ [] in
        let script_part = sequel_events options.edits_listed (history options (closed_items page)) (sequel_in script told) in
        AreCutOff-longer (item_events options front) (events_after options front others ++ (script_part ++ end))
        (the_run options script page told shown) (output before) (output after)
        (append_assoc (item_events options (closed_items page)) script_part end
        ∙ ap (λ (l : List Item). item_events options l ++ (script_part ++ end)) is
        ∙ ap (λ (es : List Event). es ++ (script_part ++ end)) (item_events-append options front others)
        ∙ append_assoc (item_events options front) (events_after options front others) (script_part ++ end)) off

    -- the events of the run where the glass shows what remains
    abbrev meant_run : List ℕ → List Event
    meant_run page = the_run options script page told (grid (all options script page told))

    -- so a front of the report was put
    front_in_run : (page : List ℕ) (front others : List Item) → closed_items page ≡ front ++ others
        → AreCutOff (item_events options front) (output before) (output after)
        → PutsFront (report (meant_run page)) before.sink after.sink
    front_in_run page front others is off = cut_front (meant_run page) (output before) (output after)
        (cut_in_run (grid (all options script page told)) page front others is off)

    -- the sink failed at an item
    runs_cut : (reached : List Item) → AreCutOff (item_events options reached) (output before) (output after)
        → after.shelf.faults ≡ mid.faults → IsReportCut course before after
        → RunsCourse course before after statuses.WriteFault
    runs_cut reached off stays cut = runs_course statuses.WriteFault
        (off.cause, inl cut) (λ other. stays) (λ other. absurd (other refl))
        (λ idle. cut_untouched (item_events options reached) (output before) (output after) (still_idle options reached idle) off)
        (inl (put_cut (item_events options reached) (output before) (output after) off)) off.later

    -- in the midst of the page: of the page that is told, or of the bytes that were taken
    front_cut : (left : Option (List ℕ)) → mid.left ≡ left
        → PageUnput plan (outside_of mid before.sink before.glass) after → IsReportCut course before after
    front_cut (Some page) is ends =
        let known_bytes = ends.takes.known page is in
        let there = ends.there page is in
        let size = min after.shelf.taken (2 ^ 24) in
        record {
          page = page;
          page_is = λ given gives. same_Some page given (sym is ∙ left_of_given given gives);
          script = told;
          script_is = known.is;
          cut = inl (cut_in_run after.glass.grid page ends.front there.0 there.1 ends.cut);
          front = λ blank. front_in_run page ends.front there.0 there.1 ends.cut;
          taken = λ other named. (
            selects_page other named,
            inr (record {
              within = known_bytes.0;
              cut = subst (λ (l : List Item). AreCutOff (item_events options l) (output before) (output after))
                  (ends.front_is ∙ ap (λ b. items (take size b)) known_bytes.1
                  ∙ ap items (take-take size after.shelf.taken page (omega arith))) ends.cut;
              unended = ends.takes.unended;
            }),
          );
        }
    front_cut None is ends = record {
      page = ends.bytes;
      page_is = λ given gives. absurd (none-some given (sym is ∙ left_of_given given gives));
      script = told;
      script_is = known.is;
      cut = inl (cut_in_run after.glass.grid ends.bytes ends.front ends.are.0 ends.are.1 ends.cut);
      front = λ blank. front_in_run ends.bytes ends.front ends.are.0 ends.are.1 ends.cut;
      taken = λ other named. (
        selects_page other named,
        inr (record {
          within = omega (arith, ends.takes.taken);
          cut = subst (λ (l : List Item). AreCutOff (item_events options l) (output before) (output after)) ends.front_is
              ends.cut;
          unended = ends.takes.unended;
        }),
      );
    }

    -- of a page that was read to its end
    whole_cut : (bytes : List ℕ) → TakesWhole (AreLeft mid) (2 ^ 24) bytes mid after.shelf
        → AreCutOff (the_run options script bytes told after.glass.grid) (output before) (output after)
        ⊎ (AreMade (the_run options script bytes told after.glass.grid) (output before) (output after)
        × (before.sink.always_flushes ≡ false))
        → (before.glass.grid ≡ grid [] → PutsFront (report (meant_run bytes)) before.sink after.sink)
        → IsReportCut course before after
    whole_cut bytes takes cut front = record {
      page = bytes;
      page_is = λ given gives. takes.known given (left_of_given given gives);
      script = told;
      script_is = known.is;
      cut = either_with (the_run options script bytes told after.glass.grid) (output before) (output after) refl refl cut;
      front = front;
      taken = λ other named. (selects_page other named, inl (takes.taken, takes.few));
    }

    -- the reading stopped
    pub ends_stopped : (stop : Stop) → IsSound after.shelf
        → PageStops plan (outside_of mid before.sink before.glass) stop after
        → RunsCourse course before after (status_of stop)
    ends_stopped stops.ReadFault sound_after ends = runs_made statuses.ReadFault ends.bytes ends.made ends.stays
        (λ other. absurd (other refl)) (
          subst (λ n. Rose n after.shelf.faults) same_faults ends.takes.cause,
          ends.takes.unended,
          inl (record {
            first = first_reported after.shelf.taken ends.bytes (sym ends.taken) ends.known ends.made;
            readable = refl;
            few = ends.takes.few;
            early = λ none. made_nothing options ends.bytes before after
                (nil_from_length ends.bytes (sym ends.taken ∙ (sound_after.nothing none).1)) ends.made ends.stays;
          }),
        )
    ends_stopped stops.WriteFault sound_after (inl ends) =
        runs_cut ends.front ends.cut ends.takes.stays (front_cut mid.left refl ends)
    ends_stopped stops.WriteFault sound_after (inr ends) = runs_cut (closed_items ends.bytes) ends.cut ends.takes.stays
        (whole_cut ends.bytes ends.takes
        (inl (cut_in_run after.glass.grid ends.bytes (closed_items ends.bytes) []
        (sym (append-nil (closed_items ends.bytes))) ends.cut))
        (λ blank. front_in_run ends.bytes (closed_items ends.bytes) [] (sym (append-nil (closed_items ends.bytes)))
        ends.cut))
    ends_stopped stops.TooLong sound_after ends = runs_made statuses.TooLong ends.bytes ends.made ends.stays
        (λ other. ends.takes.stays) (inl (record {
          too_long = ends.takes.cause;
          selected = named_so_long after.shelf sound_after (omega (arith, ends.takes.cause));
          longer = λ page given. ends.takes.longer page (left_of_given page given);
          first = first_reported (2 ^ 24) ends.bytes ends.count ends.known ends.made;
          readable = refl;
        }))
    ends_stopped stops.Script sound_after ends = elim ends [ ]
    ends_stopped stops.NoMemory sound_after ends = elim ends [ ]
    ends_stopped stops.NotSeven sound_after ends = elim ends [ ]

    -- ---- the page was read to its end

    module _ (bytes : List ℕ) (takes : TakesWhole (AreLeft mid) (2 ^ 24) bytes mid after.shelf)
        (lines_are : sequel_of plan ≡ sequel_in script told) where
      abbrev shown_run : List Event
      shown_run = the_run options script bytes told after.glass.grid

      page_is : HasBytes before.shelf (File name) bytes
      page_is given gives = takes.known given (left_of_given given gives)

      unscripted : is_painted options.way ≡ false → sequel_of plan ≡ NoSequel
      unscripted idle = ap (λ b. cond b (plan.sequel) NoSequel) idle

      -- without painting nothing is changed
      still_edited : is_painted options.way ≡ false → AreStill (edited options script bytes told)
      still_edited idle =
          subst (λ (s : Sequel). AreStill (edited_events options (closed_items bytes) s)) lines_are
          (subst (λ (s : Sequel). AreStill (edited_events options (closed_items bytes) s)) (sym (unscripted idle))
          (subst AreStill (sym (edited_events-none options (closed_items bytes))) (still_idle options (closed_items bytes) idle)))

      -- the sink failed at an edit line
      pub ends_unedited : (stop : Stop) → stop ≡ stops.WriteFault
          → AreCutOff (edited_events options (closed_items bytes) (sequel_of plan)) (output before) (output after)
          → RunsCourse course before after (status_of stop)
      ends_unedited stop is cut =
          let off = subst (λ (s : Sequel). AreCutOff (edited_events options (closed_items bytes) s) (output before)
          (output after)) lines_are cut in
          subst (λ (s : Stop). RunsCourse course before after (status_of s)) (sym is)
          (runs_course statuses.WriteFault (
            off.cause,
            inl (whole_cut bytes takes (inl (AreCutOff-longer (edited options script bytes told)
                (the_end options script bytes told after.glass.grid ∷ []) shown_run (output before) (output after) refl off))
                (λ blank. cut_front (meant_run bytes) (output before) (output after)
                (AreCutOff-longer (edited options script bytes told)
                (the_end options script bytes told (grid (all options script bytes told)) ∷ []) (meant_run bytes)
                (output before) (output after) refl off))),
          ) (λ other. takes.stays) (λ other. absurd (other refl)) (λ idle. cut_untouched (edited options script bytes told) (output before) (output after) (still_edited idle) off)
          (inl (put_cut (edited options script bytes told) (output before) (output after) off)) off.later)

      module _ (sink : SinkState)
          (made_all : AreMade (edited_events options (closed_items bytes) (sequel_of plan)) (output before)
          (output_of sink after.glass)) (sink_stays : sink.faults ≡ before.sink.faults)
          (restores : Restores (page_text (core (remaining_at_end plan (closed_items bytes))))
          (remaining_at_end plan (closed_items bytes))) where
        all_is : remaining_at_end plan (closed_items bytes) ≡ all options script bytes told
        all_is = ap (remaining_after (history options (closed_items bytes))) lines_are

        made : AreMade (edited options script bytes told) (output before) (output_of sink after.glass)
        made = subst (λ (s : Sequel). AreMade (edited_events options (closed_items bytes) s) (output before)
            (output_of sink after.glass)) lines_are made_all

        abbrev end_put : List ℕ
        end_put = end_text options after.glass.grid bytes (all options script bytes told)

        idle_run : is_painted options.way ≡ false → after.glass ≡ before.glass
        idle_run idle = made.painted.untouched (still_edited idle)

        whole_end : (refused : Bool) → refused ≡ nat_lt 0 (refused_count (closed_items bytes)) → PutsWhole end_put sink after.sink
            → EndsWhole course before after refused
        whole_end refused is puts = record {
          page = bytes;
          page_is = page_is;
          script = told;
          script_is = known.is;
          reports = whole_report options script bytes told before after sink made sink_stays (File name)
              (subst (λ (h : List Command). Restores (page_text (core h)) h) all_is restores) puts;
          refusals = is;
          readable = refl;
          can_end = refl;
          page_not_too_long = takes.few;
          taken = λ other named. (takes.taken, selects_page other named);
        }

        by_end : (result : Result Bool Stop) → PutsEnd end_put (nat_lt 0 (refused_count (closed_items bytes))) sink result after.sink
            → RunsCourse course before after (status_at_end result)
        by_end (Ok false) puts = runs_course statuses.Done (whole_end false puts.1 puts.0) (λ other. takes.stays)
            (λ other. puts.0.stays ∙ sink_stays) idle_run (inr (refl, puts.0.room ∙ made.put.room)) (omega (arith, puts.0.stays, sink_stays))
        by_end (Ok true) puts = runs_course statuses.Refusals (whole_end true puts.1 puts.0) (λ other. takes.stays)
            (λ other. puts.0.stays ∙ sink_stays) idle_run (inr (refl, puts.0.room ∙ made.put.room)) (omega (arith, puts.0.stays, sink_stays))
        by_end (Err stop) puts =
            subst (λ (s : Stop). RunsCourse course before after (status_of s)) (sym puts.1)
            (runs_course statuses.WriteFault (
              subst (λ n. Rose n after.sink.faults) sink_stays puts.0.cause,
              inl (whole_cut bytes takes (cut_at_end options script bytes told before after sink made sink_stays puts.0)
                  (front_at_end options script bytes told before after sink made sink_stays puts.0)),
            ) (λ other. takes.stays) (λ other. absurd (other refl)) idle_run
            (inl (put_to_end options script bytes told before after sink made sink_stays puts.0))
            (omega (arith, puts.0.later, sink_stays)))

        pub ends_put : (result : Result Bool Stop)
            → PutsEnd (end_text options after.glass.grid bytes (remaining_at_end plan (closed_items bytes)))
            (nat_lt 0 (refused_count (closed_items bytes))) sink result after.sink → RunsCourse course before after (status_at_end result)
        ends_put result puts = by_end result
            (subst (λ (h : List Command). PutsEnd (end_text options after.glass.grid bytes h)
            (nat_lt 0 (refused_count (closed_items bytes))) sink result after.sink) all_is puts)
