-- How a run ends that puts the bytes of a page in another form.
use Rattle.std.proofs.Common.{◌≡◌, ◌≢◌, ◌⊎◌, inl, inr, ℕ, ◌^◌, ◌≤◌, Bool, true, false, List, [], ◌∷◌, ◌++◌, take, drop}
use Rattle.std.proofs.Common.{Option, Some, None, Result, Ok, Err, refl, sym, ◌∙◌, ap, subst, arith, min, length}
use Rattle.std.proofs.Common.{take-take, take-append-drop, length-append}
use Rattle.std.proofs.lemmas.List.{take-append-le}
use Rattle.std.proofs.lemmas.Option.{none-some, same_Some}
use Rattle.cept_editor.specs.Events.{Event, still_event, paints}
use Rattle.cept_editor.specs.Made.{ArePainted, AreMade, AreCutOff}
use Rattle.cept_editor.proofs.Laws.{report-one, ArePainted-still, AreMade-none, AreMade-end, AreCutOff-end}
use Rattle.cept_outside.specs.Causes.{Rose, HasCause}
use Rattle.cept_outside.specs.ShelfState.{ShelfState, Selects, IsSound}
use Rattle.cept_outside.specs.SinkState.{SinkState, Gains, GainsPart}
use Rattle.cept_outside.proofs.Laws.{Gains-nil}
use Rattle.cept_profile.specs.Changes.{grid_with_paints}
use Rattle.cept_repaint.specs.GlassState.{GlassState}
use Rattle.cept_seven.specs.Seven.{texts}
use Rattle.cept_seven.specs.Eight.{accepted_after, eight_after}
use Rattle.cept_seven.proofs.Laws.{seven_begins, eight_begins, front_accepted}
use Rattle.cept_run.specs.declared.page.Stop.{Stop}
use Rattle.cept_run.specs.declared.page.Stop.TheVariants as stops
use Rattle.cept_run.specs.declared.run.Status.{Status}
use Rattle.cept_run.specs.declared.run.Status.TheVariants as statuses
use Rattle.cept_run.specs.declared.words.BytesAction.{BytesAction}
use Rattle.cept_run.specs.declared.words.BytesAction.TheVariants as actions
use Rattle.cept_run.specs.Course.{Course, File, Gives, SelectsNoOther, course_of}
use Rattle.cept_run.specs.Outside.{Outside, outside_of, output, AreAllTaken, PutsWhole, PutsUnflushed}
use Rattle.cept_run.specs.Page.{KeepsShelf}
use Rattle.cept_run.specs.Words.{Bytes}
use Rattle.cept_run.specs.Run.{EndsWhole, IsReportCut, IsUnreadable, Ends, ReportsFirst, ReportsFront, RunsCourse}
use Rattle.cept_run.specs.Run.{status_at_end}
use Rattle.cept_run.specs.Converted.{converted, converted_front, readable_front, can_end_there}
use Rattle.cept_run.specs.Taking.{AreLeft}
use Rattle.cept_run.specs.inside.Converting.{PutsConverted, ConvertsWhole, ConvertsPart, ConvertsCut, ConvertsNot, PageConverted}
use Rattle.cept_run.proofs.PagesInPieces.{KeepsFiles-more, nil_from_length}
use Rattle.cept_run.proofs.PaintedItems.{chained-one, each_shown}
use Rattle.cept_run.proofs.FrontsPut.{cut_front, either_front, either_with}
use Rattle.cept_run.proofs.ReportedFronts.{same_sink}
use Rattle.cept_run.proofs.Selections.{selected_is, given_left, put_either, EndsPut, put_unless, room_kept}
use Rattle.cept_run.proofs.StoppedScripts.{named_so_long, name_in}

-- ---- what is converted

read_none : (action : BytesAction) → readable_front action [] ≡ []
unfolding accepted_after
read_none actions.Seven = refl
read_none actions.Eight = refl

converted_none : (action : BytesAction) → converted_front action [] ≡ []
unfolding texts accepted_after eight_after
converted_none actions.Seven = refl
converted_none actions.Eight = refl

-- what is put of a page begins with what is put of its front
converted_begins : (action : BytesAction) (front rest : List ℕ)
    → (others : List ℕ) × (converted action (front ++ rest) ≡ converted_front action front ++ others)
converted_begins actions.Seven front rest = seven_begins front rest
converted_begins actions.Eight front rest = eight_begins front rest

-- the front of what can be read can be read
front_read : (action : BytesAction) (k : ℕ) (page : List ℕ) → readable_front action page ≡ page
    → readable_front action (take k page) ≡ take k page
front_read actions.Seven k page e = refl
front_read actions.Eight k page e =
    front_accepted (take k page) (drop k page)
    (subst (λ (p : List ℕ). readable_front actions.Eight p ≡ p) (sym (take-append-drop k page)) e)

-- a part of a text is a part of a longer one
part_longer : (text others whole : List ℕ) (before after : SinkState) → whole ≡ text ++ others
    → GainsPart before text after → GainsPart before whole after
part_longer text others whole before after is part = record {
  size = part.size;
  short = omega (arith, part.short, ap length is, length-append text others);
  gains = subst (λ (t : List ℕ). Gains before t after)
      (sym (ap (take part.size) is ∙ take-append-le part.size text others (omega (arith, part.short)))) part.gains;
}

-- ---- one text that is put

module _ (before after : Outside) (text : List ℕ) (same : after.glass ≡ before.glass) where
  abbrev event : Event
  event = still_event [] text

  text_made : Gains before.sink text after.sink → AreMade (event ∷ []) (output before) (output after)
  text_made all = AreMade-end [] event (output before) (output before) (output after) (AreMade-none (output before))
      refl all same

  text_cut : GainsPart before.sink text after.sink → Rose before.sink.faults after.sink.faults
      → before.sink.faults ≤ after.sink.faults → AreCutOff (event ∷ []) (output before) (output after)
  text_cut part cause later = AreCutOff-end [] event (output before) (output before) (output after)
      (AreMade-none (output before)) refl refl part cause later same

-- ---- the page couldn't be selected

module _ (action : BytesAction) (name : List ℕ) (before : Outside) where
  abbrev course : Course
  course = course_of (Bytes action name)

  reports_front : (after : Outside) (front : List ℕ) → after.glass ≡ before.glass
      → Gains before.sink (converted_front action front) after.sink → ReportsFront course front before after
  reports_front after front same put = record {
    made = text_made before after (converted_front action front) same put;
    meaning = λ blank. ap (λ (g : GlassState). g.grid) same ∙ blank;
  }

  pub converts_unselected : {X E : Type 0} (shelf : ShelfState) (f : E)
      → Selects {X = X} before.shelf name (Err f) shelf → HasCause {X = X} before.shelf.faults shelf.faults (Err f)
      → RunsCourse course before (outside_of shelf before.sink before.glass) statuses.ReadFault
  converts_unselected shelf f selects cause = record {
    ends = (
      cause.failed,
      selects.ended,
      inl (record {
        first = record {
          name = name;
          named = refl;
          front = [];
          counted = sym selects.taken;
          front_is = λ page given. ap (λ k. take k page) (sym selects.taken);
          reports = reports_front (outside_of shelf before.sink before.glass) [] refl
              (subst (λ (t : List ℕ). Gains before.sink t before.sink) (sym (converted_none action)) (Gains-nil before.sink));
          selected = λ chosen is. inl (selects.failed.chosen chosen is);
        };
        readable = read_none action;
        few = omega (arith, selects.taken);
        early = λ none. (refl, refl);
      }),
    );
    shelf = record {
      missed = λ there scripts. selects.missed_stays there;
      selects = λ touched. inl (λ chosen is. inl (selects.failed.chosen chosen is));
      files = selects.keeps;
      faults = cause.later;
    };
    shelf_stays = λ other. absurd (other refl);
    sink_stays = λ other. refl;
    script_first = tt;
    unpainted = λ idle. refl;
    unflushed = λ done refusals other. ([], Gains-nil before.sink);
    room = refl;
    sink_faults = omega arith;
  }

  -- ---- the page was selected

  module _ {X E : Type 0} (mid : ShelfState) (after : Outside) (x : X) (sound : IsSound before.shelf)
      (sound_after : IsSound after.shelf) (selects : Selects {X = X} {E = E} before.shelf name (Ok x) mid)
      (selected : mid.faults ≡ before.shelf.faults) (keeps : KeepsShelf mid after.shelf)
      (same : after.glass ≡ before.glass) where
    left_of_given : (page : List ℕ) → Gives before.shelf name page → mid.left ≡ Some page
    left_of_given page given = given_left before.shelf mid name page x selects given

    page_or_none : (chosen : Option (List ℕ)) → after.shelf.selected ≡ Some chosen
        → (chosen ≡ None) ⊎ (chosen ≡ Some name)
    page_or_none chosen is = selected_is before.shelf mid name x sound selects chosen (sym keeps.selected ∙ is)

    selects_page : (other : List ℕ) → course.page ≡ File other → SelectsNoOther other after.shelf
    selects_page other named = subst (λ n. SelectsNoOther n after.shelf) (name_in name other named) page_or_none

    runs_course : (status : Status) → Ends course before after status
        → (status ≢ statuses.ReadFault → after.shelf.faults ≡ mid.faults)
        → (status ≢ statuses.WriteFault → after.sink.faults ≡ before.sink.faults)
        → EndsPut status before.sink after.sink → before.sink.faults ≤ after.sink.faults
        → RunsCourse course before after status
    runs_course status ends shelf_stays sink_stays puts later = record {
      ends = ends;
      shelf_stays = λ other. shelf_stays other ∙ selected;
      sink_stays = sink_stays;
      shelf = record {
        missed = λ there scripts. keeps.missed ∙ selects.missed_stays there;
        selects = λ touched. inl page_or_none;
        files = KeepsFiles-more before.shelf mid after.shelf selects.keeps keeps.files;
        faults = omega (arith, selected, keeps.faults);
      };
      script_first = tt;
      unpainted = λ idle. same;
      unflushed = put_unless status before.sink after.sink puts;
      room = room_kept status before.sink after.sink puts;
      sink_faults = later;
    }

    -- what is put of a front was put, and no fault of the sink was counted
    runs_put : (status : Status) (front : List ℕ) → PutsConverted action front before.sink after.sink
        → (status ≢ statuses.ReadFault → after.shelf.faults ≡ mid.faults) → Ends course before after status
        → RunsCourse course before after status
    runs_put status front puts shelf_stays ends = runs_course status ends shelf_stays (λ other. puts.stays)
        (inl (record { part = converted_front action front; gains = puts.put })) (omega (arith, puts.stays))

    -- so are the first bytes of the page
    abbrev first_reported : (size : ℕ) (front : List ℕ) → length front ≡ size
        → ((page : List ℕ) → AreLeft mid page → front ≡ take size page) → PutsConverted action front before.sink after.sink
        → ReportsFirst course size before after
    first_reported size front counted known puts = record {
      name = name;
      named = refl;
      front = front;
      counted = counted;
      front_is = λ page given. known page (left_of_given page given);
      reports = reports_front after front same puts.put;
      selected = page_or_none;
    }

    whole : ConvertsWhole action mid before.sink after.shelf after.sink → EndsWhole course before after false
    whole ends = record {
      page = ends.bytes;
      page_is = λ given gives. ends.takes.known given (left_of_given given gives);
      script = [];
      script_is = refl;
      reports = record {
        put = subst (λ (t : List ℕ). PutsWhole t before.sink after.sink) (sym (report-one event_of)) ends.put;
        painted = subst (λ (g : GlassState). ArePainted (event_of ∷ []) before.glass g) (sym same)
            (ArePainted-still event_of before.glass refl);
        each = λ blank done e rest split. ap (λ g. grid_with_paints g (paints (done ++ e ∷ []))) blank
            ∙ each_shown [] [] (event_of ∷ []) done e rest (chained-one event_of) split;
        meaning = λ blank. ap (λ (g : GlassState). g.grid) same ∙ blank;
        written = λ e. cc;
      };
      refusals = refl;
      readable = ends.read;
      can_end = ends.can_end;
      page_not_too_long = ends.takes.few;
      taken = λ other named. (ends.takes.taken, selects_page other named);
    }
      where
        event_of : Event
        event_of = still_event [] (converted action ends.bytes)

    -- the sink failed: of the page that is told, or of the bytes that were taken
    cut_of : (page front rest : List ℕ) → front ++ rest ≡ page → ConvertsPart action front before.sink after.sink
        → AreCutOff (still_event [] (converted action page) ∷ []) (output before) (output after)
    cut_of page front rest is ends =
        let more = converted_begins action front rest in
        text_cut before after (converted action page) same
        (part_longer (converted_front action front) more.0 (converted action page) before.sink after.sink
        (ap (converted action) (sym is) ∙ more.1) ends.put) ends.cause ends.later

    cut_by : (left : Option (List ℕ)) → mid.left ≡ left → (ends : ConvertsCut action mid before.sink after.shelf after.sink)
        → IsReportCut course before after
    cut_by (Some page) is ends =
        let known = ends.takes.known page is in
        let size = min after.shelf.taken (2 ^ 24) in
        let front : take size ends.bytes ≡ take size page =
        ap (take size) known.1 ∙ take-take size after.shelf.taken page (omega arith) in
        let cut = subst (λ (b : List ℕ). ConvertsPart action b before.sink after.sink) front ends.cut in
        record {
          page = page;
          page_is = λ given gives. same_Some page given (sym is ∙ left_of_given given gives);
          script = [];
          script_is = refl;
          cut = inl (cut_of page (take size page) (drop size page) (take-append-drop size page) cut);
          front = λ blank. cut_front (still_event [] (converted action page) ∷ []) (output before) (output after)
              (cut_of page (take size page) (drop size page) (take-append-drop size page) cut);
          taken = λ other named. (
            selects_page other named,
            inr (record {
              within = known.0;
              cut = text_cut before after (converted_front action (take size page)) same cut.put cut.cause cut.later;
              unended = ends.takes.unended;
            }),
          );
        }
    cut_by None is ends =
        let size = min after.shelf.taken (2 ^ 24) in
        record {
          page = ends.bytes;
          page_is = λ given gives. absurd (none-some given (sym is ∙ left_of_given given gives));
          script = [];
          script_is = refl;
          cut = inl (cut_of ends.bytes (take size ends.bytes) (drop size ends.bytes)
              (take-append-drop size ends.bytes) ends.cut);
          front = λ blank. cut_front (still_event [] (converted action ends.bytes) ∷ []) (output before) (output after)
              (cut_of ends.bytes (take size ends.bytes) (drop size ends.bytes) (take-append-drop size ends.bytes) ends.cut);
          taken = λ other named. (
            selects_page other named,
            inr (record {
              within = omega (arith, ends.takes.taken);
              cut = text_cut before after (converted_front action (take size ends.bytes)) same ends.cut.put ends.cut.cause
                  ends.cut.later;
              unended = ends.takes.unended;
            }),
          );
        }

    by_put : (page : List ℕ) → PutsUnflushed (converted action page) before.sink after.sink
        → AreCutOff (still_event [] (converted action page) ∷ []) (output before) (output after)
        ⊎ (AreMade (still_event [] (converted action page) ∷ []) (output before) (output after)
        × (before.sink.always_flushes ≡ false))
    by_put page puts =
        elim puts.put [
          | inl part ↦ inl (text_cut before after (converted action page) same part puts.cause puts.later)
          | inr all ↦ inr (text_made before after (converted action page) same all.0, all.1)
        ]

    unreadable_by : (ends : ConvertsNot action mid before.sink after.shelf after.sink) (page : List ℕ)
        → AreLeft mid page → IsUnreadable course page
    unreadable_by ends page is =
        elim ends.cause [
          | inl unread ↦ inl (λ e. unread (ap (readable_front action) (ends.known page is)
              ∙ front_read action (min after.shelf.taken (2 ^ 24)) page e ∙ sym (ends.known page is)))
          | inr unclosed ↦ inr (ap (can_end_there action) (sym (unclosed.0.known page is)) ∙ unclosed.2)
        ]

    cause_by : (ends : ConvertsNot action mid before.sink after.shelf after.sink)
        → (readable_front action ends.bytes ≢ ends.bytes)
        ⊎ (AreAllTaken ends.bytes after.shelf × (can_end_there action ends.bytes ≡ false))
    cause_by ends =
        elim ends.cause [
          | inl unread ↦ inl unread
          | inr unclosed ↦ inr (unclosed.0.taken, unclosed.2)
        ]

    nothing_put : (bytes : List ℕ) → bytes ≡ [] → Gains before.sink (converted_front action bytes) after.sink
        → after.sink.faults ≡ before.sink.faults → after.sink ≡ before.sink
    nothing_put bytes none put stays =
        same_sink before.sink after.sink
        (subst (λ (t : List ℕ). Gains before.sink t after.sink) (ap (converted_front action) none ∙ converted_none action) put)
        stays

    pub runs_converted : (result : Result Bool Stop) → PageConverted action mid before.sink result after.shelf after.sink
        → RunsCourse course before after (status_at_end result)
    runs_converted (Ok false) ends = runs_course statuses.Done (whole ends.0) (λ other. ends.0.takes.stays)
        (λ other. ends.0.put.stays) (inr (refl, ends.0.put.room)) (omega (arith, ends.0.put.stays))
    runs_converted (Ok true) ends =
        let no = ends.1 in
        cc
    runs_converted (Err stops.ReadFault) ends =
        runs_put statuses.ReadFault ends.bytes ends.puts (λ other. absurd (other refl)) (
          subst (λ n. Rose n after.shelf.faults) selected ends.takes.cause,
          ends.takes.unended,
          inl (record {
            first = first_reported after.shelf.taken ends.bytes (sym ends.taken) ends.known ends.puts;
            readable = ends.read;
            few = ends.takes.few;
            early = λ none. (
              nothing_put ends.bytes (nil_from_length ends.bytes (sym ends.taken ∙ (sound_after.nothing none).1))
                  ends.puts.put ends.puts.stays,
              same,
            );
          }),
        )
    runs_converted (Err stops.WriteFault) (inl ends) =
        runs_course statuses.WriteFault (ends.cut.cause, inl (cut_by mid.left refl ends))
        (λ other. ends.takes.stays) (λ other. absurd (other refl))
        (inl (record { part = take ends.cut.put.size _; gains = ends.cut.put.gains })) ends.cut.later
    runs_converted (Err stops.WriteFault) (inr ends) =
        runs_course statuses.WriteFault (
          ends.cut.cause,
          inl (record {
            page = ends.bytes;
            page_is = λ given gives. ends.takes.known given (left_of_given given gives);
            script = [];
            script_is = refl;
            cut = either_with (still_event [] (converted action ends.bytes) ∷ []) (output before) (output after)
                ends.read ends.can_end (by_put ends.bytes ends.cut);
            front = λ blank. either_front (still_event [] (converted action ends.bytes) ∷ []) (output before) (output after)
                (by_put ends.bytes ends.cut);
            taken = λ other named. (selects_page other named, inl (ends.takes.taken, ends.takes.few));
          }),
        ) (λ other. ends.takes.stays) (λ other. absurd (other refl))
        (inl (put_either (converted action ends.bytes) before.sink after.sink ends.cut.put)) ends.cut.later
    runs_converted (Err stops.TooLong) ends =
        runs_put statuses.TooLong ends.bytes ends.puts (λ other. ends.takes.stays) (inl (record {
          too_long = ends.takes.cause;
          selected = named_so_long after.shelf sound_after (omega (arith, ends.takes.cause));
          longer = λ page given. ends.takes.longer page (left_of_given page given);
          first = first_reported (2 ^ 24) ends.bytes ends.count ends.known ends.puts;
          readable = ends.read;
        }))
    runs_converted (Err stops.NotSeven) ends =
        runs_put statuses.NotSeven ends.bytes ends.puts (λ other. ends.stays) (record {
          first = first_reported (min after.shelf.taken (2 ^ 24)) ends.bytes ends.count ends.known ends.puts;
          cause = cause_by ends;
          unreadable = λ page given. unreadable_by ends page (left_of_given page given);
        })
    runs_converted (Err stops.Script) ends = elim ends [ ]
    runs_converted (Err stops.NoMemory) ends = elim ends [ ]
