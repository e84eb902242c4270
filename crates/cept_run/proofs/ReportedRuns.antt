-- What was reported of a page that was read to its end, after what was done after it.
use Rattle.std.proofs.Common.{◌≡◌, ◌⊎◌, inl, inr, ℕ, Bool, true, false, not, ◌&&◌, length, List, [], ◌∷◌, ◌++◌, take, refl, sym, ◌∙◌, ap, subst}
use Rattle.std.proofs.Common.{length-append}
use Rattle.std.specs.Io.KnownBytes.{append_known}
use Rattle.cept_codes.specs.declared.command.Command.{Command}
use Rattle.cept_codes.specs.declared.look.Look.{Look}
use Rattle.cept_editor.specs.Events.{Event, still_event, report, paints}
use Rattle.cept_editor.specs.Made.{Output, output_of, AreMade, AreCutOff}
use Rattle.cept_editor.proofs.Laws.{report-append, report-one, AreMade-end, AreCutOff-end, ArePainted-more}
use Rattle.cept_editor.proofs.Laws.{ArePainted-still}
use Rattle.cept_outside.specs.SinkState.{SinkState, HasPut, Gains, GainsPart, count_after, one_more}
use Rattle.cept_outside.proofs.Laws.{HasPut-more, append_known-append_known, count_after-more}
use Rattle.cept_parser.specs.Items.{closed_items}
use Rattle.cept_profile.specs.Changes.{grid_with_paints}
use Rattle.cept_profile.specs.Look.{grid}
use Rattle.cept_profile.specs.State.{core}
use Rattle.cept_writer.specs.CompactCommands.{page_text}
use Rattle.cept_run.specs.declared.words.ReportOptions.{ReportOptions}
use Rattle.cept_run.specs.Events.{Sequel, end_text, painted_end, run_events, remaining_of}
use Rattle.cept_run.specs.Outside.{Outside, output, PutsWhole, PutsUnflushed, PutsFront}
use Rattle.cept_run.specs.Course.{Source, ScriptSource, sequel_in, puts_page, report_course}
use Rattle.cept_run.specs.declared.words.End.{End}
use Rattle.cept_run.specs.declared.words.End.TheVariants as ends
use Rattle.cept_run.specs.Run.{Restores, ReportsWhole}
use Rattle.cept_run.specs.declared.words.Way.{Way}
use Rattle.cept_run.specs.declared.words.Way.TheVariants as ways
use Rattle.cept_run.specs.Reporting.{edited_events}
use Rattle.cept_run.specs.Words.{is_painted}
use Rattle.std.proofs.lemmas.Bool.{and_parts}
use Rattle.cept_run.proofs.EditedLines.{edited_events-chained}
use Rattle.cept_run.proofs.EndTexts.{painted_by}
use Rattle.cept_run.proofs.FrontsPut.{either_front}
use Rattle.cept_run.proofs.PaintedItems.{AreChained, chained-append, chained-one, chained_shown, each_shown}
use Rattle.cept_run.proofs.Selections.{put_either}
use Rattle.cept_run.proofs.SilentEvents.{silent_edits}

-- some bytes were put
pub put_made : (events : List Event) (before after : Output) → AreMade events before after → HasPut before.sink after.sink
put_made events before after made = record { part = report events; gains = made.put }

pub put_cut : (events : List Event) (before after : Output) → AreCutOff events before after → HasPut before.sink after.sink
put_cut events before after off = record { part = report off.done ++ take off.size off.cut.text; gains = off.put }

-- nothing is put but the page
pub record PutsPage (options : ReportOptions) : Type 0 where
  pub way : options.way ≡ ways.Paint
  pub end : options.end ≡ ends.Page
  pub refusals : options.refusals ≡ false
  pub edits_listed : options.edits_listed ≡ false

-- a flag that isn't set
unset : (b : Bool) → not b ≡ true → b ≡ false
unset true e = cc
unset false e = refl

page_alone : (way : Way) (end : End) → puts_page way end ≡ true → (way ≡ ways.Paint) × (end ≡ ends.Page)
page_alone ways.Count end is = cc
page_alone ways.List end is = cc
page_alone ways.Paint ends.Nothing is = cc
page_alone ways.Paint ends.Screen is = cc
page_alone ways.Paint ends.Cells is = cc
page_alone ways.Paint ends.Page is = (refl, refl)
page_alone ways.Paint ends.Counts is = cc
page_alone ways.Paint (ends.Phases turns) is = cc
page_alone ways.PaintAndList end is = cc

puts_page_by : (options : ReportOptions)
    → (puts_page options.way options.end && not options.refusals && not options.edits_listed) ≡ true → PutsPage options
puts_page_by options is =
    let three = and_parts _ (not options.edits_listed) is in
    let two = and_parts (puts_page options.way options.end) (not options.refusals) three.0 in
    let one = page_alone options.way options.end two.0 in
    record {
      way = one.0;
      end = one.1;
      refusals = unset options.refusals two.1;
      edits_listed = unset options.edits_listed three.1;
    }

-- the text at the end is the page then
written_text : (options : ReportOptions) (shown : List (List Look)) (page : List ℕ) (commands : List Command)
    → PutsPage options → end_text options shown page commands ≡ page_text (core commands)
written_text options shown page commands puts =
    painted_by options shown page commands (ap is_painted puts.way)
    ∙ ap (λ (e : End). painted_end e options shown page commands) puts.end

-- ---- a page, and what a script or a drawing says is done after it

module _ (options : ReportOptions) (source : ScriptSource) (bytes script : List ℕ) where
  abbrev pub sequel : Sequel
  sequel = sequel_in source script

  abbrev pub all : List Command
  all = remaining_of options bytes sequel

  abbrev pub edited : List Event
  edited = edited_events options (closed_items bytes) sequel

  abbrev pub the_end : List (List Look) → Event
  the_end shown = still_event all (end_text options shown bytes all)

  abbrev pub the_run : List (List Look) → List Event
  the_run shown = run_events options bytes sequel shown

  to_all : AreChained [] edited all
  to_all = edited_events-chained options (closed_items bytes) sequel

  run_chained : (shown : List (List Look)) → AreChained [] (the_run shown) all
  run_chained shown = chained-append [] all all edited (the_end shown ∷ []) to_all (chained-one (the_end shown))

  -- all events were made but that of the end
  module _ (before after : Outside) (sink : SinkState) (made : AreMade edited (output before) (output_of sink after.glass))
      (sink_stays : sink.faults ≡ before.sink.faults) where
    abbrev middle : Output
    middle = output_of sink after.glass

    abbrev pub the_text : List ℕ
    the_text = end_text options after.glass.grid bytes all

    abbrev last : Event
    last = the_end after.glass.grid

    -- the glass shows what remains of the page and the edits, where it was blank
    meaning_at_end : before.glass.grid ≡ grid [] → after.glass.grid ≡ grid all
    meaning_at_end blank = made.painted.over ∙ ap (λ g. grid_with_paints g (paints edited)) blank
        ∙ chained_shown [] all edited to_all

    whole_text : PutsPage options → report (the_run after.glass.grid) ≡ page_text (core all)
    whole_text writes =
        report-append edited (last ∷ [])
        ∙ ap (λ t. t ++ report (last ∷ []))
        (silent_edits options (closed_items bytes) sequel writes.way writes.refusals writes.edits_listed)
        ∙ report-one last ∙ written_text options after.glass.grid bytes all writes

    whole_is : report (the_run after.glass.grid) ≡ report edited ++ report (last ∷ [])
    whole_is = report-append edited (last ∷ [])

    -- it was put
    pub whole_report : (page : Source) → Restores (page_text (core all)) all → PutsWhole the_text sink after.sink
        → ReportsWhole (report_course options page source) bytes script before after
    whole_report page restores puts = record {
      put = record {
        put = puts.put ∙ ap (λ known. append_known known the_text) made.put.bytes
            ∙ append_known-append_known before.sink.bytes (report edited) the_text
            ∙ ap (λ t. append_known before.sink.bytes (report edited ++ t)) (sym (report-one last))
            ∙ ap (append_known before.sink.bytes) (sym whole_is);
        counted = puts.counted ∙ ap (λ n. count_after n (length the_text)) made.put.counted
            ∙ count_after-more before.sink.count (length (report edited)) (length the_text)
            ∙ ap (count_after before.sink.count) (sym (length-append (report edited) the_text))
            ∙ ap (λ t. count_after before.sink.count (length (report edited ++ t))) (sym (report-one last))
            ∙ ap (λ t. count_after before.sink.count (length t)) (sym whole_is);
        room = puts.room ∙ made.put.room;
        flushed = puts.flushed;
        flushes = puts.flushes ∙ ap one_more made.put.flushes;
        stays = puts.stays ∙ sink_stays;
      };
      painted = ArePainted-more edited (last ∷ []) before.glass after.glass after.glass made.painted
          (ArePainted-still last after.glass refl);
      each = λ blank done event rest split. ap (λ g. grid_with_paints g (paints (done ++ event ∷ []))) blank
          ∙ each_shown [] all (the_run after.glass.grid) done event rest (run_chained after.glass.grid) split;
      meaning = meaning_at_end;
      written = λ writes. subst (λ (t : List ℕ). Restores t all) (sym (whole_text (puts_page_by options writes))) restores;
    }

    -- the sink failed
    pub cut_at_end : PutsUnflushed the_text sink after.sink
        → AreCutOff (the_run after.glass.grid) (output before) (output after)
        ⊎ (AreMade (the_run after.glass.grid) (output before) (output after) × (before.sink.always_flushes ≡ false))
    cut_at_end puts = by_text puts.put
      where
        by_text : GainsPart sink the_text after.sink ⊎ (Gains sink the_text after.sink × (sink.always_flushes ≡ false))
            → AreCutOff (the_run after.glass.grid) (output before) (output after)
            ⊎ (AreMade (the_run after.glass.grid) (output before) (output after) × (before.sink.always_flushes ≡ false))
        by_text (inl part) = inl (AreCutOff-end edited last (output before) middle (output after) made sink_stays
            refl part puts.cause puts.later refl)
        by_text (inr whole) = inr (
          AreMade-end edited last (output before) middle (output after) made refl
              whole.0 refl,
          sym made.put.always ∙ whole.1,
        )

    pub put_to_end : PutsUnflushed the_text sink after.sink → HasPut before.sink after.sink
    put_to_end puts = HasPut-more before.sink sink after.sink (put_made edited (output before) middle made)
        (put_either the_text sink after.sink puts.put)

    -- a front of the report was put, where the glass was blank
    pub front_at_end : PutsUnflushed the_text sink after.sink → before.glass.grid ≡ grid []
        → PutsFront (report (the_run (grid all))) before.sink after.sink
    front_at_end puts blank =
        subst (λ (g : List (List Look)). PutsFront (report (the_run g)) before.sink after.sink) (meaning_at_end blank)
        (either_front (the_run after.glass.grid) (output before) (output after) (cut_at_end puts))
