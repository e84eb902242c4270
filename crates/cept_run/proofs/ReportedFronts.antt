-- What was reported of the front of a page.
use Rattle.std.proofs.Common.{◌≡◌, ℕ, List, [], refl, sym, ◌∙◌, ap, subst, arith}
use Rattle.cept_editor.specs.Events.{Event, paints}
use Rattle.cept_editor.specs.Made.{Output, AreMade}
use Rattle.cept_editor.proofs.Laws.{report-none, AreMade-none}
use Rattle.cept_outside.specs.SinkState.{SinkState, Gains}
use Rattle.cept_outside.proofs.Laws.{append_known-nil, count_after-nil}
use Rattle.cept_parser.specs.Items.{items, reading_within}
use Rattle.cept_profile.specs.Changes.{grid_with_paints}
use Rattle.cept_run.specs.declared.words.ReportOptions.{ReportOptions}
use Rattle.cept_run.specs.Course.{Source, ScriptSource, report_course}
use Rattle.cept_run.specs.Events.{item_events}
use Rattle.cept_run.specs.Outside.{Outside, output}
use Rattle.cept_run.specs.Run.{ReportsFront}
use Rattle.cept_run.proofs.EventsOfItems.{item_events-none}
use Rattle.cept_run.proofs.PaintedItems.{blank_painted}

pub reports_front : (options : ReportOptions) (page : Source) (script : ScriptSource) (front : List ℕ) (before after : Outside)
    → AreMade (item_events options (items front)) (output before) (output after)
    → ReportsFront (report_course options page script) front before after
reports_front options page source front before after made = record {
  made = made;
  meaning = λ blank. made.painted.over
      ∙ ap (λ g. grid_with_paints g (paints (item_events options (items front)))) blank ∙ blank_painted options (items front);
}

-- no bytes have no event
no_events : (options : ReportOptions) → item_events options (items []) ≡ []
unfolding reading_within
no_events options = item_events-none options

-- of no bytes nothing
pub reports_nothing : (options : ReportOptions) (page : Source) (script : ScriptSource) (before after : Outside)
    → output after ≡ output before → ReportsFront (report_course options page script) [] before after
reports_nothing options page source before after same =
    reports_front options page source [] before after
    (subst (λ (o : Output). AreMade (item_events options (items [])) (output before) o) (sym same)
    (subst (λ (es : List Event). AreMade es (output before) (output before)) (sym (no_events options))
    (AreMade-none (output before))))

pub same_sink : (s t : SinkState) → Gains s [] t → t.faults ≡ s.faults → t ≡ s
same_sink s t gains stays =
    same_parts s t (gains.bytes ∙ sym (append_known-nil s.bytes)) (gains.counted ∙ sym (count_after-nil s.count))
    gains.room (gains.unflushed_stays refl) gains.flushes gains.always stays
  where
    same_parts : (a b : SinkState) → b.bytes ≡ a.bytes → b.count ≡ a.count → b.room ≡ a.room
        → b.unflushed ≡ a.unflushed → b.flushes ≡ a.flushes → b.always_flushes ≡ a.always_flushes → b.faults ≡ a.faults → b ≡ a
    same_parts a b bytes count room unflushed flushes always faults =
        grind (arith, bytes, count, room, unflushed, flushes, always, faults)

-- what was made of no bytes was nothing
pub made_nothing : (options : ReportOptions) (bytes : List ℕ) (before after : Outside) → bytes ≡ []
    → AreMade (item_events options (items bytes)) (output before) (output after)
    → after.sink.faults ≡ before.sink.faults → (after.sink ≡ before.sink) × (after.glass ≡ before.glass)
made_nothing options bytes before after none made stays =
    let nothing : AreMade [] (output before) (output after) =
    subst (λ (es : List Event). AreMade es (output before) (output after)) (no_events options)
    (subst (λ (b : List ℕ). AreMade (item_events options (items b)) (output before) (output after)) none made) in
    let gains = subst (λ (t : List ℕ). Gains before.sink t after.sink) report-none nothing.put in (
      same_sink before.sink after.sink gains stays,
      nothing.painted.untouched tt,
    )
