-- Where nothing is listed and named, nothing is put before the end.
use Rattle.std.proofs.Common.{◌≡◌, ℕ, ◌+◌, Bool, true, false, cond, List, [], ◌∷◌, ◌++◌, map, take, refl, ap, ◌∙◌}
use Rattle.std.specs.List.{enumerate_from}
use Rattle.cept_codes.specs.declared.command.Command.{Command}
use Rattle.cept_codes.specs.declared.item.Item.{Item}
use Rattle.cept_codes.specs.declared.item.Said.{Said}
use Rattle.cept_codes.specs.declared.item.Said.TheVariants as said
use Rattle.cept_codes.specs.declared.look.Look.{Look}
use Rattle.cept_codes.specs.Place.{Place}
use Rattle.cept_editor.specs.Events.{Event, report}
use Rattle.cept_editor.specs.Kept.{KeptEdits, finds_nothing, kept_after, remaining}
use Rattle.cept_editor.specs.Meaning.{Step, UndoRedo, Edit}
use Rattle.cept_editor.specs.Script.{EditLine}
use Rattle.cept_editor.specs.Stepping.{event_from, edit_events, line_events}
use Rattle.cept_plot.specs.declared.figure.Figure.{Figure}
use Rattle.cept_editor.proofs.Laws.{report-append, report-one, report-none}
use Rattle.cept_run.specs.declared.words.ReportOptions.{ReportOptions}
use Rattle.cept_run.specs.declared.words.Way.{Way}
use Rattle.cept_run.specs.declared.words.Way.TheVariants as ways
use Rattle.cept_run.specs.Events.{history, item_event, item_events, item_text, listed_text, named_text}
use Rattle.cept_run.specs.Events.{kept_of, Sequel, NoSequel, Edits, Figures, drawing_commands, sequel_events}
use Rattle.cept_run.specs.Reporting.{edited_events}
use Rattle.cept_run.proofs.EventsOfItems.{events_after, item_events-after}
use Rattle.cept_run.proofs.EditedLines.{nothing_event, events_of_line, lines_after, script_events-after}

-- one event more, of no text
silent_one : (e : Event) (es : List Event) → e.text ≡ [] → report es ≡ [] → report (e ∷ es) ≡ []
silent_one e es none others =
    report-append (e ∷ []) es ∙ ap (λ t. t ++ report es) (report-one e ∙ none) ∙ others

silent_more : (xs ys : List Event) → report xs ≡ [] → report ys ≡ [] → report (xs ++ ys) ≡ []
silent_more xs ys first second = report-append xs ys ∙ ap (λ t. t ++ report ys) first ∙ second

-- neither changes nor refusals are listed
silent_said : (options : ReportOptions) (item : Item) (what : Said) (xs : List (Place × Look)) → options.way ≡ ways.Paint
    → options.refusals ≡ false → item_text options item what xs ≡ []
silent_said options item (said.Command command) xs c r = ap (λ (w : Way). listed_text w item xs) c
silent_said options item (said.Refused reason) xs c r = ap (λ b. cond b (named_text options.way item reason) []) r

silent_items_after : (options : ReportOptions) (earlier items : List Item) → options.way ≡ ways.Paint
    → options.refusals ≡ false → report (events_after options earlier items) ≡ []
unfolding events_after
silent_items_after options earlier [] c r = report-none
silent_items_after options earlier (i ∷ is) c r =
    silent_one (item_event options earlier i) (events_after options (earlier ++ i ∷ []) is)
    (silent_said options i i.what _ c r) (silent_items_after options (earlier ++ i ∷ []) is c r)

-- and no edits
silent_edit : (line n : ℕ) (earlier whole rest : List Command)
    → report (map (λ (numbered : ℕ × Command). event_from false line (earlier ++ take numbered.0 whole)
    (earlier ++ take (numbered.0 + 1) whole)) (enumerate_from n rest)) ≡ []
silent_edit line n earlier whole [] = report-none
silent_edit line n earlier whole (c ∷ rest) =
    silent_one (event_from false line (earlier ++ take n whole) (earlier ++ take (n + 1) whole))
    (map (λ (numbered : ℕ × Command). event_from false line (earlier ++ take numbered.0 whole)
    (earlier ++ take (numbered.0 + 1) whole)) (enumerate_from (n + 1) rest)) refl
    (silent_edit line (n + 1) earlier whole rest)

silent_undo_redo : (line : ℕ) (before after : List Command) (none : Bool)
    → report ((cond none (nothing_event false line before) (event_from false line before after)) ∷ []) ≡ []
silent_undo_redo line before after true = report-one (nothing_event false line before)
silent_undo_redo line before after false = report-one (event_from false line before after)

silent_line : (line : ℕ) (page : List Command) (k : KeptEdits) (step : Step)
    → report (line_events false line page k step) ≡ []
unfolding edit_events
silent_line line page k (UndoRedo which) =
    silent_undo_redo line (remaining page k) (remaining page (kept_after k (UndoRedo which))) (finds_nothing which k)
silent_line line page k (Edit commands) = silent_edit line 0 (remaining page k) commands commands

silent_lines_after : (listed : Bool) (page : List Command) (earlier lines : List EditLine) → listed ≡ false
    → report (lines_after listed page earlier lines) ≡ []
unfolding lines_after
silent_lines_after listed page earlier [] t = report-none
silent_lines_after listed page earlier (l ∷ ls) t =
    silent_more (events_of_line listed page earlier l) (lines_after listed page (earlier ++ l ∷ []) ls)
    (ap (λ b. report (line_events b l.line page (kept_of earlier) l.step)) t
    ∙ silent_line l.line page (kept_of earlier) l.step)
    (silent_lines_after listed page (earlier ++ l ∷ []) ls t)

-- and of a drawing nothing ever
pub silent_drawing : (listed : Bool) (page : List Command) (figures : List Figure)
    → report (sequel_events listed page (Figures figures)) ≡ []
unfolding edit_events
silent_drawing listed page figures =
    silent_edit 0 0 page (drawing_commands page figures) (drawing_commands page figures)

silent_sequel : (listed : Bool) (page : List Command) (sequel : Sequel) → listed ≡ false
    → report (sequel_events listed page sequel) ≡ []
silent_sequel listed page NoSequel t = report-none
silent_sequel listed page (Edits lines) t =
    ap report (script_events-after listed page lines) ∙ silent_lines_after listed page [] lines t
silent_sequel listed page (Figures figures) t = silent_drawing listed page figures

-- nothing is listed and named, so that nothing is put before the end
pub silent_edits : (options : ReportOptions) (items : List Item) (sequel : Sequel) → options.way ≡ ways.Paint
    → options.refusals ≡ false → options.edits_listed ≡ false → report (edited_events options items sequel) ≡ []
silent_edits options items sequel c r t =
    silent_more (item_events options items) (sequel_events options.edits_listed (history options items) sequel)
    (ap report (item_events-after options items) ∙ silent_items_after options [] items c r)
    (silent_sequel options.edits_listed (history options items) sequel t)
