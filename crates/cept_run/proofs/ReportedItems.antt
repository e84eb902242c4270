-- How a reporter stands after one item more.
use Rattle.std.proofs.Common.{◌≡◌, ℕ, ◌+◌, ◌<◌, ◌≤◌, Bool, true, false, cond, Some, None, Result, Ok, Err, List}
use Rattle.std.proofs.Common.{[], ◌∷◌, ◌++◌, length, take, drop, get_or, refl, sym, ◌∙◌, ap, subst, arith, append_assoc}
use Rattle.std.proofs.Common.{take-append-drop, length-append, add-zero, add-one, drop-cons}
use Rattle.std.proofs.lemmas.List.{take_more, take_all}
use Rattle.std.specs.List.{AllByRecursion, count_by}
use Rattle.cept_codes.specs.declared.command.Command.{Command}
use Rattle.cept_codes.specs.declared.command.Command.TheVariants as commands
use Rattle.cept_codes.specs.declared.item.Item.{Item}
use Rattle.cept_codes.specs.declared.item.Reason.{Reason}
use Rattle.cept_codes.specs.declared.item.Said.{Said}
use Rattle.cept_codes.specs.declared.item.Said.TheVariants as said
use Rattle.cept_codes.specs.Command.{IsValidCommand}
use Rattle.cept_codes.specs.declared.look.Look.{Look}
use Rattle.cept_codes.specs.Place.{Place}
use Rattle.cept_outside.specs.SinkState.{SinkState, PutsText}
use Rattle.cept_outside.proofs.Laws.{Gains-nil}
use Rattle.std.proofs.lemmas.Option.{same_Some, none-some}
use Rattle.cept_profile.specs.Changes.{changes_between, changes, differences, marked_looks, grid_with_paints}
use Rattle.cept_profile.specs.Look.{grid, looks_of}
use Rattle.cept_profile.specs.State.{State, state, core_of}
use Rattle.cept_profile.specs.Valid.{AllValid}
use Rattle.cept_repaint.specs.Applied.{IsApplied}
use Rattle.cept_repaint.specs.GlassState.{GlassState, Lists}
use Rattle.cept_listing.specs.Listing.{item_line}
use Rattle.cept_report.specs.Text.{change_lines, refusal_line}
use Rattle.cept_editor.specs.Events.{Event, paints}
use Rattle.cept_editor.specs.Kept.{EditorState}
use Rattle.cept_editor.specs.Script.{EditLine}
use Rattle.cept_plot.specs.declared.figure.Figure.{Figure}
use Rattle.cept_editor.specs.Made.{Output, output_of, IsMade, AreMade, AreCutOff}
use Rattle.cept_editor.proofs.Laws.{paints-one, ArePainted-still, AreMade-none, AreMade-more, AreCutOff-here}
use Rattle.cept_editor.proofs.Laws.{AreCutOff-longer}
use Rattle.cept_run.specs.declared.target.Target.{Target}
use Rattle.cept_run.specs.declared.target.Target.TheVariants as targets
use Rattle.cept_run.specs.declared.words.ReportOptions.{ReportOptions}
use Rattle.cept_run.specs.Events.{history, item_event, item_events, refused_count}
use Rattle.cept_run.specs.Events.{Sequel, NoSequel, Edits, Figures}
use Rattle.cept_parser.specs.Items.{items, closed_items, reading_within, is_refusal}
use Rattle.cept_parser.specs.State.{Leads}
use Rattle.cept_run.specs.Reporting.{DecoderState, HasRead, ReadsOn, ReadsToEnd}
use Rattle.cept_run.specs.Reporting.{Plan, ReporterState, painted_target, target_at, screen_of, sequel_at, Stands}
use Rattle.cept_run.specs.Reporting.{HasReported}
use Rattle.cept_run.specs.inside.Reporting.{Applies}
use Rattle.cept_run.specs.Reporting.{AppliesOn, IsAppliedAfter}
use Rattle.cept_run.specs.Reporting.{ReportsOn, counted_places}
use Rattle.cept_run.specs.Events.{item_text, listed_text, named_text, painted_count, refusal_text}
use Rattle.cept_run.specs.inside.Reporting.{IsListedAlone, command_event, is_quiet}
use Rattle.cept_run.proofs.EventsOfItems.{history-none, history-command, history-refused, history-idle, item_events-more}
use Rattle.cept_run.specs.declared.words.Way.{Way}
use Rattle.cept_run.specs.declared.words.Way.TheVariants as ways
use Rattle.cept_run.specs.Words.{is_counted, is_painted, lists_changes}
use Rattle.cept_run.proofs.MarkedCount.{changes_counted}
use Rattle.cept_run.proofs.CountedPlaces.{counted-none, counted-command, counted-refused, counted-idle}
use Rattle.cept_run.proofs.EventsOfItems.{item_events-none, item_events-append, events_after, refused_count-more}

-- ---- before the first item

pub Stands-none : (plan : Plan) (reporter : ReporterState) → reporter.options ≡ plan.options
    → reporter.target ≡ target_at plan [] → reporter.items ≡ 0 → reporter.refused ≡ 0 → reporter.painted ≡ 0
    → Stands plan reporter []
Stands-none plan reporter same is items refused painted = record {
  options_are = same;
  valid = subst AllValid (sym (history-none plan.options)) tt;
  target = is ∙ ap (target_at plan) (sym (history-none plan.options));
  items = items;
  refused = refused;
  painted = painted ∙ sym (counted-none plan.options);
}

pub HasReported-none : (plan : Plan) (reporter : ReporterState) (start : Output) → Stands plan reporter []
    → HasReported plan reporter [] start start
HasReported-none plan reporter start stands = record {
  stands = stands;
  made = subst (λ (es : List Event). AreMade es start start) (sym (item_events-none plan.options)) (AreMade-none start);
  stays = refl;
}

-- ---- one item more, by its event

module _ {X E : Type 0} (plan : Plan) (old new : ReporterState) (earlier : List Item) (i : Item)
    (start before after : Output) where
  pub reported_more : (x : X) → HasReported plan old earlier start before
      → Stands plan new (earlier ++ i ∷ [])
      → IsMade {X = X} {E = E} (item_event plan.options earlier i) before (Ok x) after
      → HasReported plan new (earlier ++ i ∷ []) start after
  reported_more x has stands made = record {
    stands = stands;
    made = subst (λ (es : List Event). AreMade es start after) (sym (item_events-more plan.options earlier i))
        (AreMade-more (item_events plan.options earlier) (item_event plan.options earlier i) start before after has.made made);
    stays = made.puts.cause.stays ∙ has.stays;
  }

  pub cut_more : (f : E) → HasReported plan old earlier start before
      → IsMade {X = X} {E = E} (item_event plan.options earlier i) before (Err f) after
      → AreCutOff (item_events plan.options (earlier ++ i ∷ [])) start after
  cut_more f has made =
      subst (λ (es : List Event). AreCutOff es start after) (sym (item_events-more plan.options earlier i))
      (AreCutOff-here (item_events plan.options earlier) (item_event plan.options earlier i) start before after has.made has.stays
      made)

-- so it goes on, where it stands after the item, and its event was made
reports_on : {X E : Type 0} (old new : ReporterState) (i : Item) (before after : Output) (result : Result X E)
    → new.options ≡ old.options → new.items ≤ old.items + 1
    → ((plan : Plan) (earlier : List Item) → Stands plan old earlier → Stands plan new (earlier ++ i ∷ []))
    → ((plan : Plan) (earlier : List Item) → Stands plan old earlier
    → IsMade (item_event plan.options earlier i) before result after)
    → ReportsOn old (i ∷ []) before result new after
reports_on old new i before after (Ok x) options counted stands made = record {
  options = options;
  counted = counted;
  reported = λ plan earlier start has. reported_more plan old new earlier i start before after x has
      (stands plan earlier has.stands) (made plan earlier has.stands);
  cut = tt;
}
reports_on old new i before after (Err f) options counted stands made = record {
  options = options;
  counted = counted;
  reported = tt;
  cut = λ plan earlier start has. cut_more plan old new earlier i start before after f has
      (made plan earlier has.stands);
}

-- ---- where commands are painted, and where they aren't

-- without painting nothing is applied
idle_target : (plan : Plan) (h : List Command) → is_painted plan.options.way ≡ false → target_at plan h ≡ targets.Nothing
idle_target plan h p = ap (λ b. cond b (painted_target plan.sequel h) targets.Nothing) p

painted_at_plan : (plan : Plan) (h : List Command) → is_painted plan.options.way ≡ true
    → target_at plan h ≡ painted_target plan.sequel h
painted_at_plan plan h p = ap (λ b. cond b (painted_target plan.sequel h) targets.Nothing) p

-- what is listed of an item, where commands are painted and where they aren't
painted_lines : (way : Way) (i : Item) (xs : List (Place × Look)) → is_painted way ≡ true
    → listed_text way i xs ≡ cond (lists_changes way) (change_lines i.at xs) []
painted_lines ways.Count i xs p = cc
painted_lines ways.List i xs p = cc
painted_lines ways.Paint i xs p = refl
painted_lines ways.PaintAndList i xs p = refl

unpainted_lines : (way : Way) (i : Item) (xs : List (Place × Look)) → is_painted way ≡ false
    → listed_text way i [] ≡ listed_text way i xs
unpainted_lines ways.Count i xs p = refl
unpainted_lines ways.List i xs p = refl
unpainted_lines ways.Paint i xs p = cc
unpainted_lines ways.PaintAndList i xs p = cc

-- ---- a command more

AllValid-more : (history : List Command) (command : Command) → AllValid history → IsValidCommand command
    → AllValid (history ++ command ∷ [])
AllValid-more [] command all one = (one, tt)
AllValid-more (c ∷ history) command all one = (all.0, AllValid-more history command all.1 one)

length-more : {X : Type 0} (xs : List X) (x : X) → length (xs ++ x ∷ []) ≡ length xs + 1
length-more xs x = length-append xs (x ∷ [])

-- the reporter when the item was counted
abbrev pub counted_one : ReporterState → ReporterState
counted_one r =
    record { options = r.options; target = r.target; items = r.items + 1; refused = r.refused; painted = r.painted }

refused_as : (items : List Item) (i : Item) (what : Said) → i.what ≡ what
    → refused_count (items ++ i ∷ []) ≡ refused_count items + cond (is_refusal what) 1 0
refused_as items i what is =
    refused_count-more items i ∙ ap (λ s. refused_count items + cond (is_refusal s) 1 0) is

module _ {X E : Type 0} (old new : ReporterState) (i : Item) (command : Command) (before after : Output)
    (result : Result X E) (is : i.what ≡ said.Command command) (valid : IsValidCommand command)
    (paints : is_painted old.options.way ≡ true)
    (applies : Applies (counted_one old) i command before result new after) where
  plan_paints : (plan : Plan) (earlier : List Item) → Stands plan old earlier → is_painted plan.options.way ≡ true
  plan_paints plan earlier stands = ap (λ (a : ReportOptions). is_painted a.way) (sym stands.options_are) ∙ paints

  painted_before : (plan : Plan) (earlier : List Item) (stands : Stands plan old earlier)
      → old.target ≡ painted_target plan.sequel (history plan.options earlier)
  painted_before plan earlier stands =
      stands.target ∙ painted_at_plan plan (history plan.options earlier) (plan_paints plan earlier stands)

  command_stands : (plan : Plan) (earlier : List Item) → Stands plan old earlier
      → Stands plan new (earlier ++ i ∷ [])
  command_stands plan earlier stands =
      let p = plan_paints plan earlier stands in
      let more = history-command plan.options earlier i command p is in
      let h = history plan.options earlier in
      let applied = applies.applied plan.sequel h stands.valid (painted_before plan earlier stands) in
      record {
        options_are = applies.options ∙ stands.options_are;
        valid = subst AllValid (sym more) (AllValid-more h command stands.valid valid);
        target = applied.0
            ∙ sym (painted_at_plan plan (h ++ command ∷ []) p) ∙ ap (target_at plan) (sym more);
        items = applies.items ∙ ap (λ n. n + 1) stands.items ∙ sym (length-more earlier i);
        refused = applies.refused ∙ stands.refused
            ∙ sym (refused_as earlier i (said.Command command) is ∙ add-zero (refused_count earlier));
        painted = applied.2
            ∙ ap (λ n. n + counted_places old.options (length (changes h command))) stands.painted
            ∙ ap (λ (a : ReportOptions). counted_places plan.options (painted_count plan.options earlier)
            + counted_places a (length (changes h command))) stands.options_are
            ∙ sym (counted-command plan.options earlier i command p is);
      }

  command_made : (plan : Plan) (earlier : List Item) → Stands plan old earlier
      → IsMade (item_event plan.options earlier i) before result after
  command_made plan earlier stands =
      let p = plan_paints plan earlier stands in
      let h = history plan.options earlier in
      let whole = history plan.options (earlier ++ i ∷ []) in
      let event : item_event plan.options earlier i ≡ command_event plan.options i.at h command =
      ap (λ (hs : List Command). record {
        before = h;
        after = hs;
        text = item_text plan.options i i.what (changes_between (grid h) (grid hs));
      }) (history-command plan.options earlier i command p is)
      ∙ ap (λ (s : Said). record {
        before = h;
        after = h ++ command ∷ [];
        text = item_text plan.options i s (changes_between (grid h) (grid (h ++ command ∷ [])));
      }) is
      ∙ ap (λ (t : List ℕ). record { before = h; after = h ++ command ∷ []; text = t })
      (painted_lines plan.options.way i (changes h command) p) in
      subst (λ (e : Event). IsMade e before result after) (sym event)
      (subst (λ (a : ReportOptions). IsMade (command_event a i.at h command) before result after) stands.options_are
      (applies.applied plan.sequel h stands.valid (painted_before plan earlier stands)).1)

  pub command_more : ReportsOn old (i ∷ []) before result new after
  command_more = reports_on old new i before after result applies.options (omega (arith, applies.items)) command_stands command_made

-- ---- a command more that isn't applied

module _ {X E : Type 0} (old : ReporterState) (i : Item) (command : Command) (sink now : SinkState) (glass : GlassState)
    (result : Result X E) (is : i.what ≡ said.Command command) (idle : is_painted old.options.way ≡ false)
    (puts : PutsText sink (listed_text old.options.way i []) result now) where
  plan_idle : (plan : Plan) (earlier : List Item) → Stands plan old earlier → is_painted plan.options.way ≡ false
  plan_idle plan earlier stands = ap (λ (a : ReportOptions). is_painted a.way) (sym stands.options_are) ∙ idle

  listed_stands : (plan : Plan) (earlier : List Item) → Stands plan old earlier
      → Stands plan (counted_one old) (earlier ++ i ∷ [])
  listed_stands plan earlier stands =
      let p = plan_idle plan earlier stands in
      let none = stands.target ∙ idle_target plan (history plan.options earlier) p in
      record {
        options_are = stands.options_are;
        valid = subst AllValid (sym (history-idle plan.options (earlier ++ i ∷ []) p)) tt;
        target = none ∙ sym (idle_target plan (history plan.options (earlier ++ i ∷ [])) p);
        items = ap (λ n. n + 1) stands.items ∙ sym (length-more earlier i);
        refused = stands.refused
            ∙ sym (refused_as earlier i (said.Command command) is ∙ add-zero (refused_count earlier));
        painted = stands.painted ∙ sym (counted-idle plan.options earlier i p);
      }

  listed_made : (plan : Plan) (earlier : List Item) → Stands plan old earlier
      → IsMade (item_event plan.options earlier i) (output_of sink glass) result (output_of now glass)
  listed_made plan earlier stands =
      let p = plan_idle plan earlier stands in
      let before = history plan.options earlier in
      let after = history plan.options (earlier ++ i ∷ []) in
      let text : listed_text old.options.way i [] ≡ (item_event plan.options earlier i).text =
      ap (λ (a : ReportOptions). listed_text a.way i []) stands.options_are
      ∙ unpainted_lines plan.options.way i (changes_between (grid before) (grid after)) p
      ∙ ap (λ w. item_text plan.options i w (changes_between (grid before) (grid after))) (sym is) in
      record {
        puts = subst (λ (t : List ℕ). PutsText sink t result now) text puts;
        painted = ArePainted-still (item_event plan.options earlier i) glass
            (history-idle plan.options (earlier ++ i ∷ []) p ∙ sym (history-idle plan.options earlier p));
      }

  pub listed_more : ReportsOn old (i ∷ []) (output_of sink glass) result (counted_one old) (output_of now glass)
  listed_more = reports_on old (counted_one old) i (output_of sink glass) (output_of now glass) result refl
      (omega arith) listed_stands listed_made

-- nothing was put
pub PutsText-nothing : {X E : Type 0} {x : X} (s : SinkState) → PutsText {E = E} s [] (Ok x) s
PutsText-nothing s = record {
  whole = Gains-nil s;
  part = tt;
  cause = record { later = omega arith; failed = tt; stays = refl };
}

-- the same of a command that is counted alone
quiet_lines : (way : Way) (i : Item) → is_quiet way ≡ true → (is_painted way ≡ false) × ([] ≡ listed_text way i [])
quiet_lines ways.Count i q = (refl, refl)
quiet_lines ways.List i q = cc
quiet_lines ways.Paint i q = cc
quiet_lines ways.PaintAndList i q = cc

pub quiet_more : {X E : Type 0} (old : ReporterState) (i : Item) (command : Command) (sink : SinkState) (glass : GlassState)
    (x : X) → i.what ≡ said.Command command → is_quiet old.options.way ≡ true
    → ReportsOn {E = E} old (i ∷ []) (output_of sink glass) (Ok x) (counted_one old) (output_of sink glass)
quiet_more {X} {E} old i command sink glass x is quiet =
    let none = quiet_lines old.options.way i quiet in
    listed_more old i command sink sink glass (Ok x) is none.0
    (subst (λ (t : List ℕ). PutsText {E = E} sink t (Ok x) sink) none.1 (PutsText-nothing sink))

-- there a refusal has a line of its own
quiet_name : (way : Way) (i : Item) (reason : Reason) → is_quiet way ≡ true
    → refusal_line i.at i.len reason ≡ named_text way i reason
quiet_name ways.Count i reason q = refl
quiet_name ways.List i reason q = cc
quiet_name ways.Paint i reason q = cc
quiet_name ways.PaintAndList i reason q = cc

pub quiet_refusal : {X E : Type 0} (options : ReportOptions) (i : Item) (reason : Reason) (sink now : SinkState) (result : Result X E)
    → is_quiet options.way ≡ true
    → PutsText sink (cond options.refusals (refusal_line i.at i.len reason) []) result now
    → PutsText sink (refusal_text options i reason) result now
quiet_refusal options i reason sink now result quiet =
    subst (λ (t : List ℕ). PutsText sink (cond options.refusals t []) result now) (quiet_name options.way i reason quiet)

-- and of one that isn't
loud_lines : (way : Way) (i : Item) → is_quiet way ≡ false → is_painted way ≡ false → item_line i ≡ listed_text way i []
loud_lines ways.Count i q p = cc
loud_lines ways.List i q p = refl
loud_lines ways.Paint i q p = cc
loud_lines ways.PaintAndList i q p = cc

pub loud_more : {X E : Type 0} (old new : ReporterState) (i : Item) (command : Command) (sink now : SinkState)
    (glass shown : GlassState) (result : Result X E) → i.what ≡ said.Command command → IsValidCommand command
    → is_quiet old.options.way ≡ false
    → Applies (counted_one old) i command (output_of sink glass) result new (output_of now shown)
    → ReportsOn old (i ∷ []) (output_of sink glass) result new (output_of now shown)
loud_more old new i command sink now glass shown result is valid loud applies = by_flag (is_painted old.options.way) refl
  where
    listed : is_painted old.options.way ≡ false → (plan : Plan) (earlier : List Item) → Stands plan old earlier
        → IsListedAlone (counted_one old) i (output_of sink glass) result new (output_of now shown)
    listed idle plan earlier stands =
        applies.listed (stands.target ∙ idle_target plan (history plan.options earlier)
        (ap (λ (a : ReportOptions). is_painted a.way) (sym stands.options_are) ∙ idle))

    text : is_painted old.options.way ≡ false → PutsText sink (item_line i) result now
        → PutsText sink (listed_text old.options.way i []) result now
    text idle puts = subst (λ (t : List ℕ). PutsText sink t result now) (loud_lines old.options.way i loud idle) puts

    by_flag : (b : Bool) → is_painted old.options.way ≡ b
        → ReportsOn old (i ∷ []) (output_of sink glass) result new (output_of now shown)
    by_flag true p =
        command_more old new i command (output_of sink glass) (output_of now shown) result is valid p applies
    by_flag false p =
        reports_on old new i (output_of sink glass) (output_of now shown) result applies.options (omega (arith, applies.items))
        (λ plan earlier stands.
        let l = listed p plan earlier stands in
        subst (λ (r : ReporterState). Stands plan r (earlier ++ i ∷ [])) (sym l.stays)
        (listed_stands old i command sink now glass result is p (text p l.puts) plan earlier stands))
        (λ plan earlier stands.
        let l = listed p plan earlier stands in
        subst (λ (s : GlassState). IsMade (item_event plan.options earlier i) (output_of sink glass) result (output_of now s))
        (sym l.unpainted) (listed_made old i command sink now glass result is p (text p l.puts) plan earlier stands))

-- ---- a refusal more

-- the reporter when the item and its refusal were counted
abbrev pub counted_refusal : ReporterState → ReporterState
counted_refusal r =
    record { options = r.options; target = r.target; items = r.items + 1; refused = r.refused + 1; painted = r.painted }

module _ {X E : Type 0} (old : ReporterState) (i : Item) (reason : Reason) (sink now : SinkState) (glass : GlassState)
    (result : Result X E) (is : i.what ≡ said.Refused reason)
    (puts : PutsText sink (refusal_text old.options i reason) result now) where
  refusal_stands : (plan : Plan) (earlier : List Item) → Stands plan old earlier
      → Stands plan (counted_refusal old) (earlier ++ i ∷ [])
  refusal_stands plan earlier stands =
      let same = history-refused plan.options earlier i reason is in
      record {
        options_are = stands.options_are;
        valid = subst AllValid (sym same) stands.valid;
        target = stands.target ∙ ap (target_at plan) (sym same);
        items = ap (λ n. n + 1) stands.items ∙ sym (length-more earlier i);
        refused = ap (λ n. n + 1) stands.refused ∙ sym (refused_as earlier i (said.Refused reason) is);
        painted = stands.painted ∙ sym (counted-refused plan.options earlier i reason is);
      }

  refusal_made : (plan : Plan) (earlier : List Item) → Stands plan old earlier
      → IsMade (item_event plan.options earlier i) (output_of sink glass) result (output_of now glass)
  refusal_made plan earlier stands =
      let text : refusal_text old.options i reason ≡ (item_event plan.options earlier i).text =
      ap (λ (a : ReportOptions). refusal_text a i reason) stands.options_are
      ∙ ap (λ w. item_text plan.options i w (changes_between (grid (history plan.options earlier))
      (grid (history plan.options (earlier ++ i ∷ []))))) (sym is) in
      record {
        puts = subst (λ (t : List ℕ). PutsText sink t result now) text puts;
        painted = ArePainted-still (item_event plan.options earlier i) glass (history-refused plan.options earlier i reason is);
      }

  pub refusal_more : ReportsOn old (i ∷ []) (output_of sink glass) result (counted_refusal old) (output_of now glass)
  refusal_more = reports_on old (counted_refusal old) i (output_of sink glass) (output_of now glass) result refl
      (omega arith) refusal_stands refusal_made

-- ---- a command that is applied

append_other : (h : List Command) (c : Command) → h ++ c ∷ [] ≡ h → ⊥
append_other h c e = absurd (omega (arith, ap length e, length-append h (c ∷ [])))

-- what a screen is, where it is what commands are painted on
pub screen_painted : (sequel : Sequel) (screen : State) (h : List Command)
    → targets.Screen screen ≡ painted_target sequel h → (sequel ≡ NoSequel) × (screen ≡ state h)
screen_painted NoSequel screen h e = (refl, same_Some screen (state h) (ap screen_of e))
screen_painted (Edits lines) screen h e = cc
screen_painted (Figures figures) screen h e = cc

abbrev pub editor_in : EditorState → Target → EditorState
editor_in other targets.Nothing = other
editor_in other (targets.Screen screen) = other
editor_in other (targets.Editor editor lines) = editor
editor_in other (targets.Drawing screen figures) = other

-- and what an editor is
pub editor_painted : (sequel : Sequel) (editor : EditorState) (lines : List EditLine) (h : List Command)
    → targets.Editor editor lines ≡ painted_target sequel h
    → (sequel ≡ Edits lines) × (editor ≡ record { screen = state h; past = []; future = [] })
editor_painted NoSequel editor lines h e = cc
editor_painted (Edits others) editor lines h e = (sym (ap sequel_at e), ap (editor_in editor) e)
editor_painted (Figures figures) editor lines h e = cc

-- and what a screen with a drawing is
pub drawing_painted : (sequel : Sequel) (screen : State) (figures : List Figure) (h : List Command)
    → targets.Drawing screen figures ≡ painted_target sequel h → (sequel ≡ Figures figures) × (screen ≡ state h)
drawing_painted NoSequel screen figures h e = cc
drawing_painted (Edits lines) screen figures h e = cc
drawing_painted (Figures others) screen figures h e =
    (sym (ap sequel_at e), same_Some screen (state h) (ap screen_of e))

editor_with : (editor : EditorState) (screen : State) (past future : List State) → editor.screen ≡ screen
    → editor.past ≡ past → editor.future ≡ future → editor ≡ record { screen = screen; past = past; future = future }
editor_with editor screen past future s p f = λ i. record { screen = s i; past = p i; future = f i }

-- there is something to paint on
pub not_idle : (sequel : Sequel) (h : List Command) → targets.Nothing ≡ painted_target sequel h → ⊥
not_idle NoSequel h e = cc
not_idle (Edits lines) h e = cc
not_idle (Figures figures) h e = cc

-- what a command changes, where it leads a screen's state on
module _ (screen new : State) (marks : List Bool) (command : Command) (glass shown : GlassState) (from to : ℕ)
    (is_applied : IsApplied screen command new marks glass shown from to) where
  applied : (sequel : Sequel) (h : List Command) (target : Target) → screen ≡ state h
      → new ≡ state (h ++ command ∷ []) → target ≡ painted_target sequel (h ++ command ∷ [])
      → IsAppliedAfter sequel h command glass target marks shown
  applied next h target before after at =
      let grids : (f : List (List Look) → List (List Look) → List (Place × Look))
      → f (looks_of (core_of screen)) (looks_of (core_of new)) ≡ f (grid h) (grid (h ++ command ∷ [])) =
      λ f. ap (λ (s : State). f (looks_of (core_of s)) (looks_of (core_of new))) before
      ∙ ap (λ (s : State). f (grid h) (looks_of (core_of s))) after in
      record {
        target_is = at;
        marked = is_applied.repainted.marks ∙ ap (λ (s : State). differences (looks_of (core_of s)) (looks_of (core_of new))) before
            ∙ ap (λ (s : State). differences (grid h) (looks_of (core_of s))) after;
        told = subst (λ (xs : List (Place × Look)). Lists glass.paints xs shown.paints) (grids changes_between) is_applied.repainted.told;
        shown = is_applied.repainted.shown ∙ ap (grid_with_paints glass.grid) (grids changes_between);
      }

  -- on a screen
  pub applied_on_screen : AppliesOn (targets.Screen screen) command glass (targets.Screen new) marks shown
  applied_on_screen = record {
    painted = λ sequel h valid e.
        let is = screen_painted sequel screen h e in
        let after = is_applied.goes_on h valid is.1 in
        applied sequel h (targets.Screen new) is.1 after (ap targets.Screen after
        ∙ ap (λ (o : Sequel). painted_target o (h ++ command ∷ [])) (sym is.0));
    idle = λ none. cc;
  }

  -- on a screen with a drawing
  pub applied_before_drawing : (figures : List Figure)
      → AppliesOn (targets.Drawing screen figures) command glass (targets.Drawing new figures) marks shown
  applied_before_drawing figures = record {
    painted = λ sequel h valid e.
        let is = drawing_painted sequel screen figures h e in
        let after = is_applied.goes_on h valid is.1 in
        applied sequel h (targets.Drawing new figures) is.1 after (ap (λ (s : State). targets.Drawing s figures) after
        ∙ ap (λ (o : Sequel). painted_target o (h ++ command ∷ [])) (sym is.0));
    idle = λ none. cc;
  }

  -- on a screen whose edits can be undone
  pub applied_in_editor : (editor after : EditorState) (lines : List EditLine) → editor.screen ≡ screen
      → after.screen ≡ new → after.past ≡ editor.past → after.future ≡ []
      → AppliesOn (targets.Editor editor lines) command glass (targets.Editor after lines) marks shown
  applied_in_editor editor after lines was now past future = record {
    painted = λ sequel h valid e.
        let is = editor_painted sequel editor lines h e in
        let before = sym was ∙ ap (λ (s : EditorState). s.screen) is.1 in
        let next = is_applied.goes_on h valid before in
        applied sequel h (targets.Editor after lines) before next
        (ap (λ (s : EditorState). targets.Editor s lines)
        (editor_with after (state (h ++ command ∷ [])) [] [] (now ∙ next)
        (past ∙ ap (λ (s : EditorState). s.past) is.1) future)
        ∙ ap (λ (o : Sequel). painted_target o (h ++ command ∷ [])) (sym is.0));
    idle = λ none. cc;
  }

-- where nothing is painted
pub applied_nowhere : (command : Command) (glass : GlassState) (marks : List Bool)
    → AppliesOn targets.Nothing command glass targets.Nothing marks glass
applied_nowhere command glass marks = record {
  painted = λ sequel h valid e. absurd (not_idle sequel h e);
  idle = λ none. (refl, refl);
}

-- the same by a reporter, which stays but for that
abbrev pub with_target : ReporterState → Target → ℕ → ReporterState
with_target old target painted = record {
  options = old.options;
  target = target;
  items = old.items;
  refused = old.refused;
  painted = painted;
}

module _ (old : ReporterState) (target : Target) (item : Item) (command : Command) (marks : List Bool)
    (sink : SinkState) (glass shown : GlassState)
    (applies : AppliesOn old.target command glass target marks shown) where
  -- there is a screen
  module _ {X E : Type 0} (screen : State) (now : SinkState) (result : Result X E) (count : ℕ)
      (at : screen_of target ≡ Some screen)
      (puts : PutsText sink (cond (lists_changes old.options.way) (change_lines item.at (marked_looks marks (looks_of (core_of screen)))) [])
      result now)
      (count_is : count ≡ cond (is_counted old.options.end) (count_by (λ b. b) marks) 0) (few : count ≤ 960) where
    -- the screen is that after the command
    module _ (sequel : Sequel) (h : List Command) (is : IsAppliedAfter sequel h command glass target marks shown)
      where
        screen_is : screen ≡ state (h ++ command ∷ [])
        screen_is = same_Some screen (state (h ++ command ∷ []))
            (sym at ∙ ap screen_of is.target_is ∙ of_painted sequel (h ++ command ∷ []))
          where
            of_painted : (o : Sequel) (k : List Command) → screen_of (painted_target o k) ≡ Some (state k)
            of_painted NoSequel k = refl
            of_painted (Edits lines) k = refl
            of_painted (Figures figures) k = refl

        listed_are : marked_looks marks (looks_of (core_of screen)) ≡ changes h command
        listed_are = ap (λ m. marked_looks m (looks_of (core_of screen))) is.marked
            ∙ ap (λ (s : State). marked_looks (differences (grid h) (grid (h ++ command ∷ []))) (looks_of (core_of s))) screen_is

        event_made : IsMade (command_event old.options item.at h command) (output_of sink glass) result (output_of now shown)
        event_made =
            let painted : changes h command ≡ paints (command_event old.options item.at h command ∷ []) =
            sym (paints-one (command_event old.options item.at h command)) in
            record {
              puts = subst (λ (t : List ℕ). PutsText sink t result now)
                  (ap (λ (xs : List (Place × Look)). cond (lists_changes old.options.way) (change_lines item.at xs) []) listed_are) puts;
              painted = record {
                listed = subst (λ (xs : List (Place × Look)). Lists glass.paints xs shown.paints) painted is.told;
                over = is.shown ∙ ap (grid_with_paints glass.grid) painted;
                untouched = λ still. absurd (append_other h command still.0);
              };
            }

        counted : old.painted + count ≡ old.painted + counted_places old.options (length (changes h command))
        counted = ap (λ n. old.painted + n) (count_is
            ∙ ap (λ m. cond (is_counted old.options.end) (count_by (λ b. b) m) 0) is.marked
            ∙ ap (λ n. cond (is_counted old.options.end) n 0) (changes_counted (grid h) (grid (h ++ command ∷ []))))

    pub applied_painted : Applies old item command (output_of sink glass) result
        (with_target old target (old.painted + count)) (output_of now shown)
    applied_painted = record {
      options = refl;
      items = refl;
      refused = refl;
      applied = λ sequel h valid e.
          let is = applies.painted sequel h valid e in
          (is.target_is, event_made sequel h is, counted sequel h is);
      few = omega (arith, few);
      listed = λ none. absurd (none-some screen (sym (ap screen_of (applies.idle none).0) ∙ at));
    }

  -- there is none
  pub applied_idle : {X E : Type 0} (now : SinkState) (result : Result X E) → screen_of target ≡ None
      → PutsText sink (item_line item) result now
      → Applies old item command (output_of sink glass) result (with_target old target old.painted) (output_of now shown)
  applied_idle now result none puts = record {
    options = refl;
    items = refl;
    refused = refl;
    applied = λ sequel h valid e. absurd (with_screen sequel h (applies.painted sequel h valid e));
    few = omega arith;
    listed = λ idle. record {
      puts = puts;
      unpainted = (applies.idle idle).1;
      stays = ap (λ (e : Target). with_target old e old.painted) ((applies.idle idle).0 ∙ sym idle);
    };
  }
    where
      with_screen : (sequel : Sequel) (h : List Command)
          → IsAppliedAfter sequel h command glass target marks shown → ⊥
      with_screen NoSequel h is = none-some (state (h ++ command ∷ [])) (sym none ∙ ap screen_of is.target_is)
      with_screen (Edits lines) h is = none-some (state (h ++ command ∷ [])) (sym none ∙ ap screen_of is.target_is)
      with_screen (Figures figures) h is =
          none-some (state (h ++ command ∷ [])) (sym none ∙ ap screen_of is.target_is)

-- ---- lists that are gone through

-- the elements so far and the next one
pub front_more : {X : Type 0} (earlier xs : List X) (i : ℕ) (d : X) → i < length xs
    → (earlier ++ take i xs) ++ get_or xs i d ∷ [] ≡ earlier ++ take (i + 1) xs
front_more earlier xs i d h = append_assoc earlier (take i xs) _ ∙ ap (λ l. earlier ++ l) (sym (take_more xs i d h))

-- all elements were gone through
pub front_all : {X : Type 0} (earlier xs : List X) (i : ℕ) → length xs ≤ i → earlier ++ take i xs ≡ earlier ++ xs
front_all earlier xs i h = ap (λ l. earlier ++ l) (take_all i xs h)

-- the elements so far and all others
pub front_rest : {X : Type 0} (earlier xs : List X) (i : ℕ) → (earlier ++ take i xs) ++ drop i xs ≡ earlier ++ xs
front_rest earlier xs i = append_assoc earlier (take i xs) (drop i xs)
    ∙ ap (λ l. earlier ++ l) (take-append-drop i xs)

-- what holds of all that is left holds of the next one and of the rest
pub AllByRecursion-next : {X : Type 0} (P : X → Type 0) (xs : List X) (i : ℕ) (d : X) → i < length xs
    → AllByRecursion P (drop i xs) → P (get_or xs i d) × AllByRecursion P (drop (i + 1) xs)
AllByRecursion-next P xs i d h all =
    let split : drop i xs ≡ get_or xs i d ∷ drop (i + 1) xs = rw add-one (drop-cons xs i d h) in
    let parts = subst (AllByRecursion P) split all in
    (parts.0, parts.1)

-- what fills the unused room of a list of items
abbrev spare : Item
spare = record { at = 0; len = 0; what = said.Command commands.Nul }

pub AllByRecursion-rest : (P : Item → Type 0) (xs : List Item) (i : ℕ) → i < length xs
    → AllByRecursion P (drop i xs) → AllByRecursion P (drop (i + 1) xs)
AllByRecursion-rest P xs i h all = (AllByRecursion-next P xs i spare h all).1

-- ---- what was reported of fewer items

-- items at which the sink failed, among more
pub cut_longer : (plan : Plan) (front rest whole : List Item) (start after : Output) → front ++ rest ≡ whole
    → AreCutOff (item_events plan.options front) start after → AreCutOff (item_events plan.options whole) start after
cut_longer plan front rest whole start after is off =
    AreCutOff-longer (item_events plan.options front) (events_after plan.options front rest) (item_events plan.options whole) start after
    (ap (item_events plan.options) (sym is) ∙ item_events-append plan.options front rest) off

pub has_reported_same : (plan : Plan) (reporter : ReporterState) (xs ys : List Item) (start now : Output) → xs ≡ ys
    → HasReported plan reporter xs start now → HasReported plan reporter ys start now
has_reported_same plan reporter xs ys start now e has =
    subst (λ (l : List Item). HasReported plan reporter l start now) e has

-- ---- a decoder that reads on

pub reads_as : (plan : Plan) (xs ys : List Item) (start after : Output) → xs ≡ ys
    → AreCutOff (item_events plan.options xs) start after → AreCutOff (item_events plan.options ys) start after
reads_as plan xs ys start after e off = subst (λ (l : List Item). AreCutOff (item_events plan.options l) start after) e off

pub reads_on : {X E : Type 0} (old new : DecoderState) (more : List ℕ) (answer : List Item) (before after : Output)
    (result : Result X E) → new.parser.place ≡ old.parser.place + length more → new.parser.finished ≡ false
    → ((b : List ℕ) → Leads b old.parser → items (b ++ more) ≡ items b ++ answer)
    → ((b : List ℕ) → Leads b old.parser → Leads (b ++ more) new.parser)
    → ReportsOn old.reporter answer before result new.reporter after → ReadsOn old more before result new after
reads_on old new more answer before after (Ok x) place running law leads on = record {
  place = place;
  running = running;
  read = λ plan bytes start has. record {
    parser = leads bytes has.parser;
    reported = has_reported_same plan new.reporter (items bytes ++ answer) (items (bytes ++ more)) start after
        (sym (law bytes has.parser)) (on.reported plan (items bytes) start has.reported);
  };
  cut = tt;
}
reads_on old new more answer before after (Err f) place running law leads on = record {
  place = tt;
  running = tt;
  read = tt;
  cut = λ plan bytes start has. reads_as plan (items bytes ++ answer) (items (bytes ++ more)) start after
      (sym (law bytes has.parser)) (on.cut plan (items bytes) start has.reported);
}

pub reads_to_end : {X E : Type 0} (old new : DecoderState) (answer : List Item) (before after : Output)
    (result : Result X E) → ((b : List ℕ) → Leads b old.parser → closed_items b ≡ items b ++ answer)
    → ReportsOn old.reporter answer before result new.reporter after → ReadsToEnd old before result new after
reads_to_end old new answer before after (Ok x) law on = record {
  reported = λ plan bytes start has.
      has_reported_same plan new.reporter (items bytes ++ answer) (closed_items bytes) start after
      (sym (law bytes has.parser)) (on.reported plan (items bytes) start has.reported);
  cut = tt;
}
reads_to_end old new answer before after (Err f) law on = record {
  reported = tt;
  cut = λ plan bytes start has. reads_as plan (items bytes ++ answer) (closed_items bytes) start after
      (sym (law bytes has.parser)) (on.cut plan (items bytes) start has.reported);
}

pub has_read_same : (plan : Plan) (decoder : DecoderState) (xs ys : List ℕ) (start now : Output) → xs ≡ ys
    → HasRead plan decoder xs start now → HasRead plan decoder ys start now
has_read_same plan decoder xs ys start now e has =
    subst (λ (l : List ℕ). HasRead plan decoder l start now) e has

-- bytes at which the sink failed, among more: a law of reading says which items these add
pub cut_by_bytes : (plan : Plan) (front rest whole : List ℕ) (others : List Item) (start after : Output)
    → front ++ rest ≡ whole → items (front ++ rest) ≡ items front ++ others
    → AreCutOff (item_events plan.options (items front)) start after
    → AreCutOff (item_events plan.options (items whole)) start after
cut_by_bytes plan front rest whole others start after is law off =
    cut_longer plan (items front) others (items whole) start after (sym law ∙ ap items is) off

-- a decoder before the first byte
pub HasRead-none : (plan : Plan) (decoder : DecoderState) (start : Output) → Leads [] decoder.parser
    → Stands plan decoder.reporter [] → HasRead plan decoder [] start start
unfolding reading_within
HasRead-none plan decoder start leads stands =
    record { parser = leads; reported = HasReported-none plan decoder.reporter start stands }
