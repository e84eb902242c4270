-- What stands after a page and the edits of a script or a drawing, if one was asked for.
use Rattle.std.proofs.Common.{◌≡◌, ℕ, Bool, true, false, cond, List, []}
use Rattle.std.proofs.Common.{Some, None, Result, Ok, Err, refl, sym, ◌∙◌, ap, subst}
use Rattle.cept_codes.specs.declared.command.Command.{Command}
use Rattle.cept_codes.specs.declared.item.Item.{Item}
use Rattle.cept_editor.specs.Events.{Event}
use Rattle.cept_editor.specs.Kept.{none_kept, EditorState, StandsAfter}
use Rattle.cept_editor.specs.Made.{Output, output_of, AreMade, AreCutOff}
use Rattle.cept_editor.specs.Script.{EditLine}
use Rattle.cept_editor.proofs.Laws.{AreMade-append, AreCutOff-after, StandsAfter-start}
use Rattle.cept_outside.specs.SinkState.{SinkState, Gains}
use Rattle.cept_outside.proofs.Laws.{Gains-nil}
use Rattle.cept_plot.specs.declared.figure.Figure.{Figure}
use Rattle.cept_profile.specs.State.{State, state}
use Rattle.cept_profile.specs.Valid.{AllValid}
use Rattle.cept_run.specs.declared.target.Target.TheVariants as targets
use Rattle.cept_repaint.specs.GlassState.{GlassState}
use Rattle.cept_run.specs.Events.{history, item_events, script_events}
use Rattle.cept_run.specs.Events.{Sequel, NoSequel, Edits, Figures, sequel_events, remaining_after}
use Rattle.cept_run.specs.Reporting.{Plan, edited_events, sequel_of, ReporterState, painted_target, target_at, screen_of}
use Rattle.cept_run.specs.Reporting.{HasReported, HasMadeLines, MakesLines, remaining_at_end, HasEdited, EditsOn, HasDrawn, Draws}
use Rattle.cept_run.specs.Words.{is_painted}
use Rattle.cept_run.proofs.EditedLines.{edited_events-none}
use Rattle.cept_run.proofs.ReportedItems.{screen_painted, editor_painted, drawing_painted, not_idle}
use Rattle.cept_run.proofs.SilentEvents.{silent_drawing}

-- ---- what is asked for, by what commands are applied to

module _ (plan : Plan) (h : List Command) where
  nothing_asked : targets.Nothing ≡ target_at plan h → is_painted plan.options.way ≡ false
  nothing_asked e = by_flag (is_painted plan.options.way) e
    where
      by_flag : (b : Bool) → targets.Nothing ≡ cond b (painted_target plan.sequel h) targets.Nothing → b ≡ false
      by_flag true f = absurd (not_idle plan.sequel h f)
      by_flag false f = refl

  unasked : targets.Nothing ≡ target_at plan h → sequel_of plan ≡ NoSequel
  unasked e = ap (λ b. cond b (plan.sequel) NoSequel) (nothing_asked e)

  alone : (screen : State) → targets.Screen screen ≡ target_at plan h → sequel_of plan ≡ NoSequel
  alone screen e = by_flag (is_painted plan.options.way) e
    where
      by_flag : (b : Bool) → targets.Screen screen ≡ cond b (painted_target plan.sequel h) targets.Nothing
          → cond b (plan.sequel) NoSequel ≡ NoSequel
      by_flag true f = (screen_painted plan.sequel screen h f).0
      by_flag false f = refl

  with_editor : (editor : EditorState) (lines : List EditLine) → targets.Editor editor lines ≡ target_at plan h
      → (is_painted plan.options.way ≡ true) × (sequel_of plan ≡ Edits lines)
      × (editor ≡ record { screen = state h; past = []; future = [] })
  with_editor editor lines e = by_flag (is_painted plan.options.way) refl e
    where
      by_flag : (b : Bool) → is_painted plan.options.way ≡ b
          → targets.Editor editor lines ≡ cond b (painted_target plan.sequel h) targets.Nothing
          → (is_painted plan.options.way ≡ true) × (sequel_of plan ≡ Edits lines)
          × (editor ≡ record { screen = state h; past = []; future = [] })
      by_flag true is f =
          let there = editor_painted plan.sequel editor lines h f in
          (is, ap (λ c. cond c (plan.sequel) NoSequel) is ∙ there.0, there.1)
      by_flag false is f = cc

  with_drawing : (screen : State) (figures : List Figure) → targets.Drawing screen figures ≡ target_at plan h
      → (is_painted plan.options.way ≡ true) × (sequel_of plan ≡ Figures figures) × (screen ≡ state h)
  with_drawing screen figures e = by_flag (is_painted plan.options.way) refl e
    where
      by_flag : (b : Bool) → is_painted plan.options.way ≡ b
          → targets.Drawing screen figures ≡ cond b (painted_target plan.sequel h) targets.Nothing
          → (is_painted plan.options.way ≡ true) × (sequel_of plan ≡ Figures figures) × (screen ≡ state h)
      by_flag true is f =
          let there = drawing_painted plan.sequel screen figures h f in
          (is, ap (λ c. cond c (plan.sequel) NoSequel) is ∙ there.0, there.1)
      by_flag false is f = cc

  screen_there : screen_of (target_at plan h) ≡ cond (is_painted plan.options.way) (Some (state h)) None
  screen_there = by_flag (is_painted plan.options.way)
    where
      on_painted : (sequel : Sequel) → screen_of (painted_target sequel h) ≡ Some (state h)
      on_painted NoSequel = refl
      on_painted (Edits lines) = refl
      on_painted (Figures figures) = refl

      by_flag : (b : Bool) → screen_of (cond b (painted_target plan.sequel h) targets.Nothing) ≡ cond b (Some (state h)) None
      by_flag true = on_painted plan.sequel
      by_flag false = refl

-- ---- no edits are made

pub unedited : (plan : Plan) (reporter : ReporterState) (reported : List Item) (start now : Output)
    → sequel_of plan ≡ NoSequel → HasReported plan reporter reported start now
    → HasEdited plan reporter reported start now
unedited plan reporter reported start now none has =
    let h = history plan.options reported in
    let same : h ≡ remaining_at_end plan reported =
    sym (ap (remaining_after h) none) in
    record {
      stands = record {
        options_are = has.stands.options_are;
        screen = ap screen_of has.stands.target ∙ screen_there plan h
            ∙ ap (λ (c : List Command). cond (is_painted plan.options.way) (Some (state c)) None) same;
        items = has.stands.items;
        refused = has.stands.refused;
        painted = has.stands.painted;
      };
      valid = subst AllValid same has.stands.valid;
      made = subst (λ (es : List Event). AreMade es start now)
          (sym (ap (edited_events plan.options reported) none ∙ edited_events-none plan.options reported)) has.made;
      stays = has.stays;
    }

pub edits_nowhere : {X E : Type 0} {x : X} (old : ReporterState) (o : Output) (none : old.target ≡ targets.Nothing)
    → EditsOn {E = E} old o (Ok x) old o
edits_nowhere old o none = record {
  counted = refl;
  edited = λ plan reported start has.
      unedited plan old reported start o (unasked plan (history plan.options reported) (sym none ∙ has.stands.target)) has;
  cut = tt;
}

pub edits_unasked : {X E : Type 0} {x : X} (old : ReporterState) (o : Output) (screen : State)
    (is : old.target ≡ targets.Screen screen) → EditsOn {E = E} old o (Ok x) old o
edits_unasked old o screen is = record {
  counted = refl;
  edited = λ plan reported start has.
      unedited plan old reported start o (alone plan (history plan.options reported) screen (sym is ∙ has.stands.target))
      has;
  cut = tt;
}

-- ---- edits are made

-- the reporter, with the editor after them
abbrev pub with_editor_after : ReporterState → EditorState → List EditLine → ReporterState
with_editor_after old editor lines = record {
  options = old.options;
  target = targets.Editor editor lines;
  items = old.items;
  refused = old.refused;
  painted = old.painted;
}

module _ (old : ReporterState) (editor new : EditorState) (lines : List EditLine) (before after : Output)
    (at : old.target ≡ targets.Editor editor lines) (plan : Plan) (reported : List Item) (start : Output)
    (has : HasReported plan old reported start before) where
  abbrev page : List Command
  page = history plan.options reported

  abbrev there : (is_painted plan.options.way ≡ true) × (sequel_of plan ≡ Edits lines)
      × (editor ≡ record { screen = state page; past = []; future = [] })
  there = with_editor plan page editor lines (sym at ∙ has.stands.target)

  flag_is : old.options.edits_listed ≡ plan.options.edits_listed
  flag_is = ap (λ a. a.edits_listed) has.stands.options_are

  stands_alone : StandsAfter editor page none_kept
  stands_alone = StandsAfter-start editor page has.stands.valid (ap (λ (e : EditorState). e.screen) there.2)
      (ap (λ (e : EditorState). e.past) there.2) (ap (λ (e : EditorState). e.future) there.2)

  all_made : HasMadeLines old.options.edits_listed page lines new before after
      → HasEdited plan (with_editor_after old new lines) reported start after
  all_made made =
      let is : Edits lines ≡ sequel_of plan = sym there.1 in
      let end : AreMade (sequel_events plan.options.edits_listed page (sequel_of plan)) before after =
      subst (λ (s : Sequel). AreMade (sequel_events plan.options.edits_listed page s) before after) is
      (subst (λ b. AreMade (script_events b page lines) before after) flag_is made.made) in
      record {
        stands = record {
          options_are = has.stands.options_are;
          screen = ap (λ (e : EditorState). Some e.screen) made.stands.is
              ∙ ap (λ (s : Sequel). Some (state (remaining_after page s))) is
              ∙ ap (λ b. cond b (Some (state (remaining_at_end plan reported))) None) (sym there.0);
          items = has.stands.items;
          refused = has.stands.refused;
          painted = has.stands.painted;
        };
        valid = subst (λ (s : Sequel). AllValid (remaining_after page s)) is made.stands.valid;
        made = AreMade-append (item_events plan.options reported)
            (sequel_events plan.options.edits_listed page (sequel_of plan)) start before after has.made end;
        stays = made.stays ∙ has.stays;
      }

  one_cut : AreCutOff (script_events old.options.edits_listed page lines) before after
      → AreCutOff (edited_events plan.options reported (sequel_of plan)) start after
  one_cut off =
      AreCutOff-after (item_events plan.options reported) (sequel_events plan.options.edits_listed page (sequel_of plan)) start
      before after has.made has.stays
      (subst (λ (s : Sequel). AreCutOff (sequel_events plan.options.edits_listed page s) before after) (sym there.1)
      (subst (λ b. AreCutOff (script_events b page lines) before after) flag_is off))

pub edits_made : {X E : Type 0} (old : ReporterState) (editor new : EditorState) (lines : List EditLine)
    (before after : Output) (result : Result X E) → old.target ≡ targets.Editor editor lines
    → MakesLines {X = X} {E = E} old.options.edits_listed lines editor before result new after
    → EditsOn old before result (with_editor_after old new lines) after
edits_made old editor new lines before after (Ok x) at makes = record {
  counted = refl;
  edited = λ plan reported start has. all_made old editor new lines before after at plan reported start has
      (makes.made (history plan.options reported) (stands_alone old editor new lines before after at plan reported start has));
  cut = tt;
}
edits_made old editor new lines before after (Err f) at makes = record {
  counted = refl;
  edited = tt;
  cut = λ plan reported start has. one_cut old editor new lines before after at plan reported start has
      (makes.cut (history plan.options reported) (stands_alone old editor new lines before after at plan reported start has));
}

-- ---- a drawing is drawn

-- the reporter, with the screen after it
abbrev pub with_drawing_after : ReporterState → State → List Figure → ReporterState
with_drawing_after old screen figures = record {
  options = old.options;
  target = targets.Drawing screen figures;
  items = old.items;
  refused = old.refused;
  painted = old.painted;
}

pub drawing_made : {X E : Type 0} {x : X} (old : ReporterState) (screen new : State) (figures : List Figure)
    (sink : SinkState) (before after : GlassState) → old.target ≡ targets.Drawing screen figures
    → Draws figures screen before new after
    → EditsOn {E = E} old (output_of sink before) (Ok x) (with_drawing_after old new figures) (output_of sink after)
drawing_made old screen new figures sink before after at draws = record {
  counted = refl;
  edited = drawn_after;
  cut = tt;
}
  where
    drawn_after : (plan : Plan) (reported : List Item) (start : Output)
        → HasReported plan old reported start (output_of sink before)
        → HasEdited plan (with_drawing_after old new figures) reported start (output_of sink after)
    drawn_after plan reported start has =
        let page = history plan.options reported in
        let there = with_drawing plan page screen figures (sym at ∙ has.stands.target) in
        let drawn : HasDrawn page figures before new after = draws page has.stands.valid there.2 in
        let is : Figures figures ≡ sequel_of plan = sym there.1 in
        let listed = plan.options.edits_listed in
        let own : AreMade (sequel_events listed page (Figures figures)) (output_of sink before) (output_of sink after) =
        record {
          put = subst (λ (t : List ℕ). Gains sink t sink) (sym (silent_drawing listed page figures)) (Gains-nil sink);
          painted = drawn.painted;
        } in
        record {
          stands = record {
            options_are = has.stands.options_are;
            screen = ap (λ (s : State). Some s) drawn.is ∙ ap (λ (s : Sequel). Some (state (remaining_after page s))) is
                ∙ ap (λ b. cond b (Some (state (remaining_at_end plan reported))) None) (sym there.0);
            items = has.stands.items;
            refused = has.stands.refused;
            painted = has.stands.painted;
          };
          valid = subst (λ (s : Sequel). AllValid (remaining_after page s)) is drawn.valid;
          made = AreMade-append (item_events plan.options reported) (sequel_events listed page (sequel_of plan)) start
              (output_of sink before) (output_of sink after) has.made
              (subst (λ (s : Sequel). AreMade (sequel_events listed page s) (output_of sink before) (output_of sink after))
              is own);
          stays = has.stays;
        }
