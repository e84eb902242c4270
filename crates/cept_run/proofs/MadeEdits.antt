-- How a reporter stands after one edit line more.
use Rattle.std.proofs.Common.{◌≡◌, ℕ, ◌==◌, Bool, true, cond, List, [], ◌∷◌, ◌++◌, length, map, Result, Ok, Err, refl, sym}
use Rattle.std.proofs.Common.{ap, ◌∙◌, subst, arith, OnOk, OnErr}
use Rattle.std.proofs.lemmas.List.{length-map}
use Rattle.std.proofs.lemmas.List.FromFn.{length-range_with_len}
use Rattle.std.specs.List.{range_with_len}
use Rattle.cept_codes.specs.declared.command.Command.{Command}
use Rattle.cept_editor.specs.declared.editor.Done.{Done}
use Rattle.cept_editor.specs.declared.editor.Done.TheVariants as answers
use Rattle.cept_editor.specs.Events.{Event}
use Rattle.cept_editor.specs.Kept.{KeptEdits, none_kept, finds_nothing, kept_after_undo_redo, kept_after, remaining}
use Rattle.cept_editor.specs.Kept.{states_before, state_before_last, states_again, state_after_first, EditorState}
use Rattle.cept_editor.specs.Kept.{editor_after, StandsAfter}
use Rattle.cept_editor.specs.Made.{Output, output_of, IsMade, AreMade, AreCutOff}
use Rattle.cept_editor.specs.declared.undo_redo.UndoRedo.{UndoRedo as UndoRedoKind}
use Rattle.cept_editor.specs.declared.undo_redo.UndoRedo.TheVariants.{Undo, Redo}
use Rattle.cept_editor.specs.Meaning.{UndoRedo}
use Rattle.cept_editor.specs.Script.{EditLine}
use Rattle.cept_editor.specs.Stepping.{event_from, line_events, states_ahead, GoesOn}
use Rattle.cept_editor.proofs.Laws.{AreMade-none, AreMade-more, AreCutOff-here, AreMade-append, AreCutOff-after}
use Rattle.cept_editor.proofs.Laws.{AreCutOff-longer, ArePainted-still}
use Rattle.cept_profile.specs.State.{State}
use Rattle.cept_outside.specs.Causes.{HasCause}
use Rattle.cept_outside.specs.SinkState.{SinkState, PutsText}
use Rattle.cept_report.specs.Text.{nothing_line}
use Rattle.cept_run.specs.Events.{script_events, kept_of}
use Rattle.cept_run.specs.Reporting.{HasMadeLines}
use Rattle.cept_run.proofs.EditedLines.{nothing_event, events_of_line, kept_of-none, kept_of-more}
use Rattle.cept_run.proofs.EditedLines.{script_events-append, script_events-none, script_events-more}

-- ---- one edit line

-- an edit line is made after whatever page and kept edits an editor stands: exactly its events are made, or the sink
-- failed at one
pub record MakesLine {X E : Type 0} (listed : Bool) (edit : EditLine) (old : EditorState) (before : Output)
    (result : Result X E) (new : EditorState) (after : Output) : Type 0 where
  pub stands : OnOk result ((page : List Command) (k : KeptEdits) → StandsAfter old page k
      → StandsAfter new page (kept_after k edit.step))
  pub made : OnOk result ((page : List Command) (k : KeptEdits) → StandsAfter old page k
      → AreMade (line_events listed edit.line page k edit.step) before after)
  pub stays : OnOk result (after.sink.faults ≡ before.sink.faults)
  pub cut : OnErr result ((page : List Command) (k : KeptEdits) → StandsAfter old page k
      → AreCutOff (line_events listed edit.line page k edit.step) before after)

-- where no state lies ahead, undo and redo find nothing
none_listed : (f : ℕ → State) (n : ℕ) → map f (range_with_len 0 n) ≡ [] → (n == 0) ≡ true
none_listed f n none =
    let e : length (map f (range_with_len 0 n)) ≡ 0 = ap length none in
    let no : n ≡ 0 = omega (arith, length-map (range_with_len 0 n) f, length-range_with_len 0 n, e) in
    ap (λ k. k == 0) no

none_found : (page : List Command) (k : KeptEdits) (which : UndoRedoKind) → states_ahead (editor_after page k) which ≡ []
    → finds_nothing which k ≡ true
unfolding states_before states_again
none_found page k Undo none = none_listed (state_before_last page k) k.count none
none_found page k Redo none = none_listed (state_after_first page k) (length k.undone) none

-- then it is one event that changes nothing, and leaves the kept edits
nothing_events : (listed : Bool) (line : ℕ) (page : List Command) (k : KeptEdits) (which : UndoRedoKind)
    → finds_nothing which k ≡ true
    → line_events listed line page k (UndoRedo which) ≡ nothing_event listed line (remaining page k) ∷ []
nothing_events listed line page k which none =
    ap (λ b. cond b (nothing_event listed line (remaining page k))
    (event_from listed line (remaining page k) (remaining page (kept_after k (UndoRedo which)))) ∷ []) none

nothing_kept : (k : KeptEdits) (which : UndoRedoKind) → finds_nothing which k ≡ true → kept_after k (UndoRedo which) ≡ k
nothing_kept k which none = ap (λ b. cond b k (kept_after_undo_redo k which)) none

-- the events were made
pub line_done : {E : Type 0} (listed : Bool) (edit : EditLine) (old new : EditorState) (before after : Output)
    (x : Unit {0}) → GoesOn {E = E} listed edit.line edit.step old before (Ok answers.Done) new after
    → HasCause {X = Done} {E = E} before.sink.faults after.sink.faults (Ok answers.Done)
    → MakesLine {E = E} listed edit old before (Ok x) new after
line_done listed edit old new before after x on cause = record {
  stands = on.stands;
  made = on.made refl;
  stays = cause.stays;
  cut = tt;
}

-- the sink failed at one of them
pub line_cut : {X E : Type 0} {f g : E} (listed : Bool) (edit : EditLine) (old new : EditorState)
    (before after : Output) → GoesOn {E = E} listed edit.line edit.step old before (Err f) new after
    → MakesLine {X = X} {E = E} listed edit old before (Err g) new after
line_cut listed edit old new before after on = record {
  stands = tt;
  made = tt;
  stays = tt;
  cut = λ page k stands. (on.cut page k stands).cut;
}

-- it was an undo or a redo that found nothing, and its line was put, or not
module _ {F : Type 0} (listed : Bool) (edit : EditLine) (old new : EditorState) (before after : Output)
    (now : SinkState)
    (on : GoesOn {E = F} listed edit.line edit.step old before (Ok answers.Nothing) new after) where
  module _ (page : List Command) (k : KeptEdits) (stands : StandsAfter old page k) where
    abbrev which : UndoRedoKind
    which = (on.nothing.0 refl).0

    found : finds_nothing which k ≡ true
    found = none_found page k which
        (sym (ap (λ (e : EditorState). states_ahead e which) stands.is) ∙ (on.nothing.0 refl).2)

    events : line_events listed edit.line page k edit.step ≡ nothing_event listed edit.line (remaining page k) ∷ []
    events = ap (line_events listed edit.line page k) (on.nothing.0 refl).1
        ∙ nothing_events listed edit.line page k which found

    kept_is : kept_after k edit.step ≡ k
    kept_is = ap (kept_after k) (on.nothing.0 refl).1 ∙ nothing_kept k which found

    still_stands : StandsAfter new page (kept_after k edit.step)
    still_stands = subst (λ (l : KeptEdits). StandsAfter new page l) (sym kept_is)
        (subst (λ (e : EditorState). StandsAfter e page k) (sym (on.idle refl).0) stands)

    event_made : {X E : Type 0} (result : Result X E)
        → PutsText before.sink (nothing_event listed edit.line (remaining page k)).text result now
        → IsMade (nothing_event listed edit.line (remaining page k)) before result (output_of now before.glass)
    event_made result puts = record {
      puts = puts;
      painted = ArePainted-still (nothing_event listed edit.line (remaining page k)) before.glass refl;
    }

  put_nothing : {X E : Type 0} (result : Result X E)
      → PutsText before.sink (cond listed (nothing_line edit.line) []) result now
      → MakesLine listed edit old before result new (output_of now before.glass)
  put_nothing (Ok x) puts = record {
    stands = still_stands;
    made = λ page k stands.
        subst (λ (es : List Event). AreMade es before (output_of now before.glass)) (sym (events page k stands))
        (AreMade-more [] (nothing_event listed edit.line (remaining page k)) before before (output_of now before.glass)
        (AreMade-none before) (event_made page k stands (Ok x) puts));
    stays = puts.cause.stays;
    cut = tt;
  }
  put_nothing (Err f) puts = record {
    stands = tt;
    made = tt;
    stays = tt;
    cut = λ page k stands.
        subst (λ (es : List Event). AreCutOff es before (output_of now before.glass)) (sym (events page k stands))
        (AreCutOff-here [] (nothing_event listed edit.line (remaining page k)) before before
        (output_of now before.glass) (AreMade-none before) refl (event_made page k stands (Err f) puts));
  }

  pub line_nothing : {X E : Type 0} (result : Result X E)
      → PutsText after.sink (cond listed (nothing_line edit.line) []) result now
      → MakesLine listed edit old before result new (output_of now after.glass)
  line_nothing result puts =
      let same = (on.idle refl).1 in
      subst (λ (o : Output). MakesLine listed edit old before result new (output_of now o.glass)) (sym same)
      (put_nothing result (subst (λ (o : Output). PutsText o.sink (cond listed (nothing_line edit.line) []) result now)
      same puts))

-- ---- several edit lines

-- what fills the unused room of a script
abbrev pub spare_line : EditLine
spare_line = record { line = 0; step = UndoRedo Undo }

-- none was made
pub HasMadeLines-none : (listed : Bool) (page : List Command) (editor : EditorState) (o : Output)
    → StandsAfter editor page none_kept → HasMadeLines listed page [] editor o o
HasMadeLines-none listed page editor o stands = record {
  stands = subst (λ (k : KeptEdits). StandsAfter editor page k) (sym kept_of-none) stands;
  made = subst (λ (es : List Event). AreMade es o o) (sym (script_events-none listed page)) (AreMade-none o);
  stays = refl;
}

-- one more was made
pub HasMadeLines-more : {X E : Type 0} (listed : Bool) (page : List Command) (lines : List EditLine) (edit : EditLine)
    (old new : EditorState) (start before after : Output) (x : X) → HasMadeLines listed page lines old start before
    → MakesLine {X = X} {E = E} listed edit old before (Ok x) new after
    → HasMadeLines listed page (lines ++ edit ∷ []) new start after
HasMadeLines-more listed page lines edit old new start before after x has makes = record {
  stands = subst (λ (k : KeptEdits). StandsAfter new page k) (sym (kept_of-more lines edit))
      (makes.stands page (kept_of lines) has.stands);
  made = subst (λ (es : List Event). AreMade es start after) (sym (script_events-more listed page lines edit))
      (AreMade-append (script_events listed page lines) (events_of_line listed page lines edit) start before after
      has.made (makes.made page (kept_of lines) has.stands));
  stays = makes.stays ∙ has.stays;
}

-- or the sink failed at it
pub made_cut : {X E : Type 0} {f : E} (listed : Bool) (page : List Command) (lines rest whole : List EditLine)
    (edit : EditLine) (old new : EditorState) (start before after : Output) → (lines ++ edit ∷ []) ++ rest ≡ whole
    → HasMadeLines listed page lines old start before → MakesLine {X = X} {E = E} listed edit old before (Err f) new after
    → AreCutOff (script_events listed page whole) start after
made_cut listed page lines rest whole edit old new start before after is has makes =
    let more = script_events-append listed page (lines ++ edit ∷ []) rest in
    AreCutOff-longer (script_events listed page (lines ++ edit ∷ [])) more.0 (script_events listed page whole) start after
    (ap (script_events listed page) (sym is) ∙ more.1)
    (subst (λ (es : List Event). AreCutOff es start after) (sym (script_events-more listed page lines edit))
    (AreCutOff-after (script_events listed page lines) (events_of_line listed page lines edit) start before after
    has.made has.stays (makes.cut page (kept_of lines) has.stands)))

-- the sink failed at an edit line
pub made_stopped : {E : Type 0} {f : E} (listed : Bool) (page : List Command) (lines rest whole : List EditLine)
    (edit : EditLine) (old new : EditorState) (start before after : Output) → (lines ++ edit ∷ []) ++ rest ≡ whole
    → HasMadeLines listed page lines old start before
    → GoesOn {E = E} listed edit.line edit.step old before (Err f) new after
    → AreCutOff (script_events listed page whole) start after
made_stopped {E} {f} listed page lines rest whole edit old new start before after is has on =
    made_cut {X = Unit {0}} {E = E} {f = f} listed page lines rest whole edit old new start before after is has
    (line_cut {X = Unit {0}} {E = E} {f = f} {g = f} listed edit old new before after on)

pub has_made_same : (listed : Bool) (page : List Command) (xs ys : List EditLine) (editor : EditorState)
    (start now : Output) → xs ≡ ys → HasMadeLines listed page xs editor start now → HasMadeLines listed page ys editor start now
has_made_same listed page xs ys editor start now e has =
    subst (λ (l : List EditLine). HasMadeLines listed page l editor start now) e has
