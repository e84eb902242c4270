-- The events of edit lines, of one line more, and of a drawing, and what they lead to.
use Rattle.std.proofs.Common.{◌≡◌, ℕ, ◌+◌, Bool, true, false, cond, List, [], ◌∷◌, ◌++◌, length, map, take}
use Rattle.std.proofs.Common.{refl, sym, ap, ◌∙◌, subst, append_assoc, append-nil, length-append, arith}
use Rattle.std.proofs.lemmas.List.{map-append, take_all}
use Rattle.std.proofs.Math.Seq.{take-append_seam}
use Rattle.std.proofs.lemmas.Grind.{flat_map-append}
use Rattle.std.specs.List.{enumerate_from, flat_map}
use Rattle.std.specs.Prelude.{if◌then◌else◌}
use Rattle.cept_codes.specs.declared.command.Command.{Command}
use Rattle.cept_codes.specs.declared.item.Item.{Item}
use Rattle.cept_editor.specs.Events.{Event, still_event}
use Rattle.cept_editor.specs.Kept.{KeptEdits, none_kept, kept, finds_nothing, kept_after, kept_after_undo_redo, remaining}
use Rattle.cept_editor.specs.Kept.{commands_of_edits}
use Rattle.cept_editor.specs.Meaning.{Step, UndoRedo, Edit}
use Rattle.cept_editor.specs.Script.{EditLine}
use Rattle.cept_editor.specs.Stepping.{event_from, edit_events, line_events}
use Rattle.cept_editor.proofs.Laws.{kept-none, kept-more, remaining-none}
use Rattle.cept_report.specs.Text.{nothing_line}
use Rattle.cept_run.specs.declared.words.ReportOptions.{ReportOptions}
use Rattle.cept_run.specs.Events.{history, item_events, kept_of, script_events}
use Rattle.cept_run.specs.Events.{Sequel, NoSequel, Edits, Figures, drawing_commands, sequel_events, remaining_after}
use Rattle.cept_run.specs.Reporting.{edited_events}
use Rattle.cept_run.proofs.PaintedItems.{AreChained, chained-append, item_events-chained}

-- an undo or a redo that finds nothing
abbrev pub nothing_event : Bool → ℕ → List Command → Event
nothing_event listed line commands = still_event commands (if listed then nothing_line line else [])

-- the events of an edit line that comes after these, after a page's commands
abbrev pub events_of_line : Bool → List Command → List EditLine → EditLine → List Event
events_of_line listed page earlier line = line_events listed line.line page (kept_of earlier) line.step

-- ---- kept edits

pub kept_of-none : kept_of [] ≡ none_kept
kept_of-none = kept-none

pub kept_of-more : (lines : List EditLine) (line : EditLine)
    → kept_of (lines ++ line ∷ []) ≡ kept_after (kept_of lines) line.step
kept_of-more lines line =
    ap kept (map-append (λ (l : EditLine). l.step) lines (line ∷ []))
    ∙ kept-more (map (λ (l : EditLine). l.step) lines) line.step

-- ---- lines that come after others

unfoldable pub lines_after : Bool → List Command → List EditLine → List EditLine → List Event
lines_after listed page earlier [] = []
lines_after listed page earlier (l ∷ ls) =
    events_of_line listed page earlier l ++ lines_after listed page (earlier ++ l ∷ []) ls

numbered_after : (listed : Bool) (page : List Command) (earlier lines whole : List EditLine) (n : ℕ)
    → whole ≡ earlier ++ lines → n ≡ length earlier
    → flat_map (λ (numbered : ℕ × EditLine). events_of_line listed page (take numbered.0 whole) numbered.1)
    (enumerate_from n lines) ≡ lines_after listed page earlier lines
unfolding lines_after
numbered_after listed page earlier [] whole n is counted = refl
numbered_after listed page earlier (l ∷ ls) whole n e counted =
    let front : take n whole ≡ earlier =
    ap (λ k. take k whole) counted ∙ ap (take (length earlier)) e ∙ take-append_seam earlier (l ∷ ls) in
    ap (λ (xs : List EditLine). events_of_line listed page xs l ++ flat_map (λ (numbered : ℕ × EditLine). events_of_line
    listed page (take numbered.0 whole) numbered.1) (enumerate_from (n + 1) ls)) front
    ∙ ap (λ (es : List Event). events_of_line listed page earlier l ++ es)
    (numbered_after listed page (earlier ++ l ∷ []) ls whole (n + 1) (e ∙ sym (append_assoc earlier (l ∷ []) ls))
    (ap (λ k. k + 1) counted ∙ sym (length-append earlier (l ∷ []))))

pub script_events-after : (listed : Bool) (page : List Command) (lines : List EditLine)
    → script_events listed page lines ≡ lines_after listed page [] lines
unfolding script_events
script_events-after listed page lines = numbered_after listed page [] lines lines 0 refl refl

lines_after-append : (listed : Bool) (page : List Command) (earlier xs ys : List EditLine)
    → lines_after listed page earlier (xs ++ ys)
    ≡ lines_after listed page earlier xs ++ lines_after listed page (earlier ++ xs) ys
unfolding lines_after
lines_after-append listed page earlier [] ys =
    ap (λ (e : List EditLine). lines_after listed page e ys) (sym (append-nil earlier))
lines_after-append listed page earlier (x ∷ xs) ys =
    ap (λ (es : List Event). events_of_line listed page earlier x ++ es)
    (lines_after-append listed page (earlier ++ x ∷ []) xs ys
    ∙ ap (λ (e : List EditLine). lines_after listed page (earlier ++ x ∷ []) xs ++ lines_after listed page e ys)
    (append_assoc earlier (x ∷ []) xs))
    ∙ sym (append_assoc (events_of_line listed page earlier x) (lines_after listed page (earlier ++ x ∷ []) xs)
    (lines_after listed page (earlier ++ x ∷ xs) ys))

lines_after-one : (listed : Bool) (page : List Command) (earlier : List EditLine) (l : EditLine)
    → lines_after listed page earlier (l ∷ []) ≡ events_of_line listed page earlier l
unfolding lines_after
lines_after-one listed page earlier l = append-nil (events_of_line listed page earlier l)

-- the events of lines, and then those of others after them
pub script_events-append : (listed : Bool) (page : List Command) (xs ys : List EditLine)
    → (more : List Event) × (script_events listed page (xs ++ ys) ≡ script_events listed page xs ++ more)
script_events-append listed page xs ys = (
  lines_after listed page xs ys,
  script_events-after listed page (xs ++ ys) ∙ lines_after-append listed page [] xs ys
      ∙ ap (λ (es : List Event). es ++ lines_after listed page xs ys) (sym (script_events-after listed page xs)),
)

-- one line more
pub script_events-more : (listed : Bool) (page : List Command) (lines : List EditLine) (line : EditLine)
    → script_events listed page (lines ++ line ∷ [])
    ≡ script_events listed page lines ++ events_of_line listed page lines line
script_events-more listed page lines line =
    script_events-after listed page (lines ++ line ∷ []) ∙ lines_after-append listed page [] lines (line ∷ [])
    ∙ ap (λ (es : List Event). es ++ lines_after listed page lines (line ∷ []))
    (sym (script_events-after listed page lines))
    ∙ ap (λ (es : List Event). script_events listed page lines ++ es) (lines_after-one listed page lines line)

pub script_events-none : (listed : Bool) (page : List Command) → script_events listed page [] ≡ []
unfolding script_events
script_events-none listed page = refl

pub edited_events-none : (options : ReportOptions) (items : List Item)
    → edited_events options items NoSequel ≡ item_events options items
edited_events-none options items = append-nil (item_events options items)

-- ---- what they lead to

commands_of_edits-more : (edits : List (List Command)) (commands : List Command)
    → commands_of_edits (edits ++ commands ∷ []) ≡ commands_of_edits edits ++ commands
unfolding commands_of_edits
commands_of_edits-more edits commands =
    flat_map-append (λ (c : List Command). c) edits (commands ∷ [])
    ∙ ap (λ l. flat_map (λ (c : List Command). c) edits ++ l) (append-nil commands)

-- an edit's commands come after those that remain
remaining-edit : (page : List Command) (k : KeptEdits) (commands : List Command)
    → remaining page k ++ commands ≡ remaining page (kept_after k (Edit commands))
remaining-edit page k commands =
    append_assoc page (commands_of_edits k.edits) commands
    ∙ ap (λ l. page ++ l) (sym (commands_of_edits-more k.edits commands))

-- the commands of an edit from the n-th on
commands_chained : (listed : Bool) (line n : ℕ) (earlier whole rest : List Command)
    → AreChained (earlier ++ take n whole) (map (λ (numbered : ℕ × Command). event_from listed line (earlier
    ++ take numbered.0 whole) (earlier ++ take (numbered.0 + 1) whole)) (enumerate_from n rest))
    (earlier ++ take (n + length rest) whole)
unfolding AreChained
commands_chained listed line n earlier whole [] =
    let none : n + 0 ≡ n = omega arith in
    ap (λ k. earlier ++ take k whole) none
commands_chained listed line n earlier whole (c ∷ rest) =
    let more : (n + 1) + length rest ≡ n + length (c ∷ rest) = omega arith in (
      refl,
      subst (λ k. AreChained (earlier ++ take (n + 1) whole) (map (λ (numbered : ℕ × Command). event_from listed
          line (earlier ++ take numbered.0 whole) (earlier ++ take (numbered.0 + 1) whole)) (enumerate_from (n + 1) rest))
          (earlier ++ take k whole)) more (commands_chained listed line (n + 1) earlier whole rest),
    )

edit_chained : (listed : Bool) (line : ℕ) (earlier commands : List Command)
    → AreChained earlier (edit_events listed line earlier commands) (earlier ++ commands)
unfolding edit_events
edit_chained listed line earlier commands =
    let from_none : 0 + length commands ≡ length commands = omega arith in
    subst (λ (h : List Command). AreChained h (map (λ (numbered : ℕ × Command). event_from listed line (earlier
    ++ take numbered.0 commands) (earlier ++ take (numbered.0 + 1) commands)) (enumerate_from 0 commands))
    (earlier ++ commands)) (append-nil earlier)
    (subst (λ (h : List Command). AreChained (earlier ++ []) (map (λ (numbered : ℕ × Command). event_from listed line
    (earlier ++ take numbered.0 commands) (earlier ++ take (numbered.0 + 1) commands)) (enumerate_from 0 commands))
    (earlier ++ h)) (ap (λ k. take k commands) from_none ∙ take_all (length commands) commands (omega arith))
    (commands_chained listed line 0 earlier commands commands))

-- an undo or a redo, where it finds something or not
undo_redo_chained : (listed : Bool) (line : ℕ) (page : List Command) (k taken : KeptEdits) (none : Bool)
    → AreChained (remaining page k)
    ((cond none (nothing_event listed line (remaining page k))
    (event_from listed line (remaining page k) (remaining page (cond none k taken)))) ∷ [])
    (remaining page (cond none k taken))
unfolding AreChained
undo_redo_chained listed line page k taken true = (refl, refl)
undo_redo_chained listed line page k taken false = (refl, refl)

pub line_chained : (listed : Bool) (line : ℕ) (page : List Command) (k : KeptEdits) (step : Step)
    → AreChained (remaining page k) (line_events listed line page k step) (remaining page (kept_after k step))
line_chained listed line page k (UndoRedo which) =
    undo_redo_chained listed line page k (kept_after_undo_redo k which) (finds_nothing which k)
line_chained listed line page k (Edit commands) =
    subst (λ (h : List Command). AreChained (remaining page k) (edit_events listed line (remaining page k) commands) h)
    (remaining-edit page k commands) (edit_chained listed line (remaining page k) commands)

lines_chained : (listed : Bool) (page : List Command) (earlier lines : List EditLine)
    → AreChained (remaining page (kept_of earlier)) (lines_after listed page earlier lines)
    (remaining page (kept_of (earlier ++ lines)))
unfolding lines_after AreChained
lines_chained listed page earlier [] = ap (λ (l : List EditLine). remaining page (kept_of l)) (append-nil earlier)
lines_chained listed page earlier (l ∷ ls) =
    let next = remaining page (kept_of (earlier ++ l ∷ [])) in
    let first : AreChained (remaining page (kept_of earlier)) (events_of_line listed page earlier l) next =
    subst (λ (k : KeptEdits). AreChained (remaining page (kept_of earlier)) (events_of_line listed page earlier l)
    (remaining page k)) (sym (kept_of-more earlier l))
    (line_chained listed l.line page (kept_of earlier) l.step) in
    let others : AreChained next (lines_after listed page (earlier ++ l ∷ []) ls)
    (remaining page (kept_of (earlier ++ l ∷ ls))) =
    subst (λ (xs : List EditLine). AreChained next (lines_after listed page (earlier ++ l ∷ []) ls)
    (remaining page (kept_of xs))) (append_assoc earlier (l ∷ []) ls) (lines_chained listed page (earlier ++ l ∷ []) ls) in
    chained-append (remaining page (kept_of earlier)) next (remaining page (kept_of (earlier ++ l ∷ ls)))
    (events_of_line listed page earlier l) (lines_after listed page (earlier ++ l ∷ []) ls) first others

script_events-chained : (listed : Bool) (page : List Command) (lines : List EditLine)
    → AreChained page (script_events listed page lines) (remaining page (kept_of lines))
script_events-chained listed page lines =
    subst (λ (h : List Command). AreChained h (script_events listed page lines) (remaining page (kept_of lines)))
    (ap (remaining page) kept_of-none ∙ remaining-none page)
    (subst (λ (es : List Event). AreChained (remaining page (kept_of [])) es (remaining page (kept_of lines)))
    (sym (script_events-after listed page lines)) (lines_chained listed page [] lines))

sequel_events-chained : (listed : Bool) (page : List Command) (sequel : Sequel)
    → AreChained page (sequel_events listed page sequel) (remaining_after page sequel)
unfolding AreChained
sequel_events-chained listed page NoSequel = refl
sequel_events-chained listed page (Edits lines) = script_events-chained listed page lines
sequel_events-chained listed page (Figures figures) = edit_chained false 0 page (drawing_commands page figures)

-- the events of a page and of what is done after it lead to what remains
pub edited_events-chained : (options : ReportOptions) (items : List Item) (sequel : Sequel)
    → AreChained [] (edited_events options items sequel) (remaining_after (history options items) sequel)
edited_events-chained options items sequel =
    chained-append [] (history options items) (remaining_after (history options items) sequel)
    (item_events options items) (sequel_events options.edits_listed (history options items) sequel)
    (item_events-chained options items) (sequel_events-chained options.edits_listed (history options items) sequel)
