-- One more command: the state after it is made of the state before it.
use Rattle.std.proofs.Common.{◌≡◌, List, [], ◌∷◌, ◌++◌, reverse, sym, ◌∙◌, ap, subst}
use Rattle.cept_codes.specs.declared.command.Command.{Command}
use Rattle.cept_codes.specs.declared.stroke.Stroke.{Stroke}
use Rattle.cept_codes.specs.Command.{IsValidCommand}
use Rattle.std.specs.List.{AllByRecursion}
use Rattle.cept_codes.specs.Stroke.{IsValidStroke}
use Rattle.cept_profile.specs.Control.{ControlState, control, control_after, control_back}
use Rattle.cept_profile.specs.State.{Page, State, page_back, state, blank_page, page_after, state_after}
use Rattle.cept_profile.specs.Strokes.{strokes_back, strokes_of, strokes_in}
use Rattle.cept_profile.specs.Valid.{AllValid, IsValidControl}
use Rattle.cept_profile.proofs.ValidControl.{IsValidControl-control_after, IsValidControl-initial_control}
use Rattle.cept_profile.proofs.ValidPage.{AllByRecursion-append, IsSafe-strokes_of, IsValidStroke-leads_to}
use Rattle.cept_profile.proofs.CellsByStrokes.{cells_after_all-cell_back}
use Rattle.cept_profile.proofs.PartsByStrokes.{row_pens-after_all, screen_pen-after_all, paints-after_all}
use Rattle.cept_profile.proofs.PartsByStrokes.{dclut-after_all, patterns-after_all}
use Rattle.cept_profile.proofs.OneMoreCommand.{reverse-one_more, control-one_more}
use Rattle.std.proofs.lemmas.List.{append-nil, reverse-append, reverse-reverse}

-- the page that more strokes leave is the page before them with each drawn after the other
page_back-page_after : (more earlier : List Stroke) → AllByRecursion IsValidStroke more
    → page_back (reverse more ++ earlier) ≡ page_after (page_back earlier) more
page_back-page_after more earlier valid i = assumption (cells_after_all-cell_back more earlier valid i, row_pens-after_all more earlier valid i, screen_pen-after_all more earlier i, paints-after_all more earlier i, dclut-after_all more earlier i, patterns-after_all more earlier i)

-- ---- valid strokes

pub IsValidStroke-strokes_of : (s : ControlState) (command : Command) → IsValidControl s → IsValidCommand command
    → AllByRecursion IsValidStroke (strokes_of s command)
IsValidStroke-strokes_of s command is valid =
    IsValidStroke-leads_to s.rows (control_after s command).rows (strokes_of s command)
    (IsSafe-strokes_of s command is valid)

pub AllByRecursion-reverse : {X : Type 0} (P : X → Type 0) (xs : List X) → AllByRecursion P xs
    → AllByRecursion P (reverse xs)
AllByRecursion-reverse P [] all = tt
AllByRecursion-reverse P (x ∷ xs) all =
    subst (AllByRecursion P) (sym (reverse-append (x ∷ []) xs))
    (AllByRecursion-append P (reverse xs) (x ∷ []) (AllByRecursion-reverse P xs all.1) (all.0, tt))

-- control after commands that are given newest first, and their strokes
pub IsValidControl-control_back : (newest_first : List Command) → AllValid newest_first
    → IsValidControl (control_back newest_first)
IsValidControl-control_back [] all = IsValidControl-initial_control
IsValidControl-control_back (command ∷ earlier) all =
    IsValidControl-control_after (control_back earlier) command (IsValidControl-control_back earlier all.1) all.0

IsValidStroke-strokes_back : (newest_first : List Command) → AllValid newest_first
    → AllByRecursion IsValidStroke (strokes_back newest_first)
IsValidStroke-strokes_back [] all = tt
IsValidStroke-strokes_back (command ∷ earlier) all =
    AllByRecursion-append IsValidStroke (reverse (strokes_of (control_back earlier) command)) (strokes_back earlier)
    (AllByRecursion-reverse IsValidStroke (strokes_of (control_back earlier) command)
    (IsValidStroke-strokes_of (control_back earlier) command (IsValidControl-control_back earlier all.1) all.0))
    (IsValidStroke-strokes_back earlier all.1)

-- ---- one more command

-- the page of one more command
pub page-one_more : (history : List Command) (command : Command) → AllValid history → IsValidCommand command
    → (state (history ++ command ∷ [])).page ≡ page_after (state history).page (strokes_of (control history) command)
page-one_more history command valid_history valid =
    ap (λ (commands : List Command). page_back (strokes_back commands)) (reverse-one_more history command)
    ∙ page_back-page_after (strokes_of (control history) command) (strokes_back (reverse history))
    (IsValidStroke-strokes_of (control history) command
    (IsValidControl-control_back (reverse history) (AllByRecursion-reverse IsValidCommand history valid_history)) valid)

-- the strokes of one more command
pub strokes_in-one_more : (history : List Command) (command : Command) → strokes_in (history ++ command ∷ [])
    ≡ strokes_in history ++ strokes_of (control history) command
strokes_in-one_more history command =
    ap (λ (commands : List Command). reverse (strokes_back commands)) (reverse-one_more history command)
    ∙ reverse-append (reverse (strokes_of (control history) command)) (strokes_back (reverse history))
    ∙ ap (λ (new : List Stroke). strokes_in history ++ new) (reverse-reverse (strokes_of (control history) command))

pub state-one_more : (history : List Command) (command : Command) → AllValid history → IsValidCommand command
    → state (history ++ command ∷ []) ≡ state_after (state history) command
state-one_more history command valid_history valid =
    ap (λ (p : Page). let s : State = record { page = p; control = control (history ++ command ∷ []) } in s)
    (page-one_more history command valid_history valid)
    ∙ ap (λ (k : ControlState). let s : State = assumption (page_after (state history).page (strokes_of (control history) command)) in s)
    (control-one_more history command)

-- looking back over valid strokes gives the blank page with each drawn after the other
pub page_back-drawn : (strokes : List Stroke) → AllByRecursion IsValidStroke strokes
    → page_back (reverse strokes) ≡ page_after blank_page strokes
page_back-drawn strokes valid =
    ap page_back (sym (append-nil (reverse strokes))) ∙ page_back-page_after strokes [] valid

-- the page by looking back is the blank page with all strokes drawn one after the other
pub page-page_after : (history : List Command) → AllValid history
    → (state history).page ≡ page_after blank_page (strokes_in history)
page-page_after history valid =
    ap page_back (sym (reverse-reverse (strokes_back (reverse history))))
    ∙ page_back-drawn (strokes_in history) (AllByRecursion-reverse IsValidStroke (strokes_back (reverse history))
    (IsValidStroke-strokes_back (reverse history) (AllByRecursion-reverse IsValidCommand history valid)))
