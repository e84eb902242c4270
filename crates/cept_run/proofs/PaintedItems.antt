-- What events paint that lead from some commands to others, and what those of items paint.
use Rattle.std.proofs.Common.{◌≡◌, true, false, List, [], ◌∷◌, ◌++◌, refl, sym, ap, ◌∙◌, subst, append_assoc, append-nil}
use Rattle.cept_codes.specs.declared.command.Command.{Command}
use Rattle.cept_codes.specs.declared.item.Item.{Item}
use Rattle.cept_codes.specs.declared.item.Reason.{Reason}
use Rattle.cept_codes.specs.declared.item.Said.TheVariants as said
use Rattle.cept_editor.specs.Events.{Event, event_changes, paints}
use Rattle.cept_editor.specs.Made.{AreStill}
use Rattle.cept_editor.proofs.Laws.{paints-append, paints-one, paints-none, no_paint, event_shown}
use Rattle.cept_profile.proofs.Laws.{grid_with_paints-append, changes_between-same}
use Rattle.cept_profile.specs.Changes.{changes_between, changes, grid_with_paints}
use Rattle.cept_profile.specs.Look.{grid}
use Rattle.cept_run.specs.declared.words.ReportOptions.{ReportOptions}
use Rattle.cept_run.specs.Events.{history, item_event, item_events}
use Rattle.cept_run.specs.Words.{is_painted}
use Rattle.cept_run.proofs.EventsOfItems.{events_after, item_events-after, history-none, history-command}
use Rattle.cept_run.proofs.EventsOfItems.{history-refused, history-idle}

-- ---- events that lead from some commands to others

-- each of these events begins with the commands at which the one before it ends
unfoldable pub AreChained : List Command → List Event → List Command → Type 0
AreChained from [] to = to ≡ from
AreChained from (e ∷ es) to = (e.before ≡ from) × AreChained e.after es to

-- events, and then others
pub chained-append : (from mid to : List Command) (xs ys : List Event) → AreChained from xs mid → AreChained mid ys to
    → AreChained from (xs ++ ys) to
unfolding AreChained
chained-append from mid to [] ys first second = subst (λ (h : List Command). AreChained h ys to) first second
chained-append from mid to (x ∷ xs) ys first second = (first.0, chained-append x.after mid to xs ys first.1 second)

pub chained-one : (e : Event) → AreChained e.before (e ∷ []) e.after
unfolding AreChained
chained-one e = (refl, refl)

-- the events up to one of them lead to where that one ends
pub chained_to : (from to : List Command) (done : List Event) (e : Event) (rest : List Event)
    → AreChained from (done ++ e ∷ rest) to → AreChained from (done ++ e ∷ []) e.after
unfolding AreChained
chained_to from to [] e rest chained = (chained.0, refl)
chained_to from to (x ∷ done) e rest chained = (chained.0, chained_to x.after to done e rest chained.1)

-- their changes lead from grid to grid
pub chained_shown : (from to : List Command) (es : List Event) → AreChained from es to
    → grid_with_paints (grid from) (paints es) ≡ grid to
unfolding AreChained
chained_shown from to [] chained =
    ap (grid_with_paints (grid from)) paints-none ∙ no_paint (grid from) ∙ ap grid (sym chained)
chained_shown from to (e ∷ es) chained =
    ap (grid_with_paints (grid from)) (paints-append (e ∷ []) es ∙ ap (λ xs. xs ++ paints es) (paints-one e))
    ∙ grid_with_paints-append (grid from) (event_changes e) (paints es)
    ∙ ap (λ g. grid_with_paints g (paints es))
    (ap (λ (h : List Command). grid_with_paints (grid h) (event_changes e)) (sym chained.0) ∙ event_shown e)
    ∙ chained_shown e.after to es chained.1

-- so after each of them its commands are shown
pub each_shown : (from to : List Command) (es done : List Event) (e : Event) (rest : List Event)
    → AreChained from es to → es ≡ done ++ e ∷ rest
    → grid_with_paints (grid from) (paints (done ++ e ∷ [])) ≡ grid e.after
each_shown from to es done e rest chained split =
    chained_shown from e.after (done ++ e ∷ [])
    (chained_to from to done e rest (subst (λ (l : List Event). AreChained from l to) split chained))

-- ---- items

items_chained : (options : ReportOptions) (earlier items : List Item)
    → AreChained (history options earlier) (events_after options earlier items) (history options (earlier ++ items))
unfolding events_after AreChained
items_chained options earlier [] = ap (λ (xs : List Item). history options xs) (append-nil earlier)
items_chained options earlier (i ∷ is) = (
  refl,
  subst
      (λ (xs : List Item). AreChained (history options (earlier ++ i ∷ [])) (events_after options (earlier ++ i ∷ []) is)
      (history options xs)) (append_assoc earlier (i ∷ []) is) (items_chained options (earlier ++ i ∷ []) is),
)

pub item_events-chained : (options : ReportOptions) (items : List Item)
    → AreChained [] (item_events options items) (history options items)
item_events-chained options items =
    subst (λ (es : List Event). AreChained [] es (history options items)) (sym (item_events-after options items))
    (subst (λ (h : List Command). AreChained h (events_after options [] items) (history options items))
    (history-none options) (items_chained options [] items))

-- a blank glass with the paints of items over it shows their meaning
pub blank_painted : (options : ReportOptions) (items : List Item)
    → grid_with_paints (grid []) (paints (item_events options items)) ≡ grid (history options items)
blank_painted options items =
    chained_shown [] (history options items) (item_events options items) (item_events-chained options items)

-- without painting nothing is changed
still_after : (options : ReportOptions) (earlier items : List Item) → is_painted options.way ≡ false
    → AreStill (events_after options earlier items)
unfolding events_after
still_after options earlier [] idle = tt
still_after options earlier (i ∷ is) idle = (
  history-idle options (earlier ++ i ∷ []) idle ∙ sym (history-idle options earlier idle),
  still_after options (earlier ++ i ∷ []) is idle,
)

pub still_idle : (options : ReportOptions) (items : List Item) → is_painted options.way ≡ false → AreStill (item_events options items)
still_idle options items idle =
    subst AreStill (sym (item_events-after options items)) (still_after options [] items idle)

-- ---- what one item changes

pub applied_changes : (options : ReportOptions) (items : List Item) (i : Item) (command : Command)
    → is_painted options.way ≡ true → i.what ≡ said.Command command
    → event_changes (item_event options items i) ≡ changes (history options items) command
applied_changes options items i command painting is =
    ap (λ h. changes_between (grid (history options items)) (grid h)) (history-command options items i command painting is)

unchanged : (options : ReportOptions) (items : List Item) (i : Item)
    → history options (items ++ i ∷ []) ≡ history options items → event_changes (item_event options items i) ≡ []
unchanged options items i same =
    ap (λ h. changes_between (grid (history options items)) (grid h)) same
    ∙ changes_between-same (grid (history options items))

pub refused_changes : (options : ReportOptions) (items : List Item) (i : Item) (reason : Reason)
    → i.what ≡ said.Refused reason → event_changes (item_event options items i) ≡ []
refused_changes options items i reason is = unchanged options items i (history-refused options items i reason is)

pub checked_changes : (options : ReportOptions) (items : List Item) (i : Item) → is_painted options.way ≡ false
    → event_changes (item_event options items i) ≡ []
checked_changes options items i idle =
    unchanged options items i (history-idle options (items ++ i ∷ []) idle ∙ sym (history-idle options items idle))
