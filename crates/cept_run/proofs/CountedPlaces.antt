-- How many places are painted at one item more, where they are counted.
use Rattle.std.proofs.Common.{◌≡◌, ℕ, ◌+◌, Bool, true, false, cond, List, [], ◌∷◌, ◌++◌, length, refl, ◌∙◌, ap, add-zero}
use Rattle.std.proofs.Common.{length-append}
use Rattle.cept_codes.specs.declared.command.Command.{Command}
use Rattle.cept_codes.specs.declared.item.Item.{Item}
use Rattle.cept_codes.specs.declared.item.Reason.{Reason}
use Rattle.cept_codes.specs.declared.item.Said.TheVariants as said
use Rattle.cept_codes.specs.declared.look.Look.{Look}
use Rattle.cept_codes.specs.Place.{Place}
use Rattle.cept_editor.specs.Events.{Event, event_changes, paints}
use Rattle.cept_editor.proofs.Laws.{paints-append, paints-one, paints-none}
use Rattle.cept_profile.specs.Changes.{changes}
use Rattle.cept_run.specs.Words.{is_counted, is_painted}
use Rattle.cept_run.specs.declared.words.ReportOptions.{ReportOptions}
use Rattle.cept_run.specs.Events.{history, item_event, item_events}
use Rattle.cept_run.specs.Events.{painted_count}
use Rattle.cept_run.specs.Reporting.{counted_places}
use Rattle.cept_run.proofs.EventsOfItems.{item_events-none, item_events-more}
use Rattle.cept_run.proofs.PaintedItems.{applied_changes, refused_changes, checked_changes}

-- the places of one item more
painted_more : (options : ReportOptions) (items : List Item) (i : Item) → painted_count options (items ++ i ∷ [])
    ≡ painted_count options items + length (event_changes (item_event options items i))
painted_more options items i =
    ap (λ (es : List Event). length (paints es)) (item_events-more options items i)
    ∙ ap length (paints-append (item_events options items) (item_event options items i ∷ []))
    ∙ length-append (paints (item_events options items)) (paints (item_event options items i ∷ []))
    ∙ ap (λ (xs : List (Place × Look)). painted_count options items + length xs) (paints-one (item_event options items i))

counted_sum : (options : ReportOptions) (a b : ℕ) → counted_places options (a + b) ≡ counted_places options a + counted_places options b
counted_sum options a b = by_flag (is_counted options.end)
  where
    by_flag : (c : Bool) → cond c (a + b) 0 ≡ cond c a 0 + cond c b 0
    by_flag true = refl
    by_flag false = refl

-- before the first item
pub counted-none : (options : ReportOptions) → counted_places options (painted_count options []) ≡ 0
counted-none options = ap (λ (es : List Event). counted_places options (length (paints es))) (item_events-none options)
    ∙ ap (λ (xs : List (Place × Look)). counted_places options (length xs)) paints-none ∙ by_flag (is_counted options.end) 0
  where
    by_flag : (c : Bool) (n : ℕ) → cond c n n ≡ n
    by_flag true n = refl
    by_flag false n = refl

-- at a command that is applied
pub counted-command : (options : ReportOptions) (items : List Item) (i : Item) (command : Command)
    → is_painted options.way ≡ true → i.what ≡ said.Command command
    → counted_places options (painted_count options (items ++ i ∷ []))
    ≡ counted_places options (painted_count options items) + counted_places options (length (changes (history options items) command))
counted-command options items i command painting is =
    ap (counted_places options) (painted_more options items i
    ∙ ap (λ (xs : List (Place × Look)). painted_count options items + length xs)
    (applied_changes options items i command painting is))
    ∙ counted_sum options (painted_count options items) (length (changes (history options items) command))

-- at an item that changes nothing
unchanged : (options : ReportOptions) (items : List Item) (i : Item) → event_changes (item_event options items i) ≡ []
    → counted_places options (painted_count options (items ++ i ∷ [])) ≡ counted_places options (painted_count options items)
unchanged options items i none =
    ap (counted_places options) (painted_more options items i
    ∙ ap (λ (xs : List (Place × Look)). painted_count options items + length xs) none ∙ add-zero (painted_count options items))

pub counted-refused : (options : ReportOptions) (items : List Item) (i : Item) (reason : Reason)
    → i.what ≡ said.Refused reason
    → counted_places options (painted_count options (items ++ i ∷ [])) ≡ counted_places options (painted_count options items)
counted-refused options items i reason is = unchanged options items i (refused_changes options items i reason is)

pub counted-idle : (options : ReportOptions) (items : List Item) (i : Item) → is_painted options.way ≡ false
    → counted_places options (painted_count options (items ++ i ∷ [])) ≡ counted_places options (painted_count options items)
counted-idle options items i idle = unchanged options items i (checked_changes options items i idle)
