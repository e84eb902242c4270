-- The events of items: of one item more, and of items in two parts.
use Rattle.std.specs.List.{sum_by, enumerate_from}
use Rattle.std.proofs.lemmas.List.Sums.{sum_by-append}
use Rattle.std.proofs.Math.Seq.{take-append_seam}
use Rattle.std.proofs.Common.{◌≡◌, ℕ, ◌+◌, zero-add, Bool, true, false, cond, List, [], ◌∷◌, ◌++◌, length, map, take}
use Rattle.std.proofs.Common.{refl, sym, ap, ◌∙◌, append_assoc, append-nil, length-append}
use Rattle.cept_codes.specs.declared.command.Command.{Command}
use Rattle.cept_codes.specs.declared.item.Item.{Item}
use Rattle.cept_codes.specs.declared.item.Reason.{Reason}
use Rattle.cept_codes.specs.declared.item.Said.TheVariants as said
use Rattle.cept_parser.specs.Items.{commands_of, command_said, is_refusal}
use Rattle.cept_run.specs.declared.words.ReportOptions.{ReportOptions}
use Rattle.cept_editor.specs.Events.{Event}
use Rattle.cept_run.specs.Events.{history, item_event, item_events, refused_count}
use Rattle.cept_run.specs.Words.{is_painted}

-- ---- items that come after others

unfoldable pub events_after : ReportOptions → List Item → List Item → List Event
events_after options earlier [] = []
events_after options earlier (i ∷ is) = item_event options earlier i ∷ events_after options (earlier ++ i ∷ []) is

numbered_after : (options : ReportOptions) (earlier items whole : List Item) (n : ℕ) → whole ≡ earlier ++ items
    → n ≡ length earlier
    → map (λ numbered. item_event options (take numbered.0 whole) numbered.1) (enumerate_from n items)
    ≡ events_after options earlier items
unfolding events_after
numbered_after options earlier [] whole n is counted = refl
numbered_after options earlier (i ∷ is) whole n e counted =
    let front : take n whole ≡ earlier =
    ap (λ k. take k whole) counted ∙ ap (take (length earlier)) e ∙ take-append_seam earlier (i ∷ is) in
    ap (λ (xs : List Item). item_event options xs i ∷ map (λ numbered. item_event options (take numbered.0 whole)
    numbered.1) (enumerate_from (n + 1) is)) front
    ∙ ap (λ (es : List Event). item_event options earlier i ∷ es)
    (numbered_after options (earlier ++ i ∷ []) is whole (n + 1) (e ∙ sym (append_assoc earlier (i ∷ []) is))
    (ap (λ k. k + 1) counted ∙ sym (length-append earlier (i ∷ []))))

pub item_events-after : (options : ReportOptions) (items : List Item) → item_events options items ≡ events_after options [] items
unfolding item_events
item_events-after options items = numbered_after options [] items items 0 refl refl

events_after-append : (options : ReportOptions) (earlier xs ys : List Item)
    → events_after options earlier (xs ++ ys) ≡ events_after options earlier xs ++ events_after options (earlier ++ xs) ys
unfolding events_after
events_after-append options earlier [] ys = ap (λ (e : List Item). events_after options e ys) (sym (append-nil earlier))
events_after-append options earlier (x ∷ xs) ys =
    ap (λ (es : List Event). item_event options earlier x ∷ es)
    (events_after-append options (earlier ++ x ∷ []) xs ys
    ∙ ap (λ (e : List Item). events_after options (earlier ++ x ∷ []) xs ++ events_after options e ys)
    (append_assoc earlier (x ∷ []) xs))

-- the events of items, and then those of others after them
pub item_events-append : (options : ReportOptions) (xs ys : List Item)
    → item_events options (xs ++ ys) ≡ item_events options xs ++ events_after options xs ys
item_events-append options xs ys =
    item_events-after options (xs ++ ys) ∙ events_after-append options [] xs ys
    ∙ ap (λ (es : List Event). es ++ events_after options xs ys) (sym (item_events-after options xs))

events_after-one : (options : ReportOptions) (earlier : List Item) (i : Item)
    → events_after options earlier (i ∷ []) ≡ item_event options earlier i ∷ []
unfolding events_after
events_after-one options earlier i = refl

-- one item more
pub item_events-more : (options : ReportOptions) (items : List Item) (i : Item)
    → item_events options (items ++ i ∷ []) ≡ item_events options items ++ item_event options items i ∷ []
item_events-more options items i =
    item_events-append options items (i ∷ [])
    ∙ ap (λ (es : List Event). item_events options items ++ es) (events_after-one options items i)

pub item_events-none : (options : ReportOptions) → item_events options [] ≡ []
unfolding item_events
item_events-none options = refl

-- ---- the commands and the refusals of one item more

pub refused_count-more : (items : List Item) (i : Item)
    → refused_count (items ++ i ∷ []) ≡ refused_count items + cond (is_refusal i.what) 1 0
refused_count-more items i =
    sum_by-append (λ (j : Item). cond (is_refusal j.what) 1 0) items (i ∷ [])
    ∙ ap (λ n. sum_by (λ (j : Item). cond (is_refusal j.what) 1 0) items + n) (zero-add _)

commands_of-more : (items : List Item) (i : Item)
    → commands_of (items ++ i ∷ []) ≡ commands_of items ++ command_said i.what
commands_of-more [] i = append-nil _
commands_of-more (j ∷ is) i = ap (λ t. command_said j.what ++ t) (commands_of-more is i)
    ∙ sym (append_assoc (command_said j.what) (commands_of is) (command_said i.what))

-- nothing was applied before the first item
pub history-none : (options : ReportOptions) → history options [] ≡ []
history-none options = nothing (is_painted options.way)
  where
    nothing : (b : Bool) → cond b (commands_of []) [] ≡ []
    nothing true = refl
    nothing false = refl

history-more : (options : ReportOptions) (items : List Item) (i : Item)
    → history options (items ++ i ∷ []) ≡ history options items ++ cond (is_painted options.way) (command_said i.what) []
history-more options items i = by_flag (is_painted options.way)
  where
    by_flag : (b : Bool) → cond b (commands_of (items ++ i ∷ [])) []
        ≡ cond b (commands_of items) [] ++ cond b (command_said i.what) []
    by_flag true = commands_of-more items i
    by_flag false = refl

-- a command is applied
pub history-command : (options : ReportOptions) (items : List Item) (i : Item) (command : Command)
    → is_painted options.way ≡ true → i.what ≡ said.Command command
    → history options (items ++ i ∷ []) ≡ history options items ++ command ∷ []
history-command options items i command painting is =
    history-more options items i
    ∙ ap (λ b. history options items ++ cond b (command_said i.what) []) painting
    ∙ ap (λ s. history options items ++ command_said s) is

-- a refusal leaves what was applied
pub history-refused : (options : ReportOptions) (items : List Item) (i : Item) (reason : Reason)
    → i.what ≡ said.Refused reason → history options (items ++ i ∷ []) ≡ history options items
history-refused options items i reason is =
    history-more options items i
    ∙ ap (λ s. history options items ++ cond (is_painted options.way) (command_said s) []) is
    ∙ nothing (is_painted options.way)
  where
    nothing : (b : Bool) → history options items ++ cond b [] [] ≡ history options items
    nothing true = append-nil _
    nothing false = append-nil _

-- without painting nothing is applied
pub history-idle : (options : ReportOptions) (items : List Item) → is_painted options.way ≡ false
    → history options items ≡ []
history-idle options items idle = ap (λ b. cond b (commands_of items) []) idle
