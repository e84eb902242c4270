-- The lines of what items say.
use Rattle.std.proofs.Common.{◌≡◌, ℕ, List, [], ◌∷◌, ◌++◌, refl, ◌∙◌, ap, append-nil}
use Rattle.std.proofs.lemmas.Grind.{flat_map-append}
use Rattle.cept_codes.specs.declared.command.Command.{Command}
use Rattle.cept_codes.specs.declared.item.Item.{Item}
use Rattle.cept_codes.specs.declared.item.Reason.{Reason}
use Rattle.cept_codes.specs.declared.item.Said.{Said}
use Rattle.cept_codes.specs.declared.item.Said.TheVariants as said
use Rattle.cept_codes.specs.declared.look.Look.{Look}
use Rattle.cept_codes.specs.Place.{Place}
use Rattle.cept_parser.specs.Items.{commands_of}
use Rattle.cept_profile.specs.Changes.{changes}
use Rattle.cept_report.specs.Text.{change_line, change_lines, refusal_line}
use Rattle.cept_live.specs.Lines.{item_lines, line_of, lines_after, lines_of, said_lines}
use Rattle.cept_live.specs.Notices.{change_sayings, item_sayings, said_sayings, sayings_after}

-- of changes
pub lines_of-changes : (at : ℕ) (list : List (Place × Look)) → lines_of (change_sayings at list) ≡ change_lines at list
unfolding change_lines
lines_of-changes at [] = refl
lines_of-changes at (x ∷ xs) = ap (λ l. change_line at x.0 x.1 ++ l) (lines_of-changes at xs)

-- of what an item says
lines_of-said : (item : Item) (before : List Command) (s : Said) → lines_of (said_sayings item before s) ≡ said_lines item before s
lines_of-said item before (said.Command command) = lines_of-changes item.at (changes before command)
lines_of-said item before (said.Refused reason) = append-nil (refusal_line item.at item.len reason)

pub lines_of-item : (earlier : List Item) (item : Item) → lines_of (item_sayings earlier item) ≡ item_lines earlier item
lines_of-item earlier item = lines_of-said item (commands_of earlier) item.what

pub lines_of-command : (earlier : List Item) (item : Item) (command : Command) → item.what ≡ said.Command command
    → lines_of (item_sayings earlier item) ≡ change_lines item.at (changes (commands_of earlier) command)
lines_of-command earlier item command is =
    lines_of-item earlier item ∙ ap (λ (s : Said). said_lines item (commands_of earlier) s) is

pub lines_of-refusal : (earlier : List Item) (item : Item) (reason : Reason) → item.what ≡ said.Refused reason
    → lines_of (item_sayings earlier item) ≡ refusal_line item.at item.len reason
lines_of-refusal earlier item reason is =
    lines_of-item earlier item ∙ ap (λ (s : Said). said_lines item (commands_of earlier) s) is

-- of items, each after those before it
pub lines_of-items : (earlier more : List Item) → lines_of (sayings_after earlier more) ≡ lines_after earlier more
unfolding sayings_after lines_after
lines_of-items earlier [] = refl
lines_of-items earlier (item ∷ more) =
    flat_map-append line_of (item_sayings earlier item) (sayings_after (earlier ++ item ∷ []) more)
    ∙ ap (λ l. l ++ lines_of (sayings_after (earlier ++ item ∷ []) more)) (lines_of-item earlier item)
    ∙ ap (λ l. item_lines earlier item ++ l) (lines_of-items (earlier ++ item ∷ []) more)
