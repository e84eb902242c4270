-- The line of each saying in a report, and the lines of items by the definitions of the report (this project's own).
use Rattle.std.specs.Prelude.{ℕ, List, [], ◌∷◌, ◌++◌}
use Rattle.std.specs.List.{flat_map}
use Rattle.cept_codes.specs.declared.command.Command.{Command}
use Rattle.cept_codes.specs.declared.item.Item.{Item}
use Rattle.cept_codes.specs.declared.item.Said.{Said}
use Rattle.cept_codes.specs.declared.item.Said.TheVariants as said
use Rattle.cept_parser.specs.Items.{commands_of}
use Rattle.cept_profile.specs.Changes.{changes}
use Rattle.cept_report.specs.Text.{change_line, change_lines, refusal_line}
use Rattle.cept_live.specs.Notices.{Saying, Change, Refusal}

-- the line of a saying
abbrev pub line_of : Saying → List ℕ
line_of (Change at place look) = change_line at place look
line_of (Refusal at length reason) = refusal_line at length reason

-- the lines of sayings
abbrev pub lines_of : List Saying → List ℕ
lines_of sayings = flat_map line_of sayings

-- the lines of an item after these commands
abbrev pub said_lines : Item → List Command → Said → List ℕ
said_lines item before (said.Command command) = change_lines item.at (changes before command)
said_lines item before (said.Refused reason) = refusal_line item.at item.len reason

-- the lines of an item after these items
abbrev pub item_lines : List Item → Item → List ℕ
item_lines earlier item = said_lines item (commands_of earlier) item.what

-- the lines of items after these: of each after those before it
unfoldable pub lines_after : List Item → List Item → List ℕ
lines_after earlier [] = []
lines_after earlier (item ∷ more) = item_lines earlier item ++ lines_after (earlier ++ item ∷ []) more
