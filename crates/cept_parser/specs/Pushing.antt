-- A byte pushed into a parser, and the items that it closes (this project's own).
use Rattle.std.specs.Prelude.{◌≡◌, ◌≤◌, ◌<◌, ◌+◌, ◌^◌, ℕ, List, [], ◌∷◌, ◌++◌, length, false}
use Rattle.cept_codes.specs.declared.item.Item.{Item}
use Rattle.cept_parser.specs.Items.{items}
use Rattle.cept_parser.specs.State.{Leads, ParserState, parser_after, reading_with}
use Rattle.cept_parser.specs.Valid.{AreMeasured, AreValid}

-- before: the input hasn't ended, and has fewer than 2^32 bytes so far
pub record CanPush (parser : ParserState) : Type 0 where
  pub running : parser.finished ≡ false
  pub few : parser.place < 2 ^ 32

-- after: whatever bytes led here, the items of these and this byte are the items before and then those closed; and the
-- same of what is pending, where nobody knows the bytes before
pub record IsPushed (byte : ℕ) (before after : ParserState) (closed : List Item) : Type 0 where
  pub items : (b : List ℕ) → Leads b before → items (b ++ byte ∷ []) ≡ items b ++ closed
  pub leads : (b : List ℕ) → Leads b before → Leads (b ++ byte ∷ []) after
  pub answer : closed ≡ (reading_with before byte).items
  pub state : after ≡ parser_after before byte
  pub place : after.place ≡ before.place + 1
  pub still_running : after.finished ≡ false
  pub few_pending : length after.pending ≤ 99
  pub valid : AreValid closed
  pub measured : AreMeasured closed
