-- A live decoder (this project's own): what it is after the bytes fed so far, whatever pieces they came in.
use Rattle.std.specs.Prelude.{◌≡◌, ℕ, ◌+◌, ◌^◌, ◌≤◌, ◌<◌, ◌⊎◌, Bool, true, false, Option, None, List, [], ◌++◌, length}
use Rattle.std.specs.Prelude.{map, take, drop}
use Rattle.std.specs.Option.{ForSome}
use Rattle.cept_codes.specs.declared.item.Item.{Item}
use Rattle.cept_parser.specs.Context.{start_context}
use Rattle.cept_parser.specs.Items.{items, closed_items, commands_of}
use Rattle.cept_parser.specs.State.{ParserState, Leads}
use Rattle.cept_profile.specs.State.{State, state}
use Rattle.cept_profile.specs.Valid.{AllValid}
use Rattle.cept_redraw.specs.Marks.{no_marks}
use Rattle.cept_live.specs.declared.notice.Notice.{Notice}
use Rattle.cept_live.specs.Notices.{Saying, notice_of, sayings_after}
use Rattle.cept_live.specs.Renewed.{marked_with}

-- the parser of its bytes, the screen of its commands, the phase of flashing, if it flashes, the places that items and lines
-- changed since the phase began, the states to which undo leads, the latest first, and those to which redo leads, the nearest
-- first
pub record LiveState : Type 0 where
  pub parser : ParserState
  pub screen : State
  pub phase : Option ℕ
  pub renewed : List Bool
  pub past : List State
  pub future : List State

-- no phase, or one of the six
abbrev pub IsPhase : Option ℕ → Type 0
IsPhase phase = ForSome phase (λ k. k < 6)

-- a parser before the first byte
abbrev pub parser_start : ParserState
parser_start = record { place = 0; context = start_context; pending = []; finished = false }

-- a decoder before the first byte
abbrev pub live_start : LiveState
live_start = record {
  parser = parser_start;
  screen = state [];
  phase = None;
  renewed = no_marks;
  past = [];
  future = [];
}

-- a screen stands after these items
pub record Stands (screen : State) (seen : List Item) : Type 0 where
  pub valid : AllValid (commands_of seen)
  pub is : screen ≡ state (commands_of seen)

-- these bytes were fed, and no line was made
pub record HasFed (live : LiveState) (bytes : List ℕ) : Type 0 where
  pub parser : Leads bytes live.parser
  pub screen : Stands live.screen (items bytes)
  pub phase : IsPhase live.phase
  pub places : length live.renewed ≡ 960
  pub past : live.past ≡ []
  pub future : live.future ≡ []

-- in a list of notices these sayings are told from one place on, up to another, and nothing else is changed
pub record Tells (list : List Notice) (from : ℕ) (more : List Saying) (to : ℕ) (now : List Notice) : Type 0 where
  pub count : to ≡ from + length more
  pub front : take to now ≡ take from list ++ map notice_of more
  pub rest : drop to now ≡ drop to list
  pub room : length now ≡ length list

-- after these items others came; what they say is told, and its places are marked
pub record TellsItems (before after : List Item) (marks : List Bool) (list : List Notice) (from : ℕ) (marked : List Bool)
    (to : ℕ) (now : List Notice) : Type 0 where
  pub closed : List Item
  pub are : after ≡ before ++ closed
  pub tells : Tells list from (sayings_after before closed) to now
  pub marks_are : marked ≡ marked_with marks (sayings_after before closed)

-- bytes were fed: whatever bytes were fed before them, these are fed too, and what the items say that they close is told
pub record Feeds (old : LiveState) (more : List ℕ) (list : List Notice) (from : ℕ) (new : LiveState) (to : ℕ)
    (now : List Notice) : Type 0 where
  pub place : new.parser.place ≡ old.parser.place + length more
  pub phase : new.phase ≡ old.phase
  pub past : new.past ≡ old.past
  pub future : new.future ≡ old.future
  pub room : length now ≡ length list
  pub feeds : (bytes : List ℕ) → HasFed old bytes → HasFed new (bytes ++ more)
  pub tells : (bytes : List ℕ) → HasFed old bytes
      → TellsItems (items bytes) (items (bytes ++ more)) old.renewed list from new.renewed to now

-- the page ended: the item that was left is taken too, and what it says is told
pub record Ends (old : LiveState) (list : List Notice) (from : ℕ) (new : LiveState) (to : ℕ) (now : List Notice)
    : Type 0 where
  pub running : old.parser.finished ≡ false
  pub enough : from + 1920 ≤ length list
  pub finished : new.parser.finished ≡ true
  pub place : new.parser.place ≡ old.parser.place
  pub phase : new.phase ≡ old.phase
  pub past : new.past ≡ old.past
  pub future : new.future ≡ old.future
  pub room : length now ≡ length list
  pub stands : (bytes : List ℕ) → HasFed old bytes → Stands new.screen (closed_items bytes)
  pub tells : (bytes : List ℕ) → HasFed old bytes
      → TellsItems (items bytes) (closed_items bytes) old.renewed list from new.renewed to now

-- nothing happened
pub record Stays (old : LiveState) (list : List Notice) (new : LiveState) (now : List Notice) : Type 0 where
  pub live : new ≡ old
  pub notices : now ≡ list

-- nothing was fed: nothing happened
pub record FeedsNothing (old : LiveState) (list : List Notice) (taken put : ℕ) (new : LiveState) (now : List Notice)
    : Type 0 where
  pub taken_none : taken ≡ 0
  pub put_none : put ≡ 0
  pub stays : Stays old list new now

-- it takes no more bytes: the page has ended, or 2^32 were fed
abbrev pub TakesNoMore : LiveState → Type 0
TakesNoMore live = (live.parser.finished ≡ true) ⊎ (2 ^ 32 ≤ live.parser.place)

-- why feeding stopped: all bytes were taken, there is no room for what one more may change, or no more are taken
abbrev pub Stops : List ℕ → List Notice → ℕ → ℕ → LiveState → Type 0
Stops bytes list taken put live =
    (length bytes ≤ taken) ⊎ ((length list < put + 1920) ⊎ TakesNoMore live)

-- as many bytes were fed as there is room for in the list, from its start on; none where there is no room for what the first
-- may change, or no more are taken
pub record FeedsAll (old : LiveState) (bytes : List ℕ) (list : List Notice) (new : LiveState) (taken put : ℕ)
    (now : List Notice) : Type 0 where
  pub feeds : Feeds old (take taken bytes) list 0 new put now
  pub most : taken ≤ length bytes
  pub within : put ≤ length list
  pub stops : Stops bytes now taken put new
  pub refused : TakesNoMore old ⊎ (length list < 1920) → FeedsNothing old list taken put new now

-- these notices, one call's after the other's, are what the items say that these bytes close, whatever bytes were fed before
pub record TellsAll (old : LiveState) (more : List ℕ) (notices : List Notice) : Type 0 where
  pub tells : (bytes : List ℕ) → HasFed old bytes → (closed : List Item) × (items (bytes ++ more) ≡ items bytes ++ closed)
      × (notices ≡ map notice_of (sayings_after (items bytes) closed))
