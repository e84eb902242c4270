-- The items of bytes (this profile's own): found on the whole list, by the longest beginning that fits.
use Rattle.std.specs.Prelude.{ℕ, zero, suc, ◌+◌, Bool, true, false, not, ◌&&◌, ◌||◌, List, [], ◌∷◌, ◌++◌, length, take}
use Rattle.std.specs.Prelude.{drop, if◌then◌else◌, ◌==◌, Option, Some, None}
use Rattle.std.specs.List.{flat_map}
use Rattle.cept_codes.specs.declared.command.Command.{Command}
use Rattle.cept_codes.specs.declared.item.Item.{Item}
use Rattle.cept_codes.specs.declared.item.Reason.TheVariants.{Interrupted, Truncated}
use Rattle.cept_codes.specs.declared.item.Said.{Said}
use Rattle.cept_codes.specs.declared.item.Said.TheVariants.{Command as Says, Refused}
use Rattle.cept_parser.specs.declared.context.Mode.TheVariants.{Text}
use Rattle.cept_parser.specs.declared.context.Context.{Context}
use Rattle.cept_parser.specs.Context.{start_context}
use Rattle.cept_parser.specs.Bytes.{outcome, is_fit, is_whole, is_longer}
use Rattle.cept_parser.specs.Grammar.{standing}

-- the length of the longest beginning that fits, of those of at most n bytes
unfoldable pub longest_beginning_within : Context → List ℕ → ℕ → ℕ
longest_beginning_within x b zero = 0
longest_beginning_within x b (suc n) =
    if is_fit (standing x (take (suc n) b)).fit then suc n else longest_beginning_within x b n

-- the first item of bytes: what it says, its length, and the context after it
pub record Front : Type 0 where
  pub said : Said
  pub size : ℕ
  pub next : Context

-- the first item: what the longest beginning that fits says, or that it is interrupted. None where all of the bytes wait:
-- they are no whole unit yet, or a unit that grows
unfoldable pub front : Context → List ℕ → Option Front
front x b =
    let n = longest_beginning_within x b (length b) in
    let s = standing x (take n b) in
    let o = if is_whole s.fit then s.outcome else outcome x Text (Refused Interrupted) in
    if n == length b && (not (is_whole s.fit) || is_longer s.fit) then None else
    Some (record { said = o.said; size = n; next = o.next })

-- what bytes say: their items, and after these the context, the place and the bytes that are pending
pub record Reading : Type 0 where
  pub items : List Item
  pub context : Context
  pub at : ℕ
  pub pending : List ℕ

-- bytes of which none is an item yet
abbrev pub waiting_reading : Context → ℕ → List ℕ → Reading
waiting_reading x at b = record { items = []; context = x; at = at; pending = b }

-- the reading that begins with this first item, and goes on as told after it
unfoldable pub reading_by : (Context → ℕ → List ℕ → Reading) → Context → ℕ → List ℕ → Option Front → Reading
reading_by more x at b None = waiting_reading x at b
reading_by more x at b (Some f) =
    let r = more f.next (at + f.size) (drop f.size b) in
    record r { items = record { at = at; len = f.size; what = f.said } ∷ r.items }

-- the reading of bytes that stand at this place, up to so many items
unfoldable pub reading_within : ℕ → Context → ℕ → List ℕ → Reading
reading_within zero x at b = waiting_reading x at b
reading_within (suc n) x at b = reading_by (reading_within n) x at b (front x b)

-- the reading of all bytes from the first on: there are at most as many items as bytes
abbrev pub reading : List ℕ → Reading
reading b = reading_within (length b) start_context 0 b

-- the items of bytes after which more may come
abbrev pub items : List ℕ → List Item
items b = (reading b).items

-- the items that the end of the input adds: pending bytes say their command where they are a unit, else they are truncated
unfoldable pub closing_items : Reading → List Item
closing_items r =
    let s = standing r.context r.pending in
    let said = if is_whole s.fit then s.outcome.said else Refused Truncated in
    if length r.pending == 0 then [] else record { at = r.at; len = length r.pending; what = said } ∷ []

-- the items of bytes that end here
abbrev pub closed_items : List ℕ → List Item
closed_items b = items b ++ closing_items (reading b)

-- the command that is said, if one is
abbrev pub command_said : Said → List Command
command_said (Says c) = c ∷ []
command_said (Refused r) = []

-- the commands among items, in order
abbrev pub commands_of : List Item → List Command
commands_of is = flat_map (λ i. command_said i.what) is

-- the commands of bytes that end here
abbrev pub commands : List ℕ → List Command
commands b = commands_of (closed_items b)

-- it is refused
abbrev pub is_refusal : Said → Bool
is_refusal (Says c) = false
is_refusal (Refused r) = true

-- ---- what laws and private clauses say beside these

-- the reading of bytes that stand at this place
abbrev pub reading_at : Context → ℕ → List ℕ → Reading
reading_at x at b = reading_within (length b) x at b

-- a reading with items before it
abbrev pub reading_with_items : List Item → Reading → Reading
reading_with_items is r = record r { items = is ++ r.items }
