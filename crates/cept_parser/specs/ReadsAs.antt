-- What bytes say to the end of the input, and what it is for bytes to read as commands, whatever follows them (this
-- project's own).
use Rattle.std.specs.Prelude.{◌≡◌, ℕ, ◌+◌, Bool, false, not, List, [], ◌∷◌, ◌++◌, length, map}
use Rattle.cept_codes.specs.declared.command.Command.{Command}
use Rattle.cept_codes.specs.declared.item.Said.{Said}
use Rattle.cept_codes.specs.declared.item.Said.TheVariants.{Command as Says}
use Rattle.cept_parser.specs.declared.context.Context.{Context}
use Rattle.cept_parser.specs.Bytes.{is_plain}
use Rattle.cept_parser.specs.Items.{Reading, reading_at, closing_items}

-- what the items of a reading say, with what the end of the input adds
abbrev pub said_with_end : Reading → List Said
said_with_end r = map (λ i. i.what) (r.items ++ closing_items r)

-- what bytes say that end the input, read in this context from this place on
abbrev pub said_from : Context → ℕ → List ℕ → List Said
said_from x at b = said_with_end (reading_at x at b)

-- the bytes begin with a breaker
abbrev pub begins_anew : List ℕ → Bool
begins_anew [] = false
begins_anew (c ∷ s) = not (is_plain c)

-- these commands are said
abbrev pub all_said : List Command → List Said
all_said commands = map (λ c. Says c) commands

-- from context x on the bytes read as these commands, none refused, with context y after them and nothing pending,
-- wherever they stand and whatever follows
pub record Reads (x : Context) (bytes : List ℕ) (commands : List Command) (y : Context) : Type 0 where
  pub reads : (at : ℕ) (rest : List ℕ)
      → said_from x at (bytes ++ rest) ≡ all_said commands ++ said_from y (at + length bytes) rest
