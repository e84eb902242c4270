-- What a parser is (this project's own): the number of bytes pushed, the context, the bytes that are pending, and
-- whether the input ended.
use Rattle.std.specs.Prelude.{◌≡◌, ℕ, ◌+◌, ◌-◌, Bool, true, false, List, [], ◌∷◌, ◌++◌, length}
use Rattle.cept_parser.specs.declared.context.Context.{Context}
use Rattle.cept_parser.specs.Items.{Reading, reading_at, reading}

-- what clauses see of a parser
pub record ParserState : Type 0 where
  pub place : ℕ
  pub context : Context
  pub pending : List ℕ
  pub finished : Bool

-- the state of a running parser after so many bytes, in this context and with these bytes pending
abbrev pub running_state : ℕ → Context → List ℕ → ParserState
running_state place context pending = record { place = place; context = context; pending = pending; finished = false }

-- bytes lead to a state: as many bytes were pushed, and their reading leaves its context and its pending bytes
pub record Leads (b : List ℕ) (s : ParserState) : Type 0 where
  pub place : s.place ≡ length b
  pub context : s.context ≡ (reading b).context
  pub pending : s.pending ≡ (reading b).pending
  pub running : s.finished ≡ false

-- the reading of the pending bytes and one more
abbrev pub reading_with : ParserState → ℕ → Reading
reading_with s byte = reading_at s.context (s.place - length s.pending) (s.pending ++ byte ∷ [])

-- the state after one byte more
abbrev pub parser_after : ParserState → ℕ → ParserState
parser_after s byte =
    let r = reading_with s byte in
    record { place = s.place + 1; context = r.context; pending = r.pending; finished = s.finished }

-- the reading of the pending bytes alone, which has no items
abbrev pub pending_reading : ParserState → Reading
pending_reading s =
    record { items = []; context = s.context; at = s.place - length s.pending; pending = s.pending }

-- the state after the end of the input: nothing is pending
abbrev pub finished_state : ParserState → ParserState
finished_state s = record { place = s.place; context = s.context; pending = []; finished = true }
