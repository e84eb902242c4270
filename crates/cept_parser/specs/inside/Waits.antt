-- What private clauses say beside `Waits` (this project's own).
use Rattle.std.specs.Prelude.{◌≡◌, ℕ, ◌≤◌, true, false, List, [], ◌∷◌, ◌++◌, length}
use Rattle.std.specs.Prelude.{Option, Some, None}
use Rattle.cept_codes.specs.Command.{IsValidForm}
use Rattle.cept_codes.specs.declared.item.Item.{Item}
use Rattle.cept_codes.specs.declared.item.Reason.TheVariants.{Interrupted, Truncated}
use Rattle.cept_codes.specs.declared.item.Said.{Said}
use Rattle.cept_codes.specs.declared.item.Said.TheVariants.{Refused}
use Rattle.cept_parser.specs.declared.context.Mode.TheVariants.{Text}
use Rattle.cept_parser.specs.declared.context.Context.{Context}
use Rattle.cept_parser.specs.declared.context.Outcome.{Outcome}
use Rattle.cept_parser.specs.Context.{with_mode}
use Rattle.cept_parser.specs.Grammar.{unit, fits}
use Rattle.cept_parser.specs.declared.reader.Reader.{Reader}
use Rattle.cept_parser.specs.Waits.{in_pattern}

-- what bytes say after which the next byte doesn't fit: what they wholly are, else they are interrupted
abbrev pub outcome_at_misfit : Context → Option Outcome → Outcome
outcome_at_misfit x (Some c) = c
outcome_at_misfit x None = record { said = Refused Interrupted; next = with_mode x Text }

-- the item that bytes at this place are then
abbrev pub cut_item : Context → ℕ → List ℕ → Item
cut_item x at p = record { at = at; len = length p; what = (outcome_at_misfit x (unit x p)).said }

-- what pending bytes say at the end of the input: their command where they are a unit, else they are truncated
unfoldable pub said_at_end : Option Outcome → Said
said_at_end (Some c) = c.said
said_at_end None = Refused Truncated

-- at most 100 bytes that fit in this context and are no pattern
pub record AreToCut (x : Context) (u : List ℕ) : Type 0 where
  pub few : length u ≤ 100
  pub form : IsValidForm x.form
  pub other : in_pattern x u ≡ false
  pub fits : fits x u ≡ true

-- nothing is pending in a reader
pub record IsIdle (s : Reader) : Type 0 where
  pub none : s.bytes ≡ []
  pub free : s.loading ≡ false
  pub form : IsValidForm s.context.form

-- a reader closed what was pending in it at this place, after which the next byte didn't fit: these are the items before
-- and after
pub record HasClosed (old : Reader) (at : ℕ) (before after : List Item) (new : Reader) : Type 0 where
  pub items : after ≡ before ++ cut_item old.context at old.bytes ∷ []
  pub context : new.context ≡ (outcome_at_misfit old.context (unit old.context old.bytes)).next
  pub pending : new.bytes ≡ []
  pub free : new.loading ≡ false
