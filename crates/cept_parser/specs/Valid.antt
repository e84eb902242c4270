-- The contexts that reading reaches, and what holds of each item (this project's own).
use Rattle.std.specs.Prelude.{ℕ, ◌≤◌, ◌<◌, List}
use Rattle.std.specs.List.{AllByRecursion}
use Rattle.cept_codes.specs.Command.{IsValidForm, IsValidSaid}
use Rattle.cept_codes.specs.declared.item.Item.{Item}
use Rattle.cept_codes.specs.declared.item.Said.{Said}
use Rattle.cept_codes.specs.declared.item.Said.TheVariants.{Command as Says, Refused}
use Rattle.cept_parser.specs.declared.context.Mode.{Mode}
use Rattle.cept_parser.specs.declared.context.Mode.TheVariants.{Text, TableRun, DclutRun, DrcsRun, Skip}
use Rattle.cept_parser.specs.declared.context.Context.{Context}

-- a run goes on to one after its last place
abbrev pub IsValidMode : Mode → Type 0
IsValidMode Text = Unit {0}
IsValidMode (TableRun i) = i ≤ 32
IsValidMode (DclutRun i) = i ≤ 4
IsValidMode (DrcsRun c) = (0x21 ≤ c) × (c ≤ 0x7F)
IsValidMode Skip = Unit {0}

-- the contexts that reading reaches
pub record IsValidContext (x : Context) : Type 0 where
  pub mode : IsValidMode x.mode
  pub form : IsValidForm x.form

-- each is a byte
abbrev pub AreBytes : List ℕ → Type 0
AreBytes b = AllByRecursion (λ a. a < 256) b

-- the greatest length: a hundred bytes of a command, ten of a refusal
abbrev pub greatest_length : Said → ℕ
greatest_length (Says c) = 100
greatest_length (Refused r) = 10

-- an item has at least one byte, and not too many
abbrev pub IsMeasured : Item → Type 0
IsMeasured i = (1 ≤ i.len) × (i.len ≤ greatest_length i.what)

-- the commands among items are valid
abbrev pub AreValid : List Item → Type 0
AreValid is = AllByRecursion (λ i. IsValidSaid i.what) is

-- the items have lengths in their ranges
abbrev pub AreMeasured : List Item → Type 0
AreMeasured is = AllByRecursion IsMeasured is
