-- Pending bytes of a parser (this project's own), and what becomes of them where the next byte doesn't fit. The model
-- and private clauses alone cite this file.
use Rattle.std.specs.Prelude.{◌≡◌, ℕ, ◌≤◌, ◌<◌, ◌^◌, Bool, true, false, ◌&&◌, List, [], ◌∷◌, ◌++◌, length}
use Rattle.std.specs.Prelude.{None}
use Rattle.cept_codes.specs.Command.{IsValidForm}
use Rattle.cept_codes.specs.declared.item.Item.{Item}
use Rattle.cept_drcs.specs.Loading.{Loading, Leads}
use Rattle.cept_parser.specs.declared.context.Mode.{Mode}
use Rattle.cept_parser.specs.declared.context.Mode.TheVariants.{Text, TableRun, DclutRun, DrcsRun, Skip}
use Rattle.cept_parser.specs.declared.context.Context.{Context}
use Rattle.cept_parser.specs.Bytes.{is_plain}
use Rattle.cept_parser.specs.Fit.{starts_pattern}
use Rattle.cept_parser.specs.Grammar.{fits}
use Rattle.cept_parser.specs.declared.reader.Reader.{Reader}
use Rattle.cept_parser.specs.Items.{Reading, front, reading_at}
use Rattle.cept_parser.specs.Valid.{IsValidContext, AreBytes}

-- bytes p wait in context x, and stand right before the place: none of them is an item yet
pub record Waits (x : Context) (place : ℕ) (p : List ℕ) : Type 0 where
  pub waits : front x p ≡ None
  pub counted : length p ≤ place
  pub context : IsValidContext x
  pub bytes : AreBytes p

-- a byte that begins a pattern in this mode
abbrev pub begins_in : Mode → Context → ℕ → Bool
begins_in Text x a = false
begins_in Skip x a = false
begins_in (TableRun i) x a = false
begins_in (DclutRun i) x a = false
begins_in (DrcsRun c) x a = starts_pattern x c a

-- bytes of which the first begins a pattern in this context
abbrev pub in_pattern : Context → List ℕ → Bool
in_pattern x [] = false
in_pattern x (a ∷ u) = is_plain a && begins_in x.mode x a

-- a loader reads pending bytes exactly where the first of them begins a pattern, and then they lead to its state
pub record IsBeside (x : Context) (u : List ℕ) (loading : Bool) (l : Loading) : Type 0 where
  pub pattern : loading ≡ in_pattern x u
  pub leads : loading ≡ true → Leads x.form u l

-- bytes that end here or not, in this context; of a pattern it is the first one alone
pub record AreToFit (x : Context) (u : List ℕ) (ended : Bool) : Type 0 where
  pub form : IsValidForm x.form
  pub other : in_pattern x u ≡ true → (length u ≡ 1) × (ended ≡ false)

-- the bytes of a reader wait in its context and stand right before the place, and its loader reads them as above
pub record IsWaiting (s : Reader) (place : ℕ) : Type 0 where
  pub waits : Waits s.context place s.bytes
  pub beside : IsBeside s.context s.bytes s.loading s.loader

-- the same, near enough to the first place that no place is lost, and no item closed yet
pub record MayRead (s : Reader) (place : ℕ) (closed : List Item) : Type 0 where
  pub waits : IsWaiting s place
  pub few : place < 2 ^ 33
  pub empty : closed ≡ []

-- what is pending in a reader fits, and its loader reads it as above
pub record HasFitting (s : Reader) : Type 0 where
  pub form : IsValidForm s.context.form
  pub beside : IsBeside s.context s.bytes s.loading s.loader
  pub fits : fits s.context s.bytes ≡ true

-- a reader has what a reading leaves, and its loader reads what is pending as above
pub record HasLeft (r : Reading) (s : Reader) : Type 0 where
  pub context : s.context ≡ r.context
  pub pending : s.bytes ≡ r.pending
  pub beside : IsBeside s.context s.bytes s.loading s.loader

-- a reader read one byte more after what was pending in it at this place: these are the items closed
pub record HasRead (old : Reader) (at a : ℕ) (closed : List Item) (new : Reader) : Type 0 where
  pub items : closed ≡ (reading_at old.context at (old.bytes ++ a ∷ [])).items
  pub left : HasLeft (reading_at old.context at (old.bytes ++ a ∷ [])) new
