-- What it is for bytes to be the beginning of a whole unit or refused shape, and for a byte to fit after them. The
-- closed forms of the grammar mean this.
use Rattle.std.specs.Prelude.{◌≡◌, ℕ, ◌<◌, true, false, List, [], ◌∷◌, ◌++◌, Some}
use Rattle.cept_parser.specs.declared.context.Context.{Context}
use Rattle.cept_parser.specs.declared.context.Outcome.{Outcome}
use Rattle.cept_parser.specs.Grammar.{unit, fits}
use Rattle.cept_parser.specs.Items.{is_refusal}
use Rattle.cept_parser.specs.Valid.{AreBytes}

-- with further bytes they are whole
pub record IsBeginning (x : Context) (u : List ℕ) : Type 0 where
  pub rest : List ℕ
  pub bytes : AreBytes rest
  pub whole : Outcome
  pub is : unit x (u ++ rest) ≡ Some whole

-- a byte fits after them
pub record IsContinued (x : Context) (u : List ℕ) : Type 0 where
  pub byte : ℕ
  pub small : byte < 256
  pub fit : fits x (u ++ byte ∷ []) ≡ true

-- they are a whole unit, a command
pub record IsCommandUnit (x : Context) (u : List ℕ) : Type 0 where
  pub whole : Outcome
  pub is : unit x u ≡ Some whole
  pub command : is_refusal whole.said ≡ false
