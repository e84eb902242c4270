-- The ledger on which ticks are made (this project's own).
use Rattle.std.specs.Prelude.{◌≡◌, ◌<◌, ℕ}

-- a blank ledger is the one of this name and of so many parts, of which it has one at least
pub record IsBlankOf (name parts blank_name blank_parts : ℕ) : Type 0 where
  pub same : blank_name ≡ name
  pub all : blank_parts ≡ parts
  pub some : 0 < blank_parts
