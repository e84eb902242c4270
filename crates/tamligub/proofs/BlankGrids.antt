-- The grid of a blank glass is valid.
use Rattle.std.proofs.Common.{ℕ, sym, subst, arith}
use Rattle.cept_codes.specs.declared.look.Look.{Look}
use Rattle.cept_codes.specs.Look.{blank_look, IsValidLook}
use Rattle.cept_codes.specs.Table.{table}
use Rattle.cept_codes.proofs.Laws.{value_at-table, IsTable-table}
use Rattle.cept_profile.specs.Valid.{IsValidGrid}

valid_blank : IsValidLook blank_look
valid_blank = record {
  shape = tt;
  part = record {
    down = omega arith;
    right = omega arith;
    wide = (omega arith, omega arith);
    high = (omega arith, omega arith);
  };
  fore = record { r = omega arith; g = omega arith; b = omega arith };
  back = record { r = omega arith; g = omega arith; b = omega arith };
}

pub valid_blank_grid : IsValidGrid (table (λ _ _. blank_look))
valid_blank_grid = record {
  table = IsTable-table (λ (_ : ℕ) (_ : ℕ). blank_look);
  looks = λ r c on. subst (λ (l : Look). IsValidLook l) (sym (value_at-table (λ (_ : ℕ) (_ : ℕ). blank_look) blank_look r c on)) valid_blank;
}
