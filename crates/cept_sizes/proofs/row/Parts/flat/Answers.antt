use Rattle.std.proofs.Common.{refl}
use Rattle.cept_codes.specs.Table.{row_of}
use Rattle.cept_sizes.proofs.ValidRow.{IsValidPart-flat_parts}
use Rattle.cept_sizes.proofs.row.Parts.flat.Goals as goal

pub returns : goal.returns
unfolding row_of
returns c = record { parts = refl; valid = IsValidPart-flat_parts }
