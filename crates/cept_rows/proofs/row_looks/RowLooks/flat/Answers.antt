use Rattle.std.proofs.Common.{replicate}
use Rattle.std.proofs.lemmas.List.{length-replicate}
use Rattle.cept_codes.specs.Look.{blank_look}
use Rattle.cept_rows.specs.KeptRows.{kept_in}
use Rattle.cept_rows.specs.SmallLooks.{blank_small, no_drawing}
use Rattle.cept_rows.proofs.Columns.{same_rows}
use Rattle.cept_rows.proofs.KeptLooks.{kept_in_flat, low_in_flat, plain_in_flat, small_in_flat}
use Rattle.cept_rows.proofs.row_looks.RowLooks.flat.Goals as goal

pub invariant_of-result : goal.invariant_of-result
invariant_of-result c = record {
  columns = length-replicate 40 blank_small;
  drawings = length-replicate 40 no_drawing;
  small = small_in_flat (replicate 40 no_drawing);
  plain = λ _. plain_in_flat;
  low = λ _. low_in_flat;
}

pub returns : goal.returns
returns c =
    same_rows (kept_in (replicate 40 blank_small) (replicate 40 no_drawing)) (λ _. blank_look)
    (λ n low high. kept_in_flat (replicate 40 no_drawing) n low high)
