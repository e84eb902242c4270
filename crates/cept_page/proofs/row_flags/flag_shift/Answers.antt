use Rattle.std.proofs.Common.{Bool, false, List, length, ap, ◌∙◌, ◌||◌, arith}
use Rattle.cept_codes.specs.Table.{entry}
use Rattle.cept_codes.proofs.Laws.{entry-list_by_index, length-list_by_index}
use Rattle.cept_page.proofs.row_flags.flag_shift.Goals as goal

pub returns : goal.returns
returns c = record {
  marked_rows = ap length c.shifted_rows.ensures ∙ length-list_by_index 1 24 _;
  sized_rows = ap length c.either_flags.ensures ∙ length-list_by_index 1 24 _;
  marked = λ r low high. ap (λ (l : List Bool). entry false 1 l r) c.shifted_rows.ensures
      ∙ entry-list_by_index false 1 24 _ r low (omega (arith, high));
  sized = λ r low high. ap (λ (l : List Bool). entry false 1 l r) c.either_flags.ensures
      ∙ entry-list_by_index false 1 24 _ r low (omega (arith, high))
      ∙ ap (λ (moved : Bool). entry false 1 c.args.sized.now r || moved)
      (ap (λ (l : List Bool). entry false 1 l r) c.shifted_rows-moved.ensures
      ∙ entry-list_by_index false 1 24 _ r low (omega (arith, high)));
}
