use Rattle.std.proofs.Common.{refl}
use Rattle.std.proofs.lemmas.Bool.{or_parts}
use Rattle.std.proofs.lemmas.List.{length-replicate}
use Rattle.cept_rows.specs.SmallLooks.{blank_small}
use Rattle.cept_rows.proofs.Columns.{length-row_of}
use Rattle.cept_rows.proofs.KeptLooks.{low_in_flat, plain_in_flat, small_in_flat}
use Rattle.cept_rows.proofs.KeptRows.{columns_of, no_patterns, none_covers}
use Rattle.cept_rows.proofs.row_looks.RowLooks.clear.Goals as goal

pub invariant_of-self : goal.invariant_of-self
invariant_of-self c = record {
  columns = length-replicate 40 blank_small;
  drawings = c.self.invariant.drawings;
  small = small_in_flat c.self.inside.drawn;
  plain = λ _. plain_in_flat;
  low = λ _. low_in_flat;
}

pub returns-then-self-clause-columns : goal.returns-then-self-clause-columns
returns-then-self-clause-columns c = length-row_of _

pub returns-else-self-clause-columns : goal.returns-else-self-clause-columns
returns-else-self-clause-columns c = columns_of c.self.inside c.args.self.now c.self.view_is

pub returns-then-self-clause-plain : goal.returns-then-self-clause-plain
returns-then-self-clause-plain c = no_patterns _ _ (invariant_of-self c) refl refl

pub returns-else-self-clause-plain : goal.returns-else-self-clause-plain
returns-else-self-clause-plain c =
    no_patterns c.self.inside c.args.self.now c.self.invariant c.self.view_is
    (or_parts c.self.inside.patterned c.self.inside.tall c.if-self.false).0

pub returns-then-self-clause-low : goal.returns-then-self-clause-low
returns-then-self-clause-low c = none_covers _ _ (invariant_of-self c) refl refl

pub returns-else-self-clause-low : goal.returns-else-self-clause-low
returns-else-self-clause-low c =
    none_covers c.self.inside c.args.self.now c.self.invariant c.self.view_is
    (or_parts c.self.inside.patterned c.self.inside.tall c.if-self.false).1
