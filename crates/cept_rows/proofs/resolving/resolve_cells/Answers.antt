use Rattle.std.proofs.Common.{arith}
use Rattle.cept_codes.specs.Look.{blank_look}
use Rattle.cept_profile.specs.RowsFromAbove.{row_from_above}
use Rattle.cept_rows.specs.Source.{place_made}
use Rattle.cept_rows.proofs.Columns.{made_all}
use Rattle.cept_rows.proofs.RowsByPart.{made_columns}
use Rattle.cept_rows.proofs.resolving.resolve_cells.Goals as goal

pub returns-then-from-eq41-clause-looks : goal.returns-then-from-eq41-clause-looks
unfolding row_from_above
returns-then-from-eq41-clause-looks g c =
    made_all blank_look _ _ c.each_first-from.new.looks c.each_first-from.result c.each_first-from.ensures.looks
    (omega (arith, c.if-from-eq41.true))

pub each_between-end-requires : goal.each_between-end-requires
each_between-end-requires g c = rw c.numbered.ensures (record {
  left = made_columns (place_made c.args.source.now c.args.above.now) _ c.each_first-from.new.looks
      c.each_first-from.result c.each_first-from.ensures.to_right c.each_first-from.ensures.looks;
  right = λ n past high alike. absurd (omega (arith, past, high));
})

pub returns-clause-looks : goal.returns-clause-looks
returns-clause-looks g c = c.each_between-end.ensures.looks
