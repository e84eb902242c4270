use Rattle.cept_rows.proofs.resolving.resolve_cells_between.Goals as goal

pub each_between-requires : goal.each_between-requires
each_between-requires g c = record { left = c.requires.left; right = c.requires.right }

pub returns-clause-looks : goal.returns-clause-looks
returns-clause-looks g c = c.each_between.ensures.looks

pub returns-clause-order : goal.returns-clause-order
returns-clause-order g c = c.each_between.ensures.order

pub returns-clause-to_right : goal.returns-clause-to_right
returns-clause-to_right g c = c.each_between.ensures.to_right

pub returns-clause-stays : goal.returns-clause-stays
returns-clause-stays g c = c.each_between.ensures.stays
