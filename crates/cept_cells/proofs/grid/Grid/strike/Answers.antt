use Rattle.std.proofs.Common.{rules}
use Rattle.cept_cells.proofs.CellsAfterStrokes.{cells_after-unchanged}
use Rattle.cept_cells.proofs.grid.Grid.strike.Goals as goal

pub returns : goal.returns
returns c = cells_after-unchanged c.args.self.now c.args.stroke.now c.whole_by_type.ensures (search rules)

pub returns-2 : goal.returns-2
returns-2 c = cells_after-unchanged c.args.self.now c.args.stroke.now c.whole_by_type.ensures (search rules)

pub returns-3 : goal.returns-3
returns-3 c = cells_after-unchanged c.args.self.now c.args.stroke.now c.whole_by_type.ensures (search rules)

pub returns-4 : goal.returns-4
returns-4 c = cells_after-unchanged c.args.self.now c.args.stroke.now c.whole_by_type.ensures (search rules)

pub returns-5 : goal.returns-5
returns-5 c = cells_after-unchanged c.args.self.now c.args.stroke.now c.whole_by_type.ensures (search rules)

pub returns-6 : goal.returns-6
returns-6 c = cells_after-unchanged c.args.self.now c.args.stroke.now c.whole_by_type.ensures (search rules)

pub returns-7 : goal.returns-7
returns-7 c = cells_after-unchanged c.args.self.now c.args.stroke.now c.whole_by_type.ensures (search rules)

pub returns-8 : goal.returns-8
returns-8 c = cells_after-unchanged c.args.self.now c.args.stroke.now c.whole_by_type.ensures (search rules)

pub returns-9 : goal.returns-9
returns-9 c = cells_after-unchanged c.args.self.now c.args.stroke.now c.whole_by_type.ensures (search rules)
