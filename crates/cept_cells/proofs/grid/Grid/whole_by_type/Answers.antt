use Rattle.cept_scroll.proofs.Laws.{IsTable-rows}
use Rattle.cept_cells.proofs.grid.Grid.whole_by_type.Goals as goal

pub returns : goal.returns
returns c = IsTable-rows c.self.invariant c.self.view_is
