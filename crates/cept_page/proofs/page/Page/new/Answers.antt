use Rattle.std.proofs.Common.{ap}
use Rattle.cept_colours.specs.Colours.{ColourTables}
use Rattle.cept_page.proofs.MarkedRows.{IsKeptPage-start}
use Rattle.cept_page.proofs.PageParts.{page_start, row_pens_unset}
use Rattle.cept_page.proofs.page.Page.new.Goals as goal

pub returns : goal.returns
returns c =
    page_start c.in_ok-grid.grid c.new-3.result c.in_ok-patterns.patterns c.in_ok-grid.ensures c.new-3.ensures
    c.in_ok-patterns.ensures

pub invariant_of-result : goal.invariant_of-result
invariant_of-result c =
    IsKeptPage-start _ c.in_ok-grid.ensures row_pens_unset (ap (λ (t : ColourTables). t.paints) c.new-3.ensures)
    (ap (λ (t : ColourTables). t.dclut) c.new-3.ensures) c.in_ok-patterns.ensures
