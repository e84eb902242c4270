use Rattle.std.proofs.Common.{◌∙◌}
use Rattle.cept_rows.proofs.KeptRows.{drawings_kept, drawings_shown}
use Rattle.cept_rows.proofs.row_looks.RowLooks.copy_from.Goals as goal

pub invariant_of-self-else-other : goal.invariant_of-self-else-other
invariant_of-self-else-other c =
    drawings_kept c.other.inside c.self.inside.drawn c.other.invariant c.if-other.false c.self.invariant.drawings

pub returns-else-other : goal.returns-else-other
returns-else-other c =
    drawings_shown c.other.inside c.self.inside.drawn c.other.invariant c.if-other.false ∙ c.other.view_is
