use Rattle.cept_rows.proofs.RowsByPart.{look_from-alike}
use Rattle.cept_rows.proofs.resolving.rows_show_what_stands_to_the_left.Goals as goal

pub returns : goal.returns
returns c = look_from-alike
