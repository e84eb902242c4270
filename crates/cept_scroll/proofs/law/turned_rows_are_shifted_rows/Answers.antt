use Rattle.cept_scroll.proofs.Orders.{by_row-turned}
use Rattle.cept_scroll.proofs.law.turned_rows_are_shifted_rows.Goals as goal

pub returns : goal.returns
returns g c = by_row-turned
