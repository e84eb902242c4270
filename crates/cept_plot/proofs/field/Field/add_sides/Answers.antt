use Rattle.cept_plot.proofs.SidesSet.{IsSet-sides}
use Rattle.cept_plot.proofs.field.Field.add_sides.Goals as goal

pub returns : goal.returns
returns c =
    IsSet-sides c.args.self.now c.set_row.new.self c.set_row-2.new.self c.set_rows.new.self c.set_rows-2.new.self
    c.args.a c.args.b c.min-left.result c.max-right.result c.min-top.result c.max-bottom.result c.min-left.ensures
    c.max-right.ensures c.min-top.ensures c.max-bottom.ensures c.set_row.ensures c.set_row-2.ensures
    c.set_rows.ensures c.set_rows-2.ensures
