use Rattle.std.proofs.Common.{subst, sym}
use Rattle.cept_codes.specs.Look.{IsValidLook}
use Rattle.cept_repaint.proofs.shown.shown_look.Goals as goal

pub returns-clause-valid : goal.returns-clause-valid
returns-clause-valid g c =
    subst IsValidLook (sym c.shown.ensures.look)
    ((g.met.G.Glass.valid c.args.glass.now).looks c.args.at.row c.args.at.column c.row-row.ensures.on_screen)
