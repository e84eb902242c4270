use Rattle.std.proofs.Common.{arith}
use Rattle.cept_drcs.proofs.KeptDrawings.{end_most}
use Rattle.cept_drcs.proofs.DrawnLines.{lines_fit_in, kept_lines, filled_shown, long_same}
use Rattle.cept_drcs.proofs.drawing.Drawing.fill.Goals as goal

pub add-requires : goal.add-requires
add-requires c =
    omega (
      arith,
      end_most _ _ _ _ _ c.self.invariant,
      lines_fit_in _ _ _ _ _ _ c.args.lines c.self.invariant c.self.view_is c.requires.whole c.requires.enough,
    )

pub invariant_of-self : goal.invariant_of-self
invariant_of-self c =
    kept_lines _ _ _ _ _ _ _ c.args.lines c.self.invariant c.self.view_is c.requires.whole c.requires.enough
    (long_same c.self.inside.form c.self.inside.strips _ c.args.lines _ _ c.strips_in-strips.ensures.strips
    c.add.ensures)

pub returns : goal.returns
returns c =
    filled_shown _ _ _ _ _ c.self.inside.strips _ _ c.args.lines c.self.invariant c.self.view_is c.requires.whole
    c.strips_in-strips.ensures.strips c.add.ensures
