use Rattle.std.proofs.Common.{arith}
use Rattle.cept_drcs.proofs.KeptDrawings.{end_most}
use Rattle.cept_drcs.proofs.DrawnLines.{lines_fit_in, kept_lines, skipped_shown, long_skipped}
use Rattle.cept_drcs.proofs.drawing.Drawing.skip.Goals as goal

pub pad-requires-clause-room : goal.pad-requires-clause-room
pad-requires-clause-room c =
    omega (
      arith,
      end_most _ _ _ _ _ c.self.invariant,
      lines_fit_in _ _ _ _ _ _ c.args.lines c.self.invariant c.self.view_is c.requires.whole c.requires.enough,
    )

pub invariant_of-self : goal.invariant_of-self
invariant_of-self c =
    kept_lines _ _ _ _ _ _ _ c.args.lines c.self.invariant c.self.view_is c.requires.whole c.requires.enough
    (long_skipped c.self.inside.strips _ c.self.inside.form.w c.args.lines c.len.result c.strips_in-strips.result
    c.len.ensures.len c.strips_in-strips.ensures.strips c.pad.ensures)

pub returns : goal.returns
returns c =
    skipped_shown _ _ _ c.len.result c.strips_in-strips.result c.self.inside.strips _ _ c.args.lines c.self.view_is
    c.requires.whole c.len.ensures.len c.strips_in-strips.ensures.strips c.pad.ensures
