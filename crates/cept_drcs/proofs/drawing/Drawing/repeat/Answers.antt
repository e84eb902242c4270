use Rattle.cept_drcs.proofs.DrawnLines.{pairs_fit_in, kept_lines, long_pairs, repeated_six, repeated_pairs}
use Rattle.cept_drcs.proofs.drawing.Drawing.repeat.Goals as goal

pub add_pairs-requires : goal.add_pairs-requires
add_pairs-requires c =
    pairs_fit_in _ _ _ _ _ _ c.args.lines c.self.invariant c.self.view_is c.requires.whole c.requires.enough
    c.if-self-eq6.false

pub invariant_of-self-else-self-eq6 : goal.invariant_of-self-else-self-eq6
invariant_of-self-else-self-eq6 c =
    kept_lines _ _ _ _ c.self.inside.strips _ _ c.args.lines c.self.invariant c.self.view_is c.requires.whole
    c.requires.enough
    (long_pairs c.self.inside.form c.self.inside.strips _ c.args.lines _ _ c.if-self-eq6.false c.add_pairs.ensures)

pub returns-then-self-eq6 : goal.returns-then-self-eq6
returns-then-self-eq6 c =
    repeated_six _ _ _ c.self.inside.strips _ _ c.args.lines _ _ _ c.self.view_is c.requires.whole c.if-self-eq6.true
    c.add.ensures c.before-line.ensures

pub returns-else-self-eq6 : goal.returns-else-self-eq6
returns-else-self-eq6 c =
    repeated_pairs _ _ _ c.self.inside.strips _ _ c.args.lines _ _ _ c.self.view_is c.requires.whole c.if-self-eq6.false
    c.add_pairs.ensures c.before-line.ensures
