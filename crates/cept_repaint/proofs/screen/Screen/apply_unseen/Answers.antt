use Rattle.std.proofs.Common.{sym, subst}
use Rattle.cept_profile.specs.State.{State}
use Rattle.cept_repaint.specs.Applied.{IsWritten}
use Rattle.cept_repaint.proofs.AppliedCommands.{IsWritten-unseen, goes_on_after}
use Rattle.cept_repaint.proofs.screen.Screen.apply_unseen.Goals as goal

pub returns-clause-written : goal.returns-clause-written
returns-clause-written g c =
    subst (λ (s : State). IsWritten s c.args.command.now c.write.new.self c.write.new.marks c.args.steps.now c.write.new.steps)
    (c.write_attribute.ensures.left c.if-write_attribute.false) c.write.ensures.written

pub returns-then-write_attribute-clause-written : goal.returns-then-write_attribute-clause-written
returns-then-write_attribute-clause-written g c =
    IsWritten-unseen c.args.self.now c.args.command.now c.write_attribute.new.self c.write_attribute.new.marks
    c.args.steps.now (c.write_attribute.ensures.after c.if-write_attribute.true) (sym c.write_attribute.ensures.looks)
    (c.write_attribute.ensures.marks c.if-write_attribute.true)
    (c.write_attribute.ensures.strokes c.if-write_attribute.true)

pub returns-clause-goes_on : goal.returns-clause-goes_on
returns-clause-goes_on g c =
    goes_on_after c.args.self.now c.write.new.self c.args.command.now c.requires (returns-clause-written g c).after

pub returns-then-write_attribute-clause-goes_on : goal.returns-then-write_attribute-clause-goes_on
returns-then-write_attribute-clause-goes_on g c =
    goes_on_after c.args.self.now c.write_attribute.new.self c.args.command.now c.requires
    (c.write_attribute.ensures.after c.if-write_attribute.true)
