use Rattle.cept_repaint.proofs.NotedStates.{unwound-behind}
use Rattle.cept_repaint.proofs.NotedCommands.{noted-some}
use Rattle.cept_repaint.proofs.screen.Screen.apply_noting.Goals as goal

pub returns-clause-unwound : goal.returns-clause-unwound
returns-clause-unwound g c =
    unwound-behind c.apply_with.new.noter c.args.delta.now c.args.self.now c.apply_with.new.self
    c.apply_with.ensures.unwound

pub returns-clause-noted : goal.returns-clause-noted
returns-clause-noted g c =
    noted-some c.args.self.now c.args.command c.args.delta.now c.apply_with.new.noter c.apply_with.ensures.noted
