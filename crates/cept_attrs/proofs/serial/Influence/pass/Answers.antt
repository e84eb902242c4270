use Rattle.cept_attrs.proofs.RowWalk.{passed_held, passed_full, passed_influence}
use Rattle.cept_attrs.proofs.serial.Influence.pass.Goals as goal

pub returns-clause-influence : goal.returns-clause-influence
returns-clause-influence c row screen is =
    passed_influence c.args.cells.now row screen c.args.column c.args.self.now c.requires.from_left c.requires.plain is

pub returns-clause-full : goal.returns-clause-full
returns-clause-full c row screen is =
    passed_full c.args.cells.now row screen c.args.column c.args.self.now c.requires.from_left c.requires.plain is

pub returns-clause-held : goal.returns-clause-held
returns-clause-held c = passed_held c.args.cells.now c.args.column c.requires.plain
