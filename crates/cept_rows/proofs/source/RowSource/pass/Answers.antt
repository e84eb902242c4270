use Rattle.cept_rows.proofs.source.RowSource.pass.Goals as goal

pub returns-clause-carried : goal.returns-clause-carried
returns-clause-carried c =
    rw (← c.cells.ensures, ← c.number.ensures.number) (c.pass.ensures.influence c.args.self.now.row_pen
    c.args.self.now.screen_pen (rw (c.cells.ensures, c.number.ensures.number) c.requires.carried))

pub returns-clause-full : goal.returns-clause-full
returns-clause-full c =
    rw (← c.cells.ensures, ← c.number.ensures.number) (c.pass.ensures.full c.args.self.now.row_pen
    c.args.self.now.screen_pen (rw (c.cells.ensures, c.number.ensures.number) c.requires.carried))
