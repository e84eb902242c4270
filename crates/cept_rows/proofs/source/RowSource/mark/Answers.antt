use Rattle.std.proofs.Common.{subst}
use Rattle.cept_codes.specs.Cell.{IsValidWhat}
use Rattle.cept_rows.proofs.source.RowSource.mark.Goals as goal

pub returns-clause-carried : goal.returns-clause-carried
returns-clause-carried c =
    rw (← c.cells.ensures, ← c.number.ensures.number) (c.mark.ensures.influence c.args.self.now.row_pen
    c.args.self.now.screen_pen (rw (c.cells.ensures, c.number.ensures.number) c.requires.carried))

pub returns-clause-at_once : goal.returns-clause-at_once
returns-clause-at_once c acts =
    rw (← c.cells.ensures, ← c.number.ensures.number) (c.mark.ensures.at_once acts c.args.self.now.row_pen
    c.args.self.now.screen_pen (rw (c.cells.ensures, c.number.ensures.number) c.requires.carried))

pub returns-clause-later : goal.returns-clause-later
returns-clause-later c waits =
    rw (← c.cells.ensures, ← c.number.ensures.number) (c.mark.ensures.later waits c.args.self.now.row_pen
    c.args.self.now.screen_pen (rw (c.cells.ensures, c.number.ensures.number) c.requires.carried))

pub returns-clause-held : goal.returns-clause-held
returns-clause-held c =
    rw (← c.cells.ensures, ← c.number.ensures.number) (c.mark.ensures.held c.args.self.now.row_pen
    c.args.self.now.screen_pen (rw (c.cells.ensures, c.number.ensures.number) c.requires.carried))

pub returns-clause-valid : goal.returns-clause-valid
returns-clause-valid c =
    c.mark.ensures.valid (subst IsValidWhat c.requires.there (c.valid_by_type.ensures.cells c.args.column
    c.number.ensures.in_range.0 c.number.ensures.in_range.1))
