use Rattle.cept_codes.specs.Look.{black_paint}
use Rattle.cept_delta.proofs.PutBack.{entries_back-empty}
use Rattle.cept_delta.proofs.unwinding.unwind_colours.Goals as goal

pub returns-else-has_colours-clause-paints : goal.returns-else-has_colours-clause-paints
returns-else-has_colours-clause-paints c =
    entries_back-empty black_paint 0 32 c.args.delta.now.paints c.args.colours.now.paints c.requires.entries
    (c.has_colours.ensures.paints c.if-has_colours.false)

pub returns-else-has_colours-clause-dclut : goal.returns-else-has_colours-clause-dclut
returns-else-has_colours-clause-dclut c =
    entries_back-empty 0 0 4 c.args.delta.now.dclut c.args.colours.now.dclut c.requires.names
    (c.has_colours.ensures.dclut c.if-has_colours.false)
