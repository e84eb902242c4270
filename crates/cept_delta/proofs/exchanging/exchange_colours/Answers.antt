use Rattle.cept_codes.specs.Look.{black_paint}
use Rattle.cept_profile.specs.PageParts.{dclut_in, paint_in}
use Rattle.cept_delta.proofs.ExchangedValues.{noted-none}
use Rattle.cept_delta.proofs.PutBack.{entries_back-empty}
use Rattle.cept_delta.proofs.exchanging.exchange_colours.Goals as goal

pub returns-else-coloured-clause-noted : goal.returns-else-coloured-clause-noted
returns-else-coloured-clause-noted c =
    noted-none 0 32 (paint_in c.args.colours.now.paints) c.args.paints.now c.requires.places
    (c.requires.no_paints c.if-coloured.false)

pub returns-else-coloured-clause-noted_dclut : goal.returns-else-coloured-clause-noted_dclut
returns-else-coloured-clause-noted_dclut c =
    noted-none 0 4 (dclut_in c.args.colours.now.dclut) c.args.dclut.now c.requires.name_places
    (c.requires.no_dclut c.if-coloured.false)

pub returns-else-coloured-clause-paints : goal.returns-else-coloured-clause-paints
returns-else-coloured-clause-paints c =
    entries_back-empty black_paint 0 32 c.args.paints.now c.args.colours.now.paints c.requires.entries
    (c.requires.no_paints c.if-coloured.false)

pub returns-else-coloured-clause-dclut : goal.returns-else-coloured-clause-dclut
returns-else-coloured-clause-dclut c =
    entries_back-empty 0 0 4 c.args.dclut.now c.args.colours.now.dclut c.requires.names
    (c.requires.no_dclut c.if-coloured.false)
