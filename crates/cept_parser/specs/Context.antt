-- The context in which bytes are read (this profile's own): the mode, the kind of colours, and the form of downloaded
-- patterns.
use Rattle.cept_parser.specs.declared.context.Mode.{Mode}
use Rattle.cept_parser.specs.declared.context.Mode.TheVariants.{Text}
use Rattle.cept_parser.specs.declared.context.ColourKind.TheVariants.{ColourTable}
use Rattle.cept_parser.specs.declared.context.Context.{Context}

-- the context before the first byte: patterns of 12 by 10 pixels in one plane
abbrev pub start_context : Context
start_context = record { mode = Text; kind = ColourTable; form = record { w = 12; h = 10; planes = 1 } }

-- the context in another mode
abbrev pub with_mode : Context → Mode → Context
with_mode x m = record { mode = m; kind = x.kind; form = x.form }
