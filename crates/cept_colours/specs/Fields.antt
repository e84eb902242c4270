-- The fields of `Colours`, and what they hold. The model alone cites this file.
use Rattle.cept_colours.specs.declared.colours.Colours.TheInside.{Inside}
use Rattle.cept_colours.specs.Colours.{ColourTables}

-- what the fields hold
abbrev pub tables_of : Inside → ColourTables
tables_of c = record { paints = c.paints; dclut = c.dclut }

-- the fields that hold this
abbrev pub fields_of : ColourTables → Inside
fields_of c = record { paints = c.paints; dclut = c.dclut }
