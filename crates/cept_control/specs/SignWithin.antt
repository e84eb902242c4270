-- Signs that are written and move on within their row (this project's own): each puts one cell, and makes no other stroke.
use Rattle.std.specs.Prelude.{Bool, true, false, List, [], ◌∷◌, ◌+◌, ◌&&◌, nat_le}
use Rattle.cept_codes.specs.declared.command.Command.{Command}
use Rattle.cept_codes.specs.declared.command.Command.TheVariants as commands
use Rattle.cept_codes.specs.declared.glyph.Read.{Read}
use Rattle.cept_codes.specs.declared.glyph.Read.TheVariants as reads
use Rattle.cept_codes.specs.declared.stroke.Stroke.{Stroke}
use Rattle.cept_codes.specs.declared.stroke.Stroke.TheVariants as strokes
use Rattle.cept_profile.specs.Writing.{columns_under, graphic_read}
use Rattle.cept_profile.specs.Working.{ControlState}
use Rattle.cept_control.specs.declared.graphic.PutCell.{PutCell}

-- a sign was read, and no accent
abbrev pub is_sign : Read → Bool
is_sign (reads.Glyph g) = true
is_sign (reads.Accent code) = false

-- a graphic byte that gives a sign in this state, after which the position is in the same row
abbrev pub is_sign_within : ControlState → Command → Bool
is_sign_within s (commands.Graphic byte) =
    nat_le (s.working.column + columns_under s.working.c1 s.working) 40 && is_sign (graphic_read s byte)
is_sign_within s _ = false

-- the strokes where one cell is put, and nothing else
abbrev pub put_alone : PutCell → List Stroke
put_alone put = strokes.Put put.place put.cell ∷ []
