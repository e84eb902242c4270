-- What rows that are shifted need of memory (this project's own).
use Rattle.std.specs.Prelude.{◌*◌, ◌<◌, ◌^◌}
use Rattle.std.specs.Mem.{type_size}
use denote.RattleType.{RattleType}

-- a value of this type for each row has room in memory
abbrev pub RowsFit : RattleType → Type 0
RowsFit R = 24 * type_size R < 2 ^ 63
