-- What private clauses say beside `Strips` (this project's own).
use Rattle.std.specs.Prelude.{ℕ}
use Rattle.std.specs.Prelude.{if◌then◌else◌, ◌==◌}
use Rattle.cept_drcs.specs.Strips.{strip_of, line_of_strips}

-- the line of these two strips; a line of six pixels is the second alone
abbrev pub strip_line : ℕ → ℕ → ℕ → ℕ
strip_line w a b = if w == 6 then strip_of b else line_of_strips a b
