-- Why a script isn't read (this project's own).
use Rattle.std.specs.Prelude.{◌≡◌, Option, Some}
use Rattle.cept_editor.specs.declared.script.ScriptFault.{ScriptFault}
use Rattle.cept_editor.specs.declared.script.ScriptFault.TheVariants as faults
use Rattle.cept_words.specs.Faults.{Fault}

-- an answer says the first fault of a script, or is free: out of memory
abbrev pub SaysFault : Option Fault → ScriptFault → Type 0
SaysFault first (faults.BadLine line reason) = first ≡ Some (record { line = line; reason = reason })
SaysFault first faults.NoMemory = Unit {0}
