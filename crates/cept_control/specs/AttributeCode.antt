-- The C1 codes under the parallel set (this project's own): each sets an attribute of the pen and makes no stroke.
-- Flash modes and stop conceal do the same under this set, but aren't meant here.
use Rattle.std.specs.Prelude.{Bool, true, false}
use Rattle.cept_codes.specs.declared.command.C1Set.{C1Set}
use Rattle.cept_codes.specs.declared.command.C1Set.TheVariants as c1sets
use Rattle.cept_codes.specs.declared.command.Command.{Command}
use Rattle.cept_codes.specs.declared.command.Command.TheVariants as commands

-- a C1 code under the parallel set
abbrev pub is_attribute_code : C1Set → Command → Bool
is_attribute_code c1sets.Parallel (commands.C1 n) = true
is_attribute_code _ _ = false
