-- Want of memory (own).
use Rattle.cept_codes.specs.declared.memory.NoMemory.{NoMemory}

-- the one error, which says no more
abbrev pub no_memory : NoMemory
no_memory = record {}
