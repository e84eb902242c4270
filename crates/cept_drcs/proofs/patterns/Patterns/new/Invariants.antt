use Rattle.std.proofs.Common.{◌≡◌, None}
use Rattle.cept_codes.specs.Table.{list_by_index}
use Rattle.cept_drcs.proofs.patterns.Patterns.new.Given as goal

abbrev pub invariant-loop-code : goal.invariant-loop-code
invariant-loop-code l = l.patterns.items ≡ list_by_index 0x21 l._code (λ _. None)
