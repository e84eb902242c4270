use Rattle.std.proofs.Common.{◌≡◌, None, nat_lt}
use Rattle.cept_profile.specs.OldValues.{old_pattern}
use Rattle.cept_delta.specs.inside.PutBack.{entries_back}
use Rattle.cept_delta.proofs.unwinding.unwind_patterns.Given as goal

abbrev pub invariant-loop-code : goal.invariant-loop-code
invariant-loop-code l =
    l.patterns ≡ entries_back None 0x21 94 (λ d. nat_lt d l.code) (old_pattern l.delta) l.fn.patterns
