use Rattle.std.proofs.Common.{◌≡◌, nat_lt}
use Rattle.cept_profile.specs.OldValues.{with_patterns}
use Rattle.cept_profile.specs.PageParts.{pattern_in}
use Rattle.cept_delta.proofs.delta.Delta.note_patterns.Given as goal

abbrev pub invariant-loop-code : goal.invariant-loop-code
invariant-loop-code l = l.self ≡ with_patterns (λ d. nat_lt d l.code) (pattern_in l.patterns) l.fn.self
