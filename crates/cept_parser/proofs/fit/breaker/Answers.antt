use Rattle.std.proofs.Common.{refl}
use Rattle.cept_parser.specs.Grammar.{repetition}
use Rattle.cept_parser.specs.Units.{us_unit}
use Rattle.cept_parser.proofs.fit.breaker.Goals as goal

pub returns-in-18 : goal.returns-in-18
unfolding repetition
returns-in-18 c = rw c.in-18.is refl

pub returns-in-27 : goal.returns-in-27
returns-in-27 c = rw c.in-27.is refl

pub returns-in-31 : goal.returns-in-31
unfolding us_unit
returns-in-31 c = rw c.in-31.is refl
