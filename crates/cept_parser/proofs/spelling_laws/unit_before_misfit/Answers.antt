use Rattle.cept_parser.proofs.BreakerLemmas.{breaker_fails}
use Rattle.cept_parser.proofs.EndedUnitLemmas.{read_ended, said_ended, said_last}
use Rattle.cept_parser.proofs.spelling_laws.unit_before_misfit.Goals as goal

pub returns : goal.returns
returns c =
    record {
      unit = read_ended;
      breaker = breaker_fails;
      said = said_ended;
      last = said_last;
    }
