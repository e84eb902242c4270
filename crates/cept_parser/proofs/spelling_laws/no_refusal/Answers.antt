use Rattle.cept_parser.proofs.ReadsLemmas.{said_start, no_refusals, commands_are}
use Rattle.cept_parser.proofs.spelling_laws.no_refusal.Goals as goal

pub returns : goal.returns
returns c =
    record {
      said = said_start;
      none = no_refusals;
      commands = commands_are;
    }
