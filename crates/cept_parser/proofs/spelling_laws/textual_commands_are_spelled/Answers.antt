use Rattle.cept_parser.proofs.TextualLemmas.{textual_spelled, textual_after_all, textual-append, textual_each}
use Rattle.cept_parser.proofs.spelling_laws.textual_commands_are_spelled.Goals as goal

pub returns : goal.returns
returns c =
    record {
      spelled = textual_spelled;
      context = textual_after_all;
      joined = textual-append;
      each = textual_each;
    }
