use Rattle.cept_parser.proofs.SpellingLemmas.{spelled, grown}
use Rattle.cept_parser.proofs.SpellingByteLemmas.{spelling_some, spellings_bytes}
use Rattle.cept_parser.proofs.spelling_laws.spellings_are_units.Goals as goal

pub returns : goal.returns
returns c =
    record {
      is = spelled;
      grows = grown;
      some = spelling_some;
      bytes = spellings_bytes;
    }
