use Rattle.cept_parser.proofs.ReadsLemmas.{spellings-append, context_after_all-append, spelled-append}
use Rattle.cept_parser.proofs.spelling_laws.spellings_join.Goals as goal

pub returns : goal.returns
returns c =
    assumption (spellings-append, context_after_all-append, spelled-append)
