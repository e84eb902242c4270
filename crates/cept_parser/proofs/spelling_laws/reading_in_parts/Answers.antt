use Rattle.cept_parser.proofs.ReadsLemmas.{reads_nothing, reads_joined, reads_before, reads_list}
use Rattle.cept_parser.proofs.spelling_laws.reading_in_parts.Goals as goal

pub returns : goal.returns
returns c =
    record {
      nothing = reads_nothing;
      joined = reads_joined;
      before = reads_before;
      list = reads_list;
    }
