use Rattle.std.proofs.Common.{ap}
use Rattle.cept_parser.specs.Context.{start_context}
use Rattle.cept_parser.specs.Items.{Reading}
use Rattle.cept_parser.proofs.ReadingInPartsLemmas.{read_append}
use Rattle.cept_parser.proofs.laws.reading_goes_on.Goals as goal

pub returns : goal.returns
returns c =
    record { parts = read_append; bytes = λ b s. ap (λ (r : Reading). r.items) (read_append start_context 0 b s) }
