use Rattle.cept_parser.proofs.GrammarLemmas.{whole_fits}
use Rattle.cept_parser.proofs.OneByteMoreLemmas.{read_unit}
use Rattle.cept_parser.proofs.laws.unit_then_rest.Goals as goal

pub returns : goal.returns
returns c x at u s o e g = read_unit x at u s o e (whole_fits x u o e) g
