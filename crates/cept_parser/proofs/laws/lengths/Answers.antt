use Rattle.cept_parser.proofs.GrammarLemmas.{open_small, refused_small}
use Rattle.cept_parser.proofs.ValidOutcomeLemmas.{fits_hundred}
use Rattle.cept_parser.proofs.laws.lengths.Goals as goal

pub returns : goal.returns
returns c = record { fits = fits_hundred; incomplete = open_small; refused = refused_small }
