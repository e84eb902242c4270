use Rattle.cept_writer.proofs.ChainLemmas.{chains_joined, chains_longest}
use Rattle.cept_writer.proofs.law.chains.chains_cut_where_none_goes_on.Goals as goal

pub returns : goal.returns
returns g c = record { joined = chains_joined; longest = chains_longest }
