-- fewer bytes may come
use Rattle.cept_parser.proofs.fit.+sequence.Given as goal

abbrev pub decreases-sequence : goal.decreases-sequence
decreases-sequence l = l.most
