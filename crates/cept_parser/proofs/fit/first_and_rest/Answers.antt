use Rattle.cept_parser.proofs.fit.first_and_rest.Goals as goal

pub returns-in-27 : goal.returns-in-27
returns-in-27 c = rw c.in-27.is (c.escape_sequence.ensures c.args.ended)
