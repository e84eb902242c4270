use Rattle.std.proofs.Common.{drop, ◌+◌, ap, ◌∙◌, arith}
use Rattle.cept_outside.proofs.SlicesFilled.{rest_stays}
use Rattle.cept_outside.proofs.slice_sink.SliceSinkSink.put.Goals as goal

pub invariant_of-self-2-clause-rest : goal.invariant_of-self-2-clause-rest
invariant_of-self-2-clause-rest g c =
    ap (drop (c.args.self.now.count + c.put_behind-count.result)) c.put_behind-count.ensures.put
    ∙ rest_stays c.args.self.now.count c.put_behind-count.result c.args.self.now.out.now c.args.piece.now
    g.B.Lent.before c.args.self.now.within (omega (arith, c.put_behind-count.ensures.count)) c.args.self.now.rest
