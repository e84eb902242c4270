use Rattle.cept_parser.proofs.ResumedLemmas.{idle_waits, next_waits}
use Rattle.cept_parser.proofs.reader.Reader.with_pending.Goals as goal

pub loop-byte-init : goal.loop-byte-init
loop-byte-init c =
    let n = c.new-reader.ensures in
    (n.context, (n.pending, idle_waits _ _ c.requires n.context n.pending n.free))

pub returns-then-not-keeps-clause-always : goal.returns-then-not-keeps-clause-always
returns-then-not-keeps-clause-always c w =
    let h = c.loop-byte.invariant in
    absurd (c.keeps.ensures.never c.if-not-keeps.true
    (next_waits _ c.args.bytes.now c.loop-byte.byte-index _ _ w c.loop-byte-test.true h.0 h.1.0))
