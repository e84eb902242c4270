use Rattle.std.proofs.Common.{◌++◌, ap, arith, length, take}
use Rattle.cept_seven.specs.Seven.{unclosed}
use Rattle.cept_run.proofs.ConvertedPieces.{seven_starts, seven_goes_on, seven_converted}
use Rattle.cept_run.proofs.converting.to_seven.Goals as goal

pub loop-byte-init : goal.loop-byte-init
loop-byte-init c = record {
  room = omega (arith, ap length c.clear.ensures);
  come = λ b l. seven_starts b c.clear.new.self.items c.args.form.now c.clear.ensures l;
}

pub push_into-requires : goal.push_into-requires
push_into-requires c = (omega arith, omega arith)

pub loop-byte-preserved : goal.loop-byte-preserved
loop-byte-preserved c =
    let so_far = c.loop-byte.invariant in
    let i = c.loop-byte.byte-index in
    record {
      room = omega arith;
      come = λ b l.
          let come = so_far.come b l in
          seven_goes_on b c.args.piece.now c.loop-byte.text.items c.push_into.new.text.items i c.push_into.new.self
          c.loop-byte-test.true (c.push_into.ensures.text (b ++ take i c.args.piece.now) (unclosed b) come.stands come.text_is)
          (c.push_into.ensures.leads (b ++ take i c.args.piece.now));
    }

pub returns : goal.returns
returns c = λ b l.
    seven_converted b c.args.piece.now c.loop-byte.text.items c.loop-byte.byte-index c.loop-byte.form c.loop-byte-test.false
    (c.loop-byte.invariant.come b l)
