use Rattle.std.proofs.Common.{◌++◌, ◌+◌, sym, ap, arith, drop, take, append-nil}
use Rattle.std.proofs.lemmas.Result.{err_from_is_err_and}
use Rattle.cept_parser.specs.Items.{items}
use Rattle.cept_run.proofs.ReportedItems.{has_read_same, reads_as, cut_by_bytes, front_more, front_all, front_rest}
use Rattle.cept_run.proofs.decoder.Decoder.read_piece.Goals as goal

pub loop-byte-init : goal.loop-byte-init
loop-byte-init g c = record {
  place = omega arith;
  running = c.requires.running;
  read = λ plan bytes start has. has_read_same _ _ _ _ _ _ (sym (append-nil bytes)) has;
}

pub loop-byte-preserved : goal.loop-byte-preserved
loop-byte-preserved g c =
    let so_far = c.loop-byte.invariant in
    record {
      place = omega (arith, c.in_ok-read_byte.ensures.place, so_far.place);
      running = c.in_ok-read_byte.ensures.running;
      read = λ plan bytes start has. has_read_same _ _ _ _ _ _
          (front_more bytes c.args.piece.now c.loop-byte.byte-index 0 c.loop-byte-test.true)
          (c.in_ok-read_byte.ensures.read plan _ start (so_far.read plan bytes start has));
    }

pub returns-in_err-read_byte : goal.returns-in_err-read_byte
returns-in_err-read_byte g c =
    let so_far = c.loop-byte.invariant in
    let k = c.loop-byte.byte-index in
    rw (err_from_is_err_and c.from_residual.result c.from_residual.ensures.1).1 (record {
      place = tt;
      running = tt;
      read = tt;
      cut = λ plan bytes start has.
          let front = bytes ++ take (k + 1) c.args.piece.now in
          let rest = drop (k + 1) c.args.piece.now in
          cut_by_bytes plan front rest _ _ start _ (front_rest bytes c.args.piece.now (k + 1))
          (c.reading_goes_on.ensures.bytes front rest)
          (reads_as plan _ _ start _ (ap items (front_more bytes c.args.piece.now k 0 c.loop-byte-test.true))
          (c.in_err-read_byte.ensures.cut plan _ start (so_far.read plan bytes start has)));
    })

pub returns : goal.returns
returns g c = record {
  place = omega (arith, c.loop-byte.invariant.place, c.loop-byte-test.false);
  running = c.loop-byte.invariant.running;
  read = λ plan bytes start has. has_read_same _ _ _ _ _ _
      (front_all bytes c.args.piece.now c.loop-byte.byte-index c.loop-byte-test.false)
      (c.loop-byte.invariant.read plan bytes start has);
  cut = tt;
}
