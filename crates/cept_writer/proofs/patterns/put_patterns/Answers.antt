use Rattle.std.proofs.Common.{◌∙◌, arith, refl}
use Rattle.std.proofs.lemmas.Result.{err_from_is_err_and}
use Rattle.cept_parser.specs.Spelling.{spellings}
use Rattle.cept_writer.specs.EntryPieces.{last_below, pattern_numbered, pattern_piece, piece_after, pieces_in_turn}
use Rattle.cept_writer.proofs.EntriesPut.{kept_is, pattern_is}
use Rattle.cept_writer.proofs.PagePut.{handed_on, part_is}
use Rattle.cept_writer.proofs.TextsPut.{Gains-next, Gains-none, PutsText-all, PutsText-next_failed}
use Rattle.cept_writer.proofs.patterns.put_patterns.Goals as goal

pub loop-i-init : goal.loop-i-init
unfolding pieces_in_turn last_below
loop-i-init g c =
    let of_number = pattern_numbered c.args.screen.now.page.patterns in
    record {
      put = Gains-none (λ j. piece_after pattern_piece (last_below of_number j) (of_number j)) 0
          (g.T.Sink.state c.args.sink.now);
      stays = refl;
      last = refl;
    }

pub loop-i-preserved : goal.loop-i-preserved
unfolding pieces_in_turn
loop-i-preserved g c =
    let patterns = c.args.screen.now.page.patterns in
    let of_number = pattern_numbered patterns in
    let i = c.loop-i.i in
    let o = c.pattern-pattern.result in
    let piece = pattern_is patterns i c.loop-i.last o c.loop-i.invariant.last c.pattern-pattern.ensures.pattern in
    record {
      put = Gains-next (λ j. piece_after pattern_piece (last_below of_number j) (of_number j)) 0 i i _ _ _
          (omega arith) c.loop-i.invariant.put (rw piece at c.in_ok-put_defined.ensures.whole);
      stays = c.in_ok-put_defined.ensures.cause.stays ∙ c.loop-i.invariant.stays;
      last = c.last_then-last.ensures
          ∙ kept_is patterns i c.loop-i.last o c.loop-i.invariant.last c.pattern-pattern.ensures.pattern;
    }

pub returns-in_err-put_defined : goal.returns-in_err-put_defined
unfolding pieces_in_turn
returns-in_err-put_defined g c =
    let patterns = c.args.screen.now.page.patterns in
    let of_number = pattern_numbered patterns in
    let i = c.loop-i.i in
    handed_on c.from_residual.result _ _ (spellings (pieces_in_turn pattern_piece of_number 94))
    (err_from_is_err_and c.from_residual.result c.from_residual.ensures.1).1
    (PutsText-next_failed (λ j. piece_after pattern_piece (last_below of_number j) (of_number j)) 0 i 94 i _ _ _
    (omega arith) (omega arith) c.loop-i.invariant.stays c.loop-i.invariant.put
    (part_is (pattern_is patterns i c.loop-i.last c.pattern-pattern.result c.loop-i.invariant.last
    c.pattern-pattern.ensures.pattern) _ _ c.in_err-put_defined.ensures))

pub returns : goal.returns
unfolding pieces_in_turn
returns g c =
    let of_number = pattern_numbered c.args.screen.now.page.patterns in
    PutsText-all (λ j. piece_after pattern_piece (last_below of_number j) (of_number j)) 0 c.loop-i.i 94 _ _
    (omega arith) c.loop-i.invariant.stays c.loop-i.invariant.put
