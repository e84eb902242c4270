use Rattle.std.proofs.Common.{◌≡◌, ℕ, suc, ◌+◌, ◌∙◌, ap, sym, refl, arith}
use Rattle.std.proofs.lemmas.Option.{MatchOption-at_some}
use Rattle.std.proofs.lemmas.Result.{err_from_is_err_and}
use Rattle.cept_codes.specs.Cell.{blank_cell}
use Rattle.cept_codes.specs.Place.{Place}
use Rattle.cept_codes.specs.Table.{value_at}
use Rattle.cept_parser.specs.Spelling.{spellings}
use Rattle.cept_writer.specs.SegmentPieces.{copies_after, copies_before, link_to, piece_numbered, pieces_below}
use Rattle.cept_writer.proofs.PiecesValid.{copies_low, piece_is}
use Rattle.cept_writer.proofs.PagePut.{handed_on, part_is}
use Rattle.cept_writer.proofs.TextsPut.{Gains-next, Gains-none, PutsText-all, PutsText-next_failed}
use Rattle.cept_writer.proofs.walk.put_segments.Goals as goal

pub loop-n-init : goal.loop-n-init
unfolding pieces_below copies_before
loop-n-init g c = record {
  put = Gains-none (piece_numbered c.args.screen.now.page.cells) 0 (g.T.Sink.state c.args.sink.now);
  stays = refl;
  cell = λ h. c.cell-cell.ensures.cell
      ∙ ap (λ (p : Place). value_at blank_cell c.args.screen.now.page.cells p.row p.column)
      (MatchOption-at_some _ _ c.unwrap.result c.unwrap.ensures c.from_number.ensures.place);
  valid = c.cell-cell.ensures.valid;
  before = refl;
  copies = refl;
}

pub put_piece-requires-clause-few : goal.put_piece-requires-clause-few
put_piece-requires-clause-few g c =
    let low = copies_low c.args.screen.now.page.cells c.loop-n.n in
    let is = c.loop-n.invariant.copies in
    omega (arith, low, is)

pub copies_after-copies-requires : goal.copies_after-copies-requires
copies_after-copies-requires g c =
    let low = copies_low c.args.screen.now.page.cells c.loop-n.n in
    let is = c.loop-n.invariant.copies in
    omega (arith, low, is)

pub returns-in_err-put_piece : goal.returns-in_err-put_piece
unfolding pieces_below
returns-in_err-put_piece g c =
    let cells = c.args.screen.now.page.cells in
    let n = c.loop-n.n in
    handed_on c.from_residual.result _ _ (spellings (pieces_below cells 960))
    (err_from_is_err_and c.from_residual.result c.from_residual.ensures.1).1
    (PutsText-next_failed (piece_numbered cells) 0 n 960 n _ _ _ (omega arith) (omega arith) c.loop-n.invariant.stays
    c.loop-n.invariant.put
    (part_is (piece_is cells n c.loop-n.before c.loop-n.copies c.loop-n.cell c.next_cell-after.result.1
    (c.loop-n.invariant.cell (omega arith)) c.loop-n.invariant.before c.loop-n.invariant.copies
    c.next_cell-after.ensures.link) _ _ c.in_err-put_piece.ensures))

pub loop-n-preserved : goal.loop-n-preserved
unfolding pieces_below copies_before
loop-n-preserved g c =
    let cells = c.args.screen.now.page.cells in
    let n = c.loop-n.n in
    let e : suc n ≡ n + 1 = omega arith in
    let piece = piece_is cells n c.loop-n.before c.loop-n.copies c.loop-n.cell c.next_cell-after.result.1
    (c.loop-n.invariant.cell (omega arith)) c.loop-n.invariant.before c.loop-n.invariant.copies
    c.next_cell-after.ensures.link in
    record {
      put = Gains-next (piece_numbered cells) 0 n n _ _ _ (omega arith) c.loop-n.invariant.put
          (rw piece at c.in_ok-put_piece.ensures.whole);
      stays = c.in_ok-put_piece.ensures.cause.stays ∙ c.loop-n.invariant.stays;
      cell = λ h. c.next_cell-after.ensures.cell (omega (arith, h));
      valid = c.next_cell-after.ensures.valid;
      before = c.next_cell-after.ensures.link;
      copies = c.copies_after-copies.ensures
          ∙ ap (λ (k : ℕ). copies_after k c.next_cell-after.result.1) c.loop-n.invariant.copies
          ∙ ap (copies_after (copies_before cells n)) (c.next_cell-after.ensures.link ∙ ap (link_to cells) (sym e))
          ∙ ap (copies_before cells) e;
    }

pub returns : goal.returns
unfolding pieces_below
returns g c =
    PutsText-all (piece_numbered c.args.screen.now.page.cells) 0 c.loop-n.n 960 _ _ (omega arith) c.loop-n.invariant.stays
    c.loop-n.invariant.put
