use Rattle.std.proofs.Common.{◌+◌, ◌∙◌, arith, refl}
use Rattle.std.proofs.lemmas.Result.{err_from_is_err_and}
use Rattle.cept_profile.specs.PageParts.{row_pen_in}
use Rattle.cept_writer.specs.PageCommands.{row_commands, rows_below}
use Rattle.cept_writer.proofs.TextsPut.{Gains-next, Gains-none, PutsText-all, PutsText-next_failed}
use Rattle.cept_writer.proofs.page.put_rows.Goals as goal

pub loop-i-init : goal.loop-i-init
unfolding rows_below
loop-i-init g c = record {
  put = Gains-none (λ j. row_commands j (row_pen_in c.args.screen.now.page.row_pens j)) 1 (g.T.Sink.state c.args.sink.now);
  stays = refl;
}

pub loop-i-preserved : goal.loop-i-preserved
unfolding rows_below
loop-i-preserved g c = record {
  put =
      Gains-next (λ j. row_commands j (row_pen_in c.args.screen.now.page.row_pens j)) 1 c.loop-i.i (1 + c.loop-i.i) _ _ _ (omega arith)
      c.loop-i.invariant.put c.in_ok-put_row.ensures.whole;
  stays = c.in_ok-put_row.ensures.cause.stays ∙ c.loop-i.invariant.stays;
}

pub returns-in_err-put_row : goal.returns-in_err-put_row
unfolding rows_below
returns-in_err-put_row g c =
    rw (err_from_is_err_and c.from_residual.result c.from_residual.ensures.1).1
    (PutsText-next_failed (λ j. row_commands j (row_pen_in c.args.screen.now.page.row_pens j)) 1 c.loop-i.i 24 (1 + c.loop-i.i) _ _ _ (omega arith) (omega arith)
    c.loop-i.invariant.stays c.loop-i.invariant.put c.in_err-put_row.ensures)

pub returns : goal.returns
unfolding rows_below
returns g c =
    PutsText-all (λ j. row_commands j (row_pen_in c.args.screen.now.page.row_pens j)) 1 c.loop-i.i 24 _ _ (omega arith) c.loop-i.invariant.stays c.loop-i.invariant.put
