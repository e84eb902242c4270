use Rattle.std.proofs.Common.{◌≡◌, ◌+◌, ◌%◌, refl, ap, ◌∙◌, arith}
use Rattle.std.proofs.lemmas.Result.{err_from_is_err_and}
use Rattle.cept_flash.specs.Phases.{next_phase}
use Rattle.cept_report.proofs.LinesPut.{PutsText-whole, PutsText-part}
use Rattle.cept_report.proofs.PhaseLines.{start-is, turn-is, phase_after, Gains-start, Gains-start_failed, Gains-turn}
use Rattle.cept_report.proofs.PhaseLines.{Gains-turn_failed, Gains-turns}
use Rattle.cept_report.proofs.phases.put_phases.Goals as goal

pub loop-turn-init : goal.loop-turn-init
loop-turn-init g c = record {
  looks = c.start.ensures.looks;
  phase = c.start.ensures.phase;
  put = Gains-start _ _ _ _ (start-is _ _ _ c.start.ensures.looks c.start.ensures.phase c.start.ensures.marks)
      c.in_ok-put_marked.ensures.whole;
  stays = c.in_ok-put_marked.ensures.cause.stays;
}

pub loop-turn-preserved : goal.loop-turn-preserved
loop-turn-preserved g c = record {
  looks = c.turn.ensures.looks ∙ c.loop-turn.invariant.looks;
  phase = phase_after _ _ (c.turn.ensures.phase ∙ ap next_phase c.loop-turn.invariant.phase)
      ∙ ap (λ n. n % 6) (let e : 1 + c.loop-turn.turn ≡ c.loop-turn.turn + 1 = omega arith in e);
  put = Gains-turn _ _ _ _ _ _ (turn-is _ _ _ _ _ _ (ap (λ n. n + 1) c.from.ensures) c.loop-turn.invariant.looks c.loop-turn.invariant.phase
      c.turn.ensures.looks c.turn.ensures.phase c.turn.ensures.marks) c.loop-turn.invariant.put
      c.in_ok-put_marked-2.ensures.whole;
  stays = c.in_ok-put_marked-2.ensures.cause.stays ∙ c.loop-turn.invariant.stays;
}

pub returns-in_err-put_marked : goal.returns-in_err-put_marked
returns-in_err-put_marked g c =
    rw (err_from_is_err_and c.from_residual.result c.from_residual.ensures.1).1
    (PutsText-part _ (g.T.Sink.state c.args.sink.now) _ _ refl (Gains-start_failed _ _ _ c.args.turns _
    (start-is _ _ _ c.start.ensures.looks c.start.ensures.phase c.start.ensures.marks)
    c.in_err-put_marked.ensures.part) c.in_err-put_marked.ensures.cause)

pub returns-in_err-put_marked-2 : goal.returns-in_err-put_marked-2
returns-in_err-put_marked-2 g c =
    rw (err_from_is_err_and c.from_residual-in_err-put_marked-2.result c.from_residual-in_err-put_marked-2.ensures.1).1
    (PutsText-part _ (g.T.Sink.state c.loop-turn.sink) _ _ c.loop-turn.invariant.stays (Gains-turn_failed _ _ _ _ _ c.args.turns _
    (omega arith) (turn-is _ _ _ _ _ _ (ap (λ n. n + 1) c.from.ensures) c.loop-turn.invariant.looks c.loop-turn.invariant.phase
    c.turn.ensures.looks c.turn.ensures.phase c.turn.ensures.marks) c.loop-turn.invariant.put
    c.in_err-put_marked-2.ensures.part) c.in_err-put_marked-2.ensures.cause)

pub returns : goal.returns
returns g c =
    PutsText-whole _ _ _ (Gains-turns _ _ _ _ _ (let e : c.loop-turn.turn ≡ c.args.turns = omega arith in e)
    c.loop-turn.invariant.put) c.loop-turn.invariant.stays
