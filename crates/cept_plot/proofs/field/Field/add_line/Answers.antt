use Rattle.std.proofs.Common.{◌+◌, ◌<◌, max, ◌∙◌, arith}
use Rattle.cept_plot.proofs.LineSet.{IsDrawnTo-all, IsDrawnTo-more, IsDrawnTo-start}
use Rattle.cept_plot.proofs.RoundedWay.{IsUnderWay-next, at_below, room_below}
use Rattle.cept_plot.proofs.field.Field.add_line.Goals as goal

pub loop-step-init : goal.loop-step-init
loop-step-init c =
    IsDrawnTo-start c.args.self.now c.set.new.self c.args.from c.args.to c.max-steps.result c.start-x.result
    c.start-y.result c.new-across.result c.new-down.result
    (c.max-steps.ensures ∙ (λ i. max (c.distance.ensures i) (c.distance-2.ensures i))) c.new-across.ensures
    c.new-down.ensures c.start-x.ensures.at c.start-x.ensures.rest c.start-y.ensures.at c.start-y.ensures.rest
    c.set.ensures

pub next-x-requires-clause-below : goal.next-x-requires-clause-below
next-x-requires-clause-below c =
    let some : 0 < c.max-steps.result = omega (arith, c.loop-step-test.true) in
    room_below c.loop-step.x c.new-across.result c.args.from.x c.args.to.x c.max-steps.result c.loop-step._step
    c.loop-step.invariant.slope_across (c.loop-step.invariant.at_x some) c.loop-step-test.true

pub set-requires-in-loop-step-clause-across : goal.set-requires-in-loop-step-clause-across
set-requires-in-loop-step-clause-across c =
    let some : 0 < c.max-steps.result = omega (arith, c.loop-step-test.true) in
    let way =
    IsUnderWay-next c.loop-step.x c.next-x.result c.new-across.result c.args.from.x c.args.to.x c.max-steps.result
    c.loop-step._step c.loop-step.invariant.slope_across (c.loop-step.invariant.at_x some) c.loop-step-test.true c.next-x.ensures.up
    c.next-x.ensures.down c.next-x.ensures.rest in
    omega (
      arith,
      at_below c.next-x.result c.args.from.x c.args.to.x c.max-steps.result (c.loop-step._step + 1) 79 way
          (omega (arith, c.loop-step-test.true)) some (omega (arith, c.requires.from.across)) (omega (arith, c.requires.to.across)),
    )

pub set-requires-in-loop-step-clause-down : goal.set-requires-in-loop-step-clause-down
set-requires-in-loop-step-clause-down c =
    let some : 0 < c.max-steps.result = omega (arith, c.loop-step-test.true) in
    let way =
    IsUnderWay-next c.loop-step.y c.next-y.result c.new-down.result c.args.from.y c.args.to.y c.max-steps.result
    c.loop-step._step c.loop-step.invariant.slope_down (c.loop-step.invariant.at_y some) c.loop-step-test.true c.next-y.ensures.up
    c.next-y.ensures.down c.next-y.ensures.rest in
    omega (
      arith,
      at_below c.next-y.result c.args.from.y c.args.to.y c.max-steps.result (c.loop-step._step + 1) 71 way
          (omega (arith, c.loop-step-test.true)) some (omega (arith, c.requires.from.down)) (omega (arith, c.requires.to.down)),
    )

pub loop-step-preserved : goal.loop-step-preserved
loop-step-preserved c =
    let some : 0 < c.max-steps.result = omega (arith, c.loop-step-test.true) in
    IsDrawnTo-more c.args.self.now c.loop-step.self c.set-in-loop-step.new.self c.args.from c.args.to c.max-steps.result
    c.loop-step._step c.loop-step.x c.loop-step.y c.next-x.result c.next-y.result c.new-across.result c.new-down.result
    c.loop-step.invariant c.loop-step-test.true
    (IsUnderWay-next c.loop-step.x c.next-x.result c.new-across.result c.args.from.x c.args.to.x c.max-steps.result
    c.loop-step._step c.loop-step.invariant.slope_across (c.loop-step.invariant.at_x some) c.loop-step-test.true c.next-x.ensures.up
    c.next-x.ensures.down c.next-x.ensures.rest)
    (IsUnderWay-next c.loop-step.y c.next-y.result c.new-down.result c.args.from.y c.args.to.y c.max-steps.result
    c.loop-step._step c.loop-step.invariant.slope_down (c.loop-step.invariant.at_y some) c.loop-step-test.true c.next-y.ensures.up
    c.next-y.ensures.down c.next-y.ensures.rest) c.set-in-loop-step.ensures

pub returns : goal.returns
returns c =
    IsDrawnTo-all c.args.self.now c.loop-step.self c.args.from c.args.to c.max-steps.result c.loop-step._step c.loop-step.x
    c.loop-step.y c.new-across.result c.new-down.result c.loop-step.invariant
    (omega (arith, c.loop-step-test.false, c.loop-step.auto._step-end))
