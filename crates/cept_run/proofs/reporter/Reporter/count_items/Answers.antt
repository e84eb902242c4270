use Rattle.std.proofs.Common.{[], None, ◌++◌, ◌+◌, refl, sym, ◌∙◌, ap, arith, drop, append-nil}
use Rattle.std.proofs.lemmas.Result.{err_from_is_err_and}
use Rattle.cept_run.specs.declared.words.ReportOptions.{ReportOptions}
use Rattle.cept_run.specs.inside.Reporting.{is_quiet}
use Rattle.cept_run.proofs.ReportedItems.{has_reported_same, cut_longer, front_more, front_all, front_rest}
use Rattle.cept_run.proofs.reporter.Reporter.count_items.Goals as goal

pub loop-item-init : goal.loop-item-init
loop-item-init g c = record {
  counted = omega arith;
  options = refl;
  reported = λ glass plan earlier start has. has_reported_same _ _ _ _ _ _ (sym (append-nil earlier)) has;
}

pub count_item-requires-clause-quiet : goal.count_item-requires-clause-quiet
count_item-requires-clause-quiet g c =
    ap (λ (a : ReportOptions). is_quiet a.way) c.loop-item.invariant.options ∙ c.requires.quiet

pub count_item-requires-clause-few : goal.count_item-requires-clause-few
count_item-requires-clause-few g c =
    omega (arith, c.loop-item.invariant.counted, c.requires.few, c.loop-item-test.true)

pub loop-item-preserved : goal.loop-item-preserved
loop-item-preserved g c =
    let so_far = c.loop-item.invariant in
    let one = c.count_item.ensures (record { grid = []; paints = None }) in
    record {
      counted = omega (arith, one.counted, so_far.counted);
      options = one.options ∙ so_far.options;
      reported = λ glass plan earlier start has. has_reported_same _ _ _ _ _ _
          (front_more earlier c.args.items.now c.loop-item.item-index _ c.loop-item-test.true)
          ((c.in_ok-count_item.ensures glass).reported plan _ start (so_far.reported glass plan earlier start has));
    }

pub returns-in_err-count_item : goal.returns-in_err-count_item
returns-in_err-count_item g c = λ glass.
    let so_far = c.loop-item.invariant in
    let k = c.loop-item.item-index in
    rw (err_from_is_err_and c.from_residual.result c.from_residual.ensures.1).1 (record {
      options = (c.count_item.ensures glass).options ∙ so_far.options;
      counted = omega (arith, (c.count_item.ensures glass).counted, so_far.counted, c.loop-item-test.true);
      reported = tt;
      cut = λ plan earlier start has. cut_longer plan _ (drop (k + 1) c.args.items.now) _ start _
          (ap (λ front. front ++ drop (k + 1) c.args.items.now)
          (front_more earlier c.args.items.now k _ c.loop-item-test.true) ∙ front_rest earlier c.args.items.now (k + 1))
          ((c.in_err-count_item.ensures glass).cut plan _ start (so_far.reported glass plan earlier start has));
    })

pub returns : goal.returns
returns g c = λ glass. record {
  options = c.loop-item.invariant.options;
  counted = omega (arith, c.loop-item.invariant.counted, c.loop-item-test.false);
  reported = λ plan earlier start has. has_reported_same _ _ _ _ _ _
      (front_all earlier c.args.items.now c.loop-item.item-index c.loop-item-test.false)
      (c.loop-item.invariant.reported glass plan earlier start has);
  cut = tt;
}
