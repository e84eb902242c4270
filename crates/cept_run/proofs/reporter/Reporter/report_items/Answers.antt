use Rattle.std.proofs.Common.{◌++◌, ◌+◌, refl, sym, ◌∙◌, ap, arith, drop, append-nil}
use Rattle.std.proofs.lemmas.Result.{err_from_is_err_and}
use Rattle.cept_codes.specs.Command.{IsValidSaid}
use Rattle.cept_codes.specs.declared.item.Item.{Item}
use Rattle.cept_run.specs.declared.words.ReportOptions.{ReportOptions}
use Rattle.cept_run.specs.Reporting.{ReporterState}
use Rattle.cept_run.specs.inside.Reporting.{is_quiet}
use Rattle.cept_run.proofs.ReportedItems.{has_reported_same, cut_longer, front_more, front_all, front_rest}
use Rattle.cept_run.proofs.ReportedItems.{AllByRecursion-next, AllByRecursion-rest}
use Rattle.cept_run.proofs.reporter.Reporter.report_items.Goals as goal

pub loop-item-init : goal.loop-item-init
loop-item-init g c = record {
  counted = omega arith;
  options = refl;
  valid = c.requires.valid;
  reported = λ plan earlier start has. has_reported_same _ _ _ _ _ _ (sym (append-nil earlier)) has;
}

pub report_item-requires-clause-valid : goal.report_item-requires-clause-valid
report_item-requires-clause-valid g c = (AllByRecursion-next (λ (i : Item). IsValidSaid i.what) c.args.items.now
    c.loop-item.item-index _ c.loop-item-test.true c.loop-item.invariant.valid).0

pub report_item-requires-clause-loud : goal.report_item-requires-clause-loud
report_item-requires-clause-loud g c =
    ap (λ (a : ReportOptions). is_quiet a.way) c.loop-item.invariant.options
    ∙ sym (ap (λ (r : ReporterState). is_quiet r.options.way) c.self.view_is) ∙ sym c.is_quiet.ensures ∙ c.if-is_quiet.false

pub report_item-requires-clause-few : goal.report_item-requires-clause-few
report_item-requires-clause-few g c =
    omega (arith, c.loop-item.invariant.counted, c.requires.few, c.loop-item-test.true)

pub loop-item-preserved : goal.loop-item-preserved
loop-item-preserved g c =
    let so_far = c.loop-item.invariant in
    record {
      counted = omega (arith, c.report_item.ensures.counted, so_far.counted);
      options = c.report_item.ensures.options ∙ so_far.options;
      valid = AllByRecursion-rest (λ (i : Item). IsValidSaid i.what) c.args.items.now c.loop-item.item-index
          c.loop-item-test.true so_far.valid;
      reported = λ plan earlier start has. has_reported_same _ _ _ _ _ _
          (front_more earlier c.args.items.now c.loop-item.item-index _ c.loop-item-test.true)
          (c.in_ok-report_item.ensures.reported plan _ start (so_far.reported plan earlier start has));
    }

pub returns-in_err-report_item : goal.returns-in_err-report_item
returns-in_err-report_item g c =
    let so_far = c.loop-item.invariant in
    let k = c.loop-item.item-index in
    rw (err_from_is_err_and c.from_residual.result c.from_residual.ensures.1).1 (record {
      options = c.report_item.ensures.options ∙ so_far.options;
      counted = omega (arith, c.report_item.ensures.counted, so_far.counted, c.loop-item-test.true);
      reported = tt;
      cut = λ plan earlier start has. cut_longer plan _ (drop (k + 1) c.args.items.now) _ start _
          (ap (λ front. front ++ drop (k + 1) c.args.items.now)
          (front_more earlier c.args.items.now k _ c.loop-item-test.true) ∙ front_rest earlier c.args.items.now (k + 1))
          (c.in_err-report_item.ensures.cut plan _ start (so_far.reported plan earlier start has));
    })

pub returns : goal.returns
returns g c = record {
  options = c.loop-item.invariant.options;
  counted = omega (arith, c.loop-item.invariant.counted, c.loop-item-test.false);
  reported = λ plan earlier start has. has_reported_same _ _ _ _ _ _
      (front_all earlier c.args.items.now c.loop-item.item-index c.loop-item-test.false)
      (c.loop-item.invariant.reported plan earlier start has);
  cut = tt;
}

pub returns-then-is_quiet : goal.returns-then-is_quiet
returns-then-is_quiet g c = c.count_items.ensures (g.G.Glass.state c.args.glass.now)
