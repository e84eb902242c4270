use Rattle.std.proofs.Common.{[], ◌++◌, ◌+◌, drop, ap, ◌∙◌}
use Rattle.std.proofs.lemmas.Result.{err_from_is_err_and}
use Rattle.cept_run.proofs.MadeEdits.{spare_line, HasMadeLines-none, HasMadeLines-more, made_cut, made_stopped, has_made_same}
use Rattle.cept_run.proofs.MadeEdits.{line_done, line_nothing}
use Rattle.cept_run.proofs.ReportedItems.{front_more, front_all, front_rest}
use Rattle.cept_run.proofs.edits.make_lines.Goals as goal
use Rattle.cept_run.proofs.edits.make_lines.Goals.{in-Done, in-Nothing+in_ok-tell_nothing-in-Nothing}

pub loop-k-init : goal.loop-k-init
loop-k-init g c = λ page stands. HasMadeLines-none c.args.listed page _ _ stands

pub loop-k-preserved : goal.loop-k-preserved
loop-k-preserved g c = λ page stands. has_made_same _ page _ _ _ _ _
    (front_more [] c.args.script.now c.loop-k.k spare_line (rw c.len-k-end.ensures at c.loop-k-test.true))
    (elim c.match-branch-2.branch [
      | in-Done w ↦ rw w.sink-is (HasMadeLines-more _ page _ _ _ _ _ _ _ _ (c.loop-k.invariant page stands)
          (line_done _ _ _ _ _ _ tt (rw w.in-Done.is at c.in_ok-line.ensures.goes_on spare_line)
          (rw w.in-Done.is at c.in_ok-line.ensures.puts.cause)))
      | in-Nothing+in_ok-tell_nothing-in-Nothing w ↦ rw w.sink-is (HasMadeLines-more _ page _ _ _ _ _ _ _ _
          (c.loop-k.invariant page stands)
          (line_nothing _ _ _ _ _ _ _ (rw w.in-Nothing.is at c.in_ok-line.ensures.goes_on spare_line) _
          (rw (w.line_of.ensures spare_line) at w.in_ok-tell_nothing-in-Nothing.ensures)))
    ])

pub returns-in_err-line : goal.returns-in_err-line
returns-in_err-line g c =
    let k = c.loop-k.k in
    let rest = drop (k + 1) c.args.script.now in
    rw (err_from_is_err_and c.from_residual.result c.from_residual.ensures.1).1 (record {
      made = tt;
      cut = λ page stands. made_stopped _ page _ rest c.args.script.now _ _ _ _ _ _
          (ap (λ front. front ++ rest)
          (front_more [] c.args.script.now k spare_line (rw c.len-k-end.ensures at c.loop-k-test.true))
          ∙ front_rest [] c.args.script.now (k + 1))
          (c.loop-k.invariant page stands) (c.in_err-line.ensures.goes_on spare_line);
    })

pub returns-in_err-tell_nothing-in-Nothing : goal.returns-in_err-tell_nothing-in-Nothing
returns-in_err-tell_nothing-in-Nothing g c =
    let k = c.loop-k.k in
    let rest = drop (k + 1) c.args.script.now in
    rw (err_from_is_err_and c.from_residual-in_err-tell_nothing-in-Nothing.result
    c.from_residual-in_err-tell_nothing-in-Nothing.ensures.1).1 (record {
      made = tt;
      cut = λ page stands. made_cut _ page _ rest c.args.script.now _ _ _ _ _ _
          (ap (λ front. front ++ rest)
          (front_more [] c.args.script.now k spare_line (rw c.len-k-end.ensures at c.loop-k-test.true))
          ∙ front_rest [] c.args.script.now (k + 1))
          (c.loop-k.invariant page stands)
          (line_nothing _ _ _ _ _ _ _ (rw c.in-Nothing.is at c.in_ok-line.ensures.goes_on spare_line) _
          (rw (c.line_of.ensures spare_line) at c.in_err-tell_nothing-in-Nothing.ensures));
    })

pub returns : goal.returns
returns g c = record {
  made = λ page stands. has_made_same _ page _ _ _ _ _
      (front_all [] c.args.script.now c.loop-k.k (rw c.len-k-end.ensures at c.loop-k-test.false))
      (c.loop-k.invariant page stands);
  cut = tt;
}
