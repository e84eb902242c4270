use Rattle.std.proofs.Common.{◌≡◌, ◌-◌, List, set, sym, ap, subst, ◌∙◌, arith}
use Rattle.std.proofs.lemmas.Bool.{true≢false}
use Rattle.cept_codes.specs.declared.look.Look.{Look}
use Rattle.cept_profile.specs.RowsFromAbove.{looks_in}
use Rattle.cept_redraw.specs.inside.Kept.{HasMarkedRow}
use Rattle.cept_redraw.specs.inside.Passed.{stood_in}
use Rattle.cept_redraw.proofs.MovedRows.{stood_in-below}
use Rattle.cept_redraw.proofs.moved_rows.bring_row.Goals as goal
use Rattle.cept_redraw.proofs.moved_rows.bring_row.Goals.{then-back, else-back}

pub returns-after-back : goal.returns-after-back
returns-after-back c =
    let stands : looks_in c.args.kept.now c.args.from ≡ stood_in c.args.passed.now c.args.kept.now c.args.row c.args.from =
    sym (stood_in-below c.args.passed.now c.args.kept.now c.args.row c.args.from (omega (arith, c.if-number.true, c.number.ensures, c.number-2.ensures))) in
    record {
      kept = c.copy_up.ensures
          ∙ ap (set c.args.kept.now (c.args.row - 1)) stands;
      marked =
          subst (λ (l : List Look). HasMarkedRow l (stood_in c.args.passed.now c.args.kept.now c.args.row c.args.from)
          c.args.row 41 c.args.marks.now c.mark_differences.new.marks) c.row.ensures
          (subst (λ (l : List Look). HasMarkedRow c.row.result.now l c.args.row 41 c.args.marks.now
          c.mark_differences.new.marks)
          (c.row-then-number.ensures ∙ stands)
          c.mark_differences.ensures);
      near = λ so. elim c.if-back.branch [
        | then-back w ↦ ap (λ p. p.near) w.passed-is ∙ w.pass.ensures.near ∙ w.row-then-back.ensures
        | else-back w ↦ absurd (true≢false (sym so ∙ w.if-back.false))
      ];
      far = λ so. elim c.if-back.branch [
        | then-back w ↦ ap (λ p. p.far) w.passed-is ∙ w.pass.ensures.far
        | else-back w ↦ absurd (true≢false (sym so ∙ w.if-back.false))
      ];
    }
