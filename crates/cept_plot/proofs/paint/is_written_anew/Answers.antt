use Rattle.std.proofs.Common.{◌≡◌, ◌<◌, Bool, true, false, not, refl, sym, ◌∙◌, ap, subst, arith}
use Rattle.std.proofs.lemmas.Bool.{leb-true, true≢false}
use Rattle.cept_codes.specs.declared.cell.Cell.{Cell}
use Rattle.cept_profile.specs.State.{core_of}
use Rattle.cept_plot.specs.Lit.{is_lit}
use Rattle.cept_plot.specs.Points.{value_of}
use Rattle.cept_plot.proofs.ValuesOfCells.{value_of_cell, written_by_value}
use Rattle.cept_plot.proofs.paint.is_written_anew.Goals as goal
use Rattle.cept_plot.proofs.paint.is_written_anew.Goals.{then-row-rows, else-row-rows}

unprotected : (protected test : Bool) → test ≡ not protected → test ≡ true → protected ≡ false
unprotected true test is passed = absurd (true≢false (sym passed ∙ is))
unprotected false test is passed = refl

pub returns-then-not-cell : goal.returns-then-not-cell
returns-then-not-cell c =
    elim c.if-row-rows.branch [
      | then-row-rows w ↦
          written_by_value (core_of c.args.screen.now) (is_lit c.args.field.now) c.args.at.row c.args.at.column
          c.value_of.result c.value.result (omega (arith, w.if-row-rows.true, c.row.ensures.row, c.rows.ensures.rows))
          (sym (ap (λ (q : Cell). q.protected) c.cell-cell.ensures.cell)
          ∙ unprotected c.cell-cell.result.protected c.if-row-rows.value w.value-is c.if-not-cell.true)
          (c.value_of.ensures.value ∙ ap (λ (q : Cell). value_of q.what) c.cell-cell.ensures.cell)
          (c.value.ensures.value
          ∙ sym (value_of_cell c.args.field.now c.args.at.row c.args.at.column c.row.ensures.on_screen
          (subst (λ v. v < 64) c.value.ensures.value c.value.ensures.valid)))
      | else-row-rows w ↦
          absurd (omega (arith, leb-true c.row.result c.rows.result (sym w.value-is ∙ c.if-not-cell.true), w.if-row-rows.false))
    ]
