use Rattle.std.proofs.Common.{refl, sym, ◌∙◌}
use Rattle.cept_editor.proofs.KeptLines.{read_none, read_more, read_all, read_fault}
use Rattle.cept_editor.proofs.RawWords.{no_length}
use Rattle.std.proofs.lemmas.Result.{err_from_is_err_and}
use Rattle.cept_editor.proofs.script.keep_lines.Goals as goal

pub loop-left-init : goal.loop-left-init
loop-left-init c = read_none _ _ c.requires.none

pub returns-in_err-keep_line-clause-fault : goal.returns-in_err-keep_line-clause-fault
returns-in_err-keep_line-clause-fault c =
    let p = err_from_is_err_and c.from_residual.result c.from_residual.ensures.1 in
    rw (p.1, p.2) (read_fault _ _ _ _ _ _ _ _ c.loop-left.invariant c.first_line.ensures refl
    c.in_err-keep_line.ensures.fault)

pub loop-left-preserved : goal.loop-left-preserved
loop-left-preserved c =
    read_more _ _ _ _ _ _ _ _ c.loop-left.invariant c.first_line.ensures refl
    c.in_ok-keep_line.ensures.kept

pub returns-clause-orders : goal.returns-clause-orders
returns-clause-orders c =
    read_all _ _ _ _ c.loop-left.invariant (no_length _ (sym c.is_empty.ensures ∙ c.loop-left-test.false))
    c.requires.few
