use Rattle.std.proofs.Common.{◌-◌, sym, ap, subst, ◌∙◌, arith, length}
use Rattle.cept_codes.specs.Look.{IsValidLook, blank_look}
use Rattle.cept_profile.specs.Tiling.{column_entry}
use Rattle.cept_rows.proofs.Columns.{length-row_of}
use Rattle.cept_rows.proofs.KeptLooks.{column_kept}
use Rattle.cept_rows.proofs.row_looks.RowLooks.columns_by_type.Goals as goal

pub returns-clause-columns : goal.returns-clause-columns
returns-clause-columns c = ap length (sym c.self.view_is) ∙ length-row_of _

pub returns-clause-valid : goal.returns-clause-valid
returns-clause-valid c column low high =
    subst IsValidLook (sym (ap (λ l. column_entry blank_look l column) (sym c.self.view_is)
    ∙ column_kept c.self.inside.looks c.self.inside.drawn column low high))
    (c.self.invariant.small (column - 1) (omega arith)).valid
