use Rattle.std.proofs.Common.{sym, ap, ◌∙◌, cond}
use Rattle.std.specs.List.{count_by}
use Rattle.cept_run.proofs.ReportedItems.{applied_painted, applied_idle}
use Rattle.cept_run.proofs.reporter.Reporter.apply.Goals as goal

pub returns-in_default : goal.returns-in_default
returns-in_default g c = rw (← c.self.view_is) (applied_idle _ _ c.args.item.now c.args.command.now _ _ _ _ c.apply.ensures _
    c.list_item.result (sym c.in_default.ensures) c.list_item.ensures)

pub returns : goal.returns
returns g c = rw (← c.self.view_is) (applied_painted _ _ c.args.item.now c.args.command.now _ _ _ _ c.apply.ensures _ _
    c.put_changes_if.result _ (sym c.in-Some.ensures) (rw c.lists_changes.ensures at c.put_changes_if.ensures.puts)
    (c.count_marked.ensures.count
    ∙ ap (λ b. cond b (count_by (λ marked. marked) c.apply.new.marks) 0) c.is_counted.ensures) c.count_marked.ensures.few)
