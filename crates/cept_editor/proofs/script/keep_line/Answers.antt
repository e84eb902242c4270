use Rattle.std.proofs.Common.{refl}
use Rattle.cept_editor.proofs.ValidOrders.{kept_some}
use Rattle.cept_editor.proofs.script.keep_line.Goals as goal

pub returns-in_ok-push-in-Ok-Some-clause-kept : goal.returns-in_ok-push-in-Ok-Some-clause-kept
returns-in_ok-push-in-Ok-Some-clause-kept c script at =
    let told = rw c.in-Ok-Some.field-0-is at c.in-Ok-Some.ensures in
    kept_some script _ c.in-Ok-Some.order _ _ _ (told.meant script at) (told.sound script at) refl
    c.in_ok-push-in-Ok-Some.ensures.items
