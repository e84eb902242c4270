use Rattle.std.proofs.Common.{refl}
use Rattle.cept_run.proofs.ReportedItems.{applied_on_screen, applied_in_editor, applied_nowhere}
use Rattle.cept_run.proofs.ReportedItems.{applied_before_drawing}
use Rattle.cept_run.proofs.target.Target.apply.Goals as goal

pub returns-in-Nothing : goal.returns-in-Nothing
returns-in-Nothing g c = rw c.in-Nothing.is (applied_nowhere c.args.command.now _ _)

pub returns-in-Screen : goal.returns-in-Screen
returns-in-Screen g c = rw c.in-Screen.is (applied_on_screen _ _ _ c.args.command.now _ _ _ _ c.apply_from.ensures.applied)

pub returns-in-Editor : goal.returns-in-Editor
returns-in-Editor g c = rw c.in-Editor.is (applied_in_editor _ _ _ c.args.command.now _ _ _ _ c.page.ensures.applied _ _ _ refl refl
    c.page.ensures.past c.page.ensures.future)

pub returns-in-Drawing : goal.returns-in-Drawing
returns-in-Drawing g c = rw c.in-Drawing.is (applied_before_drawing _ _ _ c.args.command.now _ _ _ _
    c.apply_from-in-Drawing.ensures.applied _)
