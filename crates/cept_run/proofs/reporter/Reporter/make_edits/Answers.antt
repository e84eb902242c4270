use Rattle.cept_run.proofs.EditedPages.{edits_nowhere, edits_unasked, edits_made, drawing_made}
use Rattle.cept_run.proofs.reporter.Reporter.make_edits.Goals as goal

pub returns-in-Nothing : goal.returns-in-Nothing
returns-in-Nothing g c = rw (← c.self.view_is) (edits_nowhere _ _ c.in-Nothing.is)

pub returns-in-Screen : goal.returns-in-Screen
returns-in-Screen g c = rw (← c.self.view_is) (edits_unasked _ _ _ c.in-Screen.is)

pub returns-in-Editor : goal.returns-in-Editor
returns-in-Editor g c = rw (← c.self.view_is) (edits_made _ _ _ _ _ _ _ c.in-Editor.is c.make_lines.ensures)

pub returns-in-Drawing : goal.returns-in-Drawing
returns-in-Drawing g c = rw (← c.self.view_is) (drawing_made _ _ _ _ _ _ _ c.in-Drawing.is c.draw.ensures)
