-- The step of an edit, and what a line means that was read (this project's own).
use Rattle.std.specs.Prelude.{Option, Some, None, Result, Ok, Err}
use Rattle.cept_codes.specs.declared.line_reason.LineReason.{LineReason}
use Rattle.cept_editor.specs.declared.commands.Edit.{Edit}
use Rattle.cept_editor.specs.declared.commands.Edit.TheVariants as edits
use Rattle.cept_editor.specs.Meaning.{Step, UndoRedo, Edit as EditOf}

-- the step of an edit: the undo or redo, or the commands that are left
abbrev pub edit_step : Edit → Step
edit_step (edits.UndoRedo which) = UndoRedo which
edit_step (edits.Commands commands) = EditOf commands

-- what was read of a line: nothing, the step of its edit, or the reason for which it is outside the grammar
abbrev pub meaning_read : Result (Option Edit) LineReason → Result (Option Step) LineReason
meaning_read (Ok None) = Ok None
meaning_read (Ok (Some edit)) = Ok (Some (edit_step edit))
meaning_read (Err reason) = Err reason
