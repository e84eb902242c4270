use Rattle.cept_editor.proofs.ScriptsByLines
use Rattle.cept_editor.proofs.law.scripts_are_told_by_their_lines.Goals as goal

pub returns : goal.returns
returns c = record {
  edits = ScriptsByLines.edits_of_line;
  within = ScriptsByLines.edits_within;
  order = ScriptsByLines.edits_in_order;
  fault = ScriptsByLines.fault_is_first;
  none = ScriptsByLines.no_fault;
}
