use Rattle.std.proofs.Common.{◌≤◌}
use Rattle.cept_editor.proofs.script.count_edits.Given as goal

abbrev pub invariant-loop-byte : goal.invariant-loop-byte
invariant-loop-byte l = l.count ≤ l.byte-index
