use Rattle.std.proofs.Common.{◌≡◌, length}
use Rattle.cept_editor.specs.Applying.{changes_in_turn}
use Rattle.cept_repaint.specs.InTurn.{state_after_all}
use Rattle.cept_undo.specs.Past.{StaysBegun}
use Rattle.cept_live.specs.Notices.{change_sayings}
use Rattle.cept_live.specs.Renewed.{marked_with}
use Rattle.cept_live.proofs.edits.apply_commands.Given as goal

-- what is left of the commands leads where all of them lead
abbrev pub invariant-loop-command : goal.invariant-loop-command
invariant-loop-command g l = record {
  edit : StaysBegun l.fn.editing.undo l.fn.screen l.editing.undo l.screen;
  state : state_after_all l.screen l.commands ≡ state_after_all l.fn.screen l.fn.commands;
  marked : marked_with l.changed (change_sayings 0 (changes_in_turn l.screen l.commands))
      ≡ marked_with l.fn.changed (change_sayings 0 (changes_in_turn l.fn.screen l.fn.commands));
}

abbrev pub decreases-loop-command : goal.decreases-loop-command
decreases-loop-command g l = length l.commands
