use Rattle.std.proofs.Common.{◌≡◌, false, length}
use Rattle.cept_undo.specs.Past.{StaysBegun}
use Rattle.cept_editor.specs.Made.{output_of}
use Rattle.cept_editor.proofs.AppliedInTurn.{HasGone}
use Rattle.cept_editor.proofs.editor.apply_commands.Given as goal

-- the commands so far were applied
abbrev pub invariant-loop-command : goal.invariant-loop-command
invariant-loop-command g l = record {
  gone : HasGone l.fn.listing.listed l.fn.listing.line l.fn.commands l.commands l.fn.screen
      (output_of (g.T.Sink.state l.fn.listing.sink.now) (g.G.Glass.state l.fn.glass)) l.screen
      (output_of (g.T.Sink.state l.listing.sink.now) (g.G.Glass.state l.glass)) l.listing.marks.now l.fn.steps l.steps;
  edit : StaysBegun l.fn.undo l.fn.screen l.undo l.screen;
  quiet : l.fn.listing.listed ≡ false → g.T.Sink.state l.listing.sink.now ≡ g.T.Sink.state l.fn.listing.sink.now;
  line : l.listing.line ≡ l.fn.listing.line;
  listed : l.listing.listed ≡ l.fn.listing.listed;
  sink : l.listing.sink.ghost_name ≡ l.fn.listing.sink.ghost_name;
  marks : l.listing.marks.ghost_name ≡ l.fn.listing.marks.ghost_name;
}

abbrev pub decreases-loop-command : goal.decreases-loop-command
decreases-loop-command g l = length l.commands
