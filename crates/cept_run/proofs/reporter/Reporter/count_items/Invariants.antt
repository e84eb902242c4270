use Rattle.cept_run.specs.Reporting.{Plan}
use Rattle.std.proofs.Common.{◌≡◌, ◌≤◌, ◌+◌, List, ◌++◌, take}
use Rattle.cept_codes.specs.declared.item.Item.{Item}
use Rattle.cept_editor.specs.Made.{Output, output_of}
use Rattle.cept_repaint.specs.GlassState.{GlassState}
use Rattle.cept_run.specs.Reporting.{HasReported}
use Rattle.cept_run.proofs.reporter.Reporter.count_items.Given as goal

-- the items so far were reported
abbrev pub invariant-loop-item : goal.invariant-loop-item
invariant-loop-item g l = record {
  counted : l.self.items ≤ l.fn.self.items + l.item-index;
  options : l.self.options ≡ l.fn.self.options;
  reported : (glass : GlassState) (plan : Plan) (earlier : List Item) (start : Output)
      → HasReported plan l.fn.self earlier start (output_of (g.T.Sink.state l.fn.sink) glass)
      → HasReported plan l.self (earlier ++ take l.item-index l.items) start (output_of (g.T.Sink.state l.sink) glass);
}
