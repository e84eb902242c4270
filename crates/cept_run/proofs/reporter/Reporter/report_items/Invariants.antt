use Rattle.cept_run.specs.Reporting.{Plan}
use Rattle.std.proofs.Common.{◌≡◌, ◌≤◌, ◌+◌, List, ◌++◌, take, drop}
use Rattle.std.specs.List.{AllByRecursion}
use Rattle.cept_codes.specs.Command.{IsValidSaid}
use Rattle.cept_codes.specs.declared.item.Item.{Item}
use Rattle.cept_editor.specs.Made.{Output, output_of}
use Rattle.cept_run.specs.Reporting.{HasReported}
use Rattle.cept_run.proofs.reporter.Reporter.report_items.Given as goal

-- the items so far were reported
abbrev pub invariant-loop-item : goal.invariant-loop-item
invariant-loop-item g l = record {
  counted : l.self.items ≤ l.fn.self.items + l.item-index;
  options : l.self.options ≡ l.fn.self.options;
  valid : AllByRecursion (λ (i : Item). IsValidSaid i.what) (drop l.item-index l.items);
  reported : (plan : Plan) (earlier : List Item) (start : Output)
      → HasReported plan l.fn.self earlier start (output_of (g.T.Sink.state l.fn.sink) (g.G.Glass.state l.fn.glass))
      → HasReported plan l.self (earlier ++ take l.item-index l.items) start
      (output_of (g.T.Sink.state l.sink) (g.G.Glass.state l.glass));
}
