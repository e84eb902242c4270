use Rattle.std.proofs.Common.{◌++◌, sym, ◌∙◌, ap}
use Rattle.cept_parser.specs.Items.{items}
use Rattle.cept_run.proofs.ReportedItems.{reads_to_end}
use Rattle.cept_run.proofs.decoder.Decoder.finish.Goals as goal

pub returns : goal.returns
returns g c =
    rw (← c.self.view_is) (reads_to_end _ _ c.as_slice.result.now _ _ c.report_items.result
    (λ b leads. c.finish-items.ensures.closed b leads ∙ ap (λ l. items b ++ l) (sym c.as_slice.ensures.value))
    c.report_items.ensures)
