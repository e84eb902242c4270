use Rattle.std.proofs.Common.{◌++◌, sym, ◌∙◌, ap}
use Rattle.cept_parser.specs.Items.{items}
use Rattle.cept_run.proofs.ReportedItems.{reads_on}
use Rattle.cept_run.proofs.decoder.Decoder.read_byte.Goals as goal

pub returns : goal.returns
returns g c =
    rw (← c.self.view_is) (reads_on _ _ _ c.as_slice.result.now _ _ c.report_items.result c.push_into.ensures.place
    c.push_into.ensures.still_running
    (λ b leads. c.push_into.ensures.items b leads ∙ ap (λ l. items b ++ l) (sym c.as_slice.ensures.value))
    c.push_into.ensures.leads c.report_items.ensures)
