use Rattle.std.proofs.Common.{◌∙◌, ap, arith}
use Rattle.std.specs.List.{list_all}
use Rattle.cept_parser.specs.Bytes.{is_between}
use Rattle.cept_editor.proofs.ValidOrders.{text_valid}
use Rattle.cept_editor.proofs.commands.Edit.of.Goals as goal

pub invariant_of-result-in-Text : goal.invariant_of-result-in-Text
invariant_of-result-in-Text c =
    let placed = rw c.in-Text.is at c.requires in
    ((omega arith, text_valid _ (ap (list_all (is_between 0x20 0x7E)) c.bytes_at.ensures ∙ placed.sound.1)), tt)

pub returns-in-Text-clause-valid : goal.returns-in-Text-clause-valid
returns-in-Text-clause-valid c =
    let placed = rw c.in-Text.is at c.requires in
    (omega arith, text_valid _ (ap (list_all (is_between 0x20 0x7E)) c.bytes_at.ensures ∙ placed.sound.1))
