use Rattle.std.proofs.Common.{ap, sym, ◌∙◌}
use Rattle.std.proofs.lemmas.Bool.{true_from_ne_false}
use Rattle.cept_profile.specs.State.{core_of}
use Rattle.cept_live.proofs.PagesRead.{core_back, page_back}
use Rattle.cept_live.proofs.restore.bring_back.Goals as goal

pub returns : goal.returns
returns c = λ history valid is control.
    let screen = c.read_into.new.screen in
    let law = c.compact_texts_bring_pages_back.ensures.always history valid in
    let same = core_back history screen c.args.page.now _ law is c.read_into.ensures in
    let back = page_back history screen _ same control in
    let taken = true_from_ne_false c.take_control.result
    (λ other. c.take_control.ensures.cause other (ap core_of back ∙ sym same)) in
    (taken, c.take_control.ensures.taken taken ∙ back)
