use Rattle.std.proofs.Common.{◌++◌, ◌∙◌, ap, sym}
use Rattle.cept_seven.specs.Seven.{text_added, unclosed}
use Rattle.cept_seven.proofs.PushLemmas.{unclosed_more}
use Rattle.cept_seven.proofs.to_seven.ToSeven.push.Goals as goal

pub returns-clause-text : goal.returns-clause-text
returns-clause-text c b h =
    unclosed_more b c.args.byte ∙ ap (λ r. unclosed b ++ text_added r c.args.byte) (sym h)
    ∙ ap (λ w. unclosed b ++ w) (sym (c.push_into.ensures.answer ∙ ap (λ w. w ++ text_added c.args.self.now c.args.byte) c.new-text.ensures))
