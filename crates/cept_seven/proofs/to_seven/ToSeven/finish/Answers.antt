use Rattle.std.proofs.Common.{◌≡◌, ◌++◌, ◌∙◌, ap, sym, rules}
use Rattle.cept_seven.specs.Seven.{text_at_end, unclosed}
use Rattle.cept_seven.proofs.PushLemmas.{seven_closed}
use Rattle.cept_seven.proofs.to_seven.ToSeven.finish.Goals as goal

pub returns-clause-text : goal.returns-clause-text
returns-clause-text c b h =
    let e : c.if-self.text.items ≡ text_at_end c.args.self.now = search rules in
    seven_closed b ∙ ap (λ r. unclosed b ++ text_at_end r) (sym h) ∙ ap (λ w. unclosed b ++ w) (sym e)
