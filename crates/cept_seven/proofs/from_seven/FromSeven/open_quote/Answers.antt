use Rattle.std.proofs.Common.{◌∙◌, ap}
use Rattle.cept_seven.specs.Eight.{ShiftState}
use Rattle.cept_seven.proofs.from_seven.FromSeven.open_quote.Goals as goal

pub returns-clause-quote : goal.returns-clause-quote
returns-clause-quote c s l = ap (λ (t : ShiftState). t.quoted) (c.self.view_is ∙ l.state)
