use Rattle.std.proofs.Common.{List, ℕ, [], ◌+◌, ◌%◌, ◌∷◌, ◌++◌, ◌∙◌, ap, append_assoc, arith, sym}
use Rattle.cept_report.proofs.Digits.{two_digits}
use Rattle.cept_report.proofs.line.add_small.Goals as goal

pub returns-else-number-lt10-clause-text : goal.returns-else-number-lt10-clause-text
returns-else-number-lt10-clause-text c =
    c.add_byte-else-number-lt10-2.ensures.text ∙ ap (λ (l : List ℕ). l ++ (48 + c.args.number % 10) ∷ [])
    c.add_byte-else-number-lt10.ensures.text ∙ append_assoc c.args.line.now.items _ _
    ∙ ap (λ (l : List ℕ). c.args.line.now.items ++ l) (sym (two_digits c.args.number (omega arith) (omega arith)))
