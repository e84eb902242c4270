use Rattle.std.proofs.Common.{ap, ◌∙◌, get_or, arith}
use Rattle.cept_drcs.specs.declared.words.TheConstants.{TURNED}
use Rattle.cept_drcs.proofs.StripWords.{turned, strip_small}
use Rattle.cept_drcs.proofs.words.strip.Goals as goal

pub returns-clause-pixels : goal.returns-clause-pixels
returns-clause-pixels c =
    c.from-2.ensures ∙ ap (λ k. get_or TURNED k 0) c.from.ensures ∙ turned c.args.byte (omega arith)

pub returns-clause-range : goal.returns-clause-range
returns-clause-range c =
    omega (
      arith,
      strip_small c.args.byte,
      c.from-2.ensures ∙ ap (λ k. get_or TURNED k 0) c.from.ensures ∙ turned c.args.byte (omega arith),
    )
