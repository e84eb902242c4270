use Rattle.std.proofs.Common.{ap, ◌∙◌, get_or}
use Rattle.cept_report.specs.declared.line.TheConstants.{HEX_DIGITS}
use Rattle.cept_report.proofs.Digits.{digit_of_table}
use Rattle.cept_report.proofs.line.hex_digit.Goals as goal

pub returns : goal.returns
returns c = ap (λ k. get_or HEX_DIGITS k 0) c.from.ensures ∙ digit_of_table c.args.number c.requires
