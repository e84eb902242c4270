use Rattle.std.proofs.Common.{◌∙◌, ◌++◌, ap, arith}
use Rattle.std.specs.List.{flat_map}
use Rattle.std.proofs.lemmas.List.{take_all}
use Rattle.cept_report.specs.Text.{hex_byte}
use Rattle.cept_report.proofs.Digits.{hex_word-by_bytes}
use Rattle.cept_report.proofs.line.add_hex_word.Goals as goal

pub returns-clause-text : goal.returns-clause-text
returns-clause-text c =
    let all = take_all c.loop-byte.byte-index c.to_be_bytes.result (omega arith) in
    c.loop-byte.invariant.text ∙ ap (λ bytes. c.args.line.now.items ++ flat_map hex_byte bytes)
    (all ∙ c.to_be_bytes.ensures) ∙ ap (λ text. c.args.line.now.items ++ text) (hex_word-by_bytes c.args.word)
