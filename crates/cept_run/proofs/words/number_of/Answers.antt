use Rattle.std.proofs.Common.{sym, ap, ◌∙◌}
use Rattle.std.specs.Char.{is_ascii_digit}
use Rattle.std.specs.List.{list_all}
use Rattle.cept_run.proofs.Numbers.{number_read}
use Rattle.cept_run.proofs.words.number_of.Goals as goal

pub returns : goal.returns
returns c = c.ok.ensures.value ∙ number_read c.args.word.now c.parse.result c.if-word-gt10.false
    (sym (c.if-not-are_digits.ensures ∙ ap (list_all is_ascii_digit) c.as_bytes.ensures.value)) c.parse.ensures.value.0
