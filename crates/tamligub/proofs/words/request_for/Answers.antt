use Rattle.std.proofs.lemmas.Bool.{false_from_ne_true}
use Rattle.std.proofs.lemmas.Str.{IsUtf8-from_is_utf8, is_utf8-from_IsUtf8}
use Rattle.tamligub.proofs.Texts.{asked_of_text, nothing_asked}
use Rattle.tamligub.proofs.words.request_for.Goals as goal

pub returns-in_default-clause-request : goal.returns-in_default-clause-request
returns-in_default-clause-request c =
    nothing_asked c.args.word.now c.args.given c.args.number
    (false_from_ne_true _ (λ e. c.in_default.ensures.cases.0 (IsUtf8-from_is_utf8 _ e)))

pub returns-clause-request : goal.returns-clause-request
returns-clause-request c =
    asked_of_text c.args.word.now c.in-Ok.first.now c.args.given c.args.number _
    (is_utf8-from_IsUtf8 _ c.in-Ok.ensures.cases.1) c.in-Ok.ensures.cases.0 (c.request_after.ensures.request _ (cc))
