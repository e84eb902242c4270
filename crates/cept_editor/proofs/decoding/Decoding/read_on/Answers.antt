use Rattle.std.proofs.Common.{sym, ◌∙◌, arith, rules}
use Rattle.std.proofs.lemmas.Bool.{true≢false}
use Rattle.cept_editor.proofs.BytesSaid.{read_more, read_end, unreadable, length-later}
use Rattle.cept_editor.proofs.DigitsLeft.{end_left, more_left}
use Rattle.cept_editor.proofs.decoding.Decoding.read_on.Goals as goal

pub returns-in_default-clause-left : goal.returns-in_default-clause-left
returns-in_default-clause-left c =
    end_left _ _ _ _ _ _ c.if-self.false c.requires.handed
    (read_end _ c.in_default.len_below c.requires.decoding.readable) c.finish-self.ensures.answer

pub unreachable-requires : goal.unreachable-requires
unreachable-requires c =
    true≢false (sym c.requires.decoding.readable ∙ unreadable c.args.self.now.digits.now c.in-len2-up.len_at_least
    (sym c.byte_of.ensures ∙ c.in_default-byte_of.is))

pub returns-clause-decoding : goal.returns-clause-decoding
returns-clause-decoding c =
    let more = read_more c.args.self.now.digits.now c.in-Some.byte c.in-len2-up.len_at_least
    (sym c.byte_of.ensures ∙ c.in-Some.is) c.requires.decoding.readable in
    record {
      readable = more.0;
      running = λ _. c.push-self.ensures.still_running;
      few = omega (
        arith,
        c.requires.decoding.few,
        c.push-self.ensures.place,
        length-later c.args.self.now.digits.now c.in-len2-up.len_at_least,
      );
      handed = omega arith;
      items = search rules;
    }

pub returns-clause-left : goal.returns-clause-left
returns-clause-left c =
    let more = read_more c.args.self.now.digits.now c.in-Some.byte c.in-len2-up.len_at_least
    (sym c.byte_of.ensures ∙ c.in-Some.is) c.requires.decoding.readable in
    more_left _ _ _ _ _ _ _ c.in-Some.byte _ c.if-self.false c.requires.handed more.1 c.push-self.ensures.answer
    c.push-self.ensures.state
