use Rattle.std.proofs.Common.{◌≡◌, ◌++◌, ◌∷◌, [], sym, ◌∙◌, ap, arith, List}
use Rattle.std.proofs.Common.{◌||◌, refl}
use Rattle.std.proofs.lemmas.Bool.{true≢false}
use Rattle.cept_codes.specs.declared.item.Item.{Item}
use Rattle.cept_editor.specs.Order.{raw_bytes}
use Rattle.cept_editor.proofs.BytesSaid.{HasSaid, gone_none, gone_more, gone_all, read_more, read_end, unreadable}
use Rattle.cept_editor.proofs.BytesSaid.{any_refused, gone_with, said_with, later_digits, length-later}
use Rattle.cept_editor.proofs.digits.has_refusal.Goals as goal
use Rattle.cept_editor.proofs.digits.has_refusal.Goals.{After-or_refused}

pub loop-left-init : goal.loop-left-init
loop-left-init c = record {
  few = omega (arith, c.new-parser.ensures.place);
  running = c.new-parser.ensures.running;
  readable = c.requires.readable;
  gone = ([], gone_none _ _ c.new-parser.ensures);
}

pub unreachable-requires : goal.unreachable-requires
unreachable-requires c =
    true≢false (sym c.loop-left.invariant.readable ∙ unreadable c.loop-left.left.now c.in-len2-up.len_at_least
    (sym c.byte_of.ensures ∙ c.in_default-byte_of.is))

pub loop-left-preserved : goal.loop-left-preserved
loop-left-preserved c =
    let so_far = c.loop-left.invariant in
    let more = read_more c.loop-left.left.now c.in-Some.byte c.in-len2-up.len_at_least
    (sym c.byte_of.ensures ∙ c.in-Some.is) so_far.readable in
    let done = so_far.gone.0 in
    let found : c.loop-left.refused || any_refused c.push-items.result.items ≡ c.or_refused-refused.result =
    ap (λ (is : List Item). c.loop-left.refused || any_refused is) (sym c.as_slice.ensures.value)
    ∙ sym c.or_refused-refused.ensures in
    record {
      few = omega (
        arith,
        so_far.few,
        c.push-items.ensures.place,
        length-later c.loop-left.left.now c.in-len2-up.len_at_least,
      );
      running = c.push-items.ensures.still_running;
      readable = more.0;
      gone = (
        done ++ c.in-Some.byte ∷ [],
        gone_with _ _ _ _ _ _ _ refl found
            (gone_more _ done (raw_bytes (later_digits c.loop-left.left.now)) c.in-Some.byte c.loop-left.parser _ _ _
            (gone_with _ _ _ _ _ _ _ more.1 refl so_far.gone.1)
            (c.push-items.ensures.items done) (c.push-items.ensures.leads done) c.push-items.ensures.answer
            c.push-items.ensures.state c.push-items.ensures.valid),
      );
    }

said : (c : After-or_refused) → HasSaid (raw_bytes c.args.digits.now) c.or_refused.result
said c =
    let so_far = c.loop-left.invariant in
    let done = so_far.gone.0 in
    let end = read_end c.loop-left.left.now c.in_default.len_below so_far.readable in
    let found : c.loop-left.refused || any_refused c.finish-items.result.items ≡ c.or_refused.result =
    ap (λ (is : List Item). c.loop-left.refused || any_refused is) (sym c.as_slice-2.ensures.value)
    ∙ sym c.or_refused.ensures in
    said_with _ _ _ found
    (gone_all _ done c.loop-left.parser _ _ (gone_with _ _ _ _ _ _ _ end refl so_far.gone.1)
    (c.finish-items.ensures.closed done) c.finish-items.ensures.answer c.finish-items.ensures.valid)

pub returns-clause-refused : goal.returns-clause-refused
returns-clause-refused c = (said c).refused

pub returns-clause-sound : goal.returns-clause-sound
returns-clause-sound c = record {
  few = c.requires.few;
  readable = c.requires.readable;
  said = (said c).said;
  valid = (said c).valid;
}
