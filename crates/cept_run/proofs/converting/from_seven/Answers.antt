use Rattle.std.proofs.Common.{◌++◌, ◌∙◌, arith, length, take, append-nil, sym, ap, ◌≡◌, ℕ}
use Rattle.std.proofs.Common.{◌∷◌, [], length-append}
use Rattle.cept_seven.specs.Eight.{eight, bytes_heard}
use Rattle.cept_run.proofs.ConvertedPieces.{byte_kept, silent_kept, eight_starts, eight_goes_on, eight_converted, eight_refused}
use Rattle.arrayvec.specs.ArrayVec.{ArrayVec}
use Rattle.cept_seven.specs.declared.from_seven.Heard.TheVariants.{Byte, Silent, Refused}
use Rattle.cept_run.proofs.converting.from_seven.Goals as goal
use Rattle.cept_run.proofs.converting.from_seven.Goals.{in-Byte, in-Silent}

pub loop-byte-init : goal.loop-byte-init
loop-byte-init c = record {
  room = omega (arith, ap length c.clear.ensures);
  come = λ b l. eight_starts b c.clear.new.self.items c.args.form.now c.clear.ensures l;
}

pub loop-byte-preserved : goal.loop-byte-preserved
loop-byte-preserved c =
    let so_far = c.loop-byte.invariant in
    let i = c.loop-byte.byte-index in
    let piece = c.args.piece.now in
    elim c.match-push.branch [
      | in-Byte w ↦
          let more = ap (λ (v : ArrayVec ℕ). v.items) w.text-is ∙ w.push-in-Byte.ensures.items in
          record {
            room = omega (arith, ap length more, length-append c.loop-byte.text.items (w.in-Byte.given ∷ []));
            come = λ b l.
                let come = so_far.come b l in
                let kept = λ (e : c.push.result ≡ Refused). byte_kept c.push.result w.in-Byte.given w.in-Byte.is e in
                eight_goes_on b piece c.loop-byte.text.items c.match-push.text.items i c.loop-byte.form c.push.new.self
                (Byte w.in-Byte.given) c.loop-byte-test.true come
                (c.push.ensures.eight (b ++ take i piece) come.leads kept
                ∙ ap (λ r. eight (b ++ take i piece) ++ bytes_heard r) w.in-Byte.is)
                (c.push.ensures.leads (b ++ take i piece) come.leads kept) more;
          }
      | in-Silent w ↦
          let more = ap (λ (v : ArrayVec ℕ). v.items) w.text-is in
          record {
            room = omega (arith, ap length more);
            come = λ b l.
                let come = so_far.come b l in
                let kept = λ (e : c.push.result ≡ Refused). silent_kept c.push.result w.in-Silent.is e in
                eight_goes_on b piece c.loop-byte.text.items c.match-push.text.items i c.loop-byte.form c.push.new.self
                Silent c.loop-byte-test.true come
                (c.push.ensures.eight (b ++ take i piece) come.leads kept
                ∙ ap (λ r. eight (b ++ take i piece) ++ bytes_heard r) w.in-Silent.is)
                (c.push.ensures.leads (b ++ take i piece) come.leads kept) (more ∙ sym (append-nil c.loop-byte.text.items));
          }
    ]

pub returns-in-Refused : goal.returns-in-Refused
returns-in-Refused c = λ b l.
    let come = c.loop-byte.invariant.come b l in
    eight_refused b c.args.piece.now c.loop-byte.text.items c.loop-byte.byte-index c.loop-byte.form c.args.form.now
    c.push.new.self c.loop-byte-test.true l come
    (λ rest. c.push.ensures.refused (b ++ take c.loop-byte.byte-index c.args.piece.now) rest come.leads c.in-Refused.is)

pub returns : goal.returns
returns c = λ b l.
    eight_converted b c.args.piece.now c.loop-byte.text.items c.loop-byte.byte-index c.loop-byte.form c.args.form.now
    c.loop-byte-test.false l (c.loop-byte.invariant.come b l)
