use Rattle.std.proofs.Common.{List, ◌++◌, length, arith, sym, ap, ◌∙◌}
use Rattle.cept_codes.specs.declared.stroke.Stroke.{Stroke}
use Rattle.cept_profile.specs.Control.{Working, ControlState, control_with}
use Rattle.cept_profile.specs.Writing.{effect_of_sign}
use Rattle.cept_profile.proofs.Laws.{effect_of_copies-none, effect_of_copies-more, length-strokes_of_copies}
use Rattle.cept_control.proofs.control.Control.write_copies.Goals as goal

pub write-requires-clause-room : goal.write-requires-clause-room
write-requires-clause-room c =
    omega (
      arith,
      ap length c.loop-copy.invariant.strokes,
      length-strokes_of_copies c.loop-copy._copy c.args.self.now c.args.sign,
    )

pub loop-copy-init : goal.loop-copy-init
loop-copy-init c =
    let none = sym (effect_of_copies-none c.args.self.now c.args.sign) in
    record {
      state = ap (λ (made : Working × List Stroke). control_with c.args.self.now made.0) none;
      strokes = c.requires.copies.empty ∙ ap (λ (made : Working × List Stroke). made.1) none;
    }

pub loop-copy-preserved : goal.loop-copy-preserved
loop-copy-preserved c =
    let more = sym (effect_of_copies-more c.loop-copy._copy c.args.self.now c.args.sign) in
    record {
      state =
          c.write.ensures.state
          ∙ ap (λ (s : ControlState). control_with s (effect_of_sign s c.args.sign).0) c.loop-copy.invariant.state
          ∙ ap (λ (made : Working × List Stroke). control_with c.args.self.now made.0) more;
      strokes =
          c.write.ensures.strokes
          ∙ (λ i. c.loop-copy.invariant.strokes i ++ (effect_of_sign (c.loop-copy.invariant.state i) c.args.sign).1)
          ∙ ap (λ (made : Working × List Stroke). made.1) more;
    }
