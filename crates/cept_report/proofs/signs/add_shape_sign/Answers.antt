use Rattle.std.proofs.Common.{ℕ, List, ◌++◌, length, sym, ◌∙◌, ap, arith}
use Rattle.cept_codes.specs.declared.look.Shape.{Shape}
use Rattle.cept_report.specs.Screen.{shape_sign}
use Rattle.cept_report.proofs.ScreenLines.{white_square}
use Rattle.cept_report.proofs.signs.add_shape_sign.Goals as goal

pub returns-in-Drcs : goal.returns-in-Drcs
unfolding shape_sign
returns-in-Drcs c = record {
  text = c.add_text-in-Drcs.ensures.text ∙ ap (λ (l : List ℕ). c.args.line.now.items ++ l)
      (c.as_bytes-in-Drcs.ensures.value ∙ sym white_square)
      ∙ ap (λ (s : Shape). c.args.line.now.items ++ shape_sign s) (sym c.in-Drcs.is);
  len = omega (arith, c.add_text-in-Drcs.ensures.len, ap length c.as_bytes-in-Drcs.ensures.value);
}
