use Rattle.std.proofs.Common.{◌≡◌, ℕ, List, [], ◌∷◌, ◌++◌, length, sym, ◌∙◌, ap, arith}
use Rattle.cept_report.proofs.TextsInPieces.{pieces, pieces-none}
use Rattle.cept_report.proofs.ScreenLines.{sign_at, row_line-is, row_line-more}
use Rattle.cept_report.proofs.signs.row_line.Goals as goal

pub loop-i-init : goal.loop-i-init
loop-i-init g c = record {
  text = c.new-line.ensures ∙ sym (pieces-none (sign_at (g.G.Glass.state c.args.glass.now).grid c.args.row) 1);
  room = omega (arith, ap length c.new-line.ensures);
}

pub loop-i-preserved : goal.loop-i-preserved
loop-i-preserved g c = record {
  text = row_line-more _ _ _ _ _ _ _ c.loop-i.invariant.text c.place.ensures c.shown_look.ensures.look
      c.add_look_sign.ensures.text;
  room = omega arith;
}

pub returns : goal.returns
returns g c =
    c.add_byte.ensures.text ∙ ap (λ (l : List ℕ). l ++ 10 ∷ [])
    (c.loop-i.invariant.text ∙ ap (pieces (sign_at (g.G.Glass.state c.args.glass.now).grid c.args.row) 1)
    (let e : c.loop-i.i ≡ 40 = omega arith in e))
    ∙ sym (row_line-is (g.G.Glass.state c.args.glass.now).grid c.args.row)
