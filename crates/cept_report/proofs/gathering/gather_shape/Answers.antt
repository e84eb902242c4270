use Rattle.std.proofs.Common.{ℕ, List, ◌++◌, sym, ◌∙◌, ap, arith}
use Rattle.cept_codes.specs.declared.look.Shape.{Shape}
use Rattle.cept_report.specs.Text.{shape_text, pattern_text, ink_texts}
use Rattle.cept_report.proofs.TextsGathered.{Gathers-kept, Gathers-put, drawn_room, still_room}
use Rattle.cept_report.proofs.gathering.gather_shape.Goals as goal

pub returns-in-Space : goal.returns-in-Space
unfolding shape_text
returns-in-Space g c = record {
  gathers = Gathers-kept _ _ _ _ (c.add_byte.ensures.text ∙ ap (λ (s : Shape). c.args.lines.now.items ++ shape_text s) (sym c.in-Space.is));
  room = still_room _ _ c.requires.room (omega (arith, c.add_byte.ensures.len));
}

pub returns-in-Char : goal.returns-in-Char
unfolding shape_text
returns-in-Char g c = record {
  gathers = Gathers-kept _ _ _ _ (c.add_sign.ensures.text ∙ ap (λ (s : Shape). c.args.lines.now.items ++ shape_text s) (sym c.in-Char.is));
  room = still_room _ _ c.requires.room c.add_sign.ensures.len;
}

pub returns-in_ok-hand_on-in-Drcs : goal.returns-in_ok-hand_on-in-Drcs
unfolding shape_text
returns-in_ok-hand_on-in-Drcs g c =
    let drawn = pattern_text c.in-Drcs.pattern ++ ink_texts c.in-Drcs.pattern.planes c.in-Drcs.inks in
    record {
      gathers = Gathers-put _ _ _ _ _ c.in_ok-hand_on-in-Drcs.ensures.puts.whole c.in_ok-hand_on-in-Drcs.ensures.puts.cause.stays
          (c.add_drawing.ensures.text ∙ ap (λ (l : List ℕ). l ++ drawn) c.hand_on.ensures.none
          ∙ ap (λ (s : Shape). shape_text s) (sym c.in-Drcs.is));
      room = drawn_room _ _ c.hand_on.ensures.len c.add_drawing.ensures.len;
    }
