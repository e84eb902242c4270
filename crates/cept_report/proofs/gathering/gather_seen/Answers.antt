use Rattle.std.proofs.Common.{◌++◌, sym, ◌∙◌, ap, arith}
use Rattle.cept_codes.specs.declared.look.Shape.{Shape}
use Rattle.cept_report.specs.Text.{shape_text}
use Rattle.cept_report.proofs.TextsGathered.{Gathers-kept, still_room}
use Rattle.cept_report.proofs.gathering.gather_seen.Goals as goal

pub returns-in-Space : goal.returns-in-Space
unfolding shape_text
returns-in-Space g c = record {
  gathers = Gathers-kept _ _ _ _ (c.add_byte.ensures.text ∙ ap (λ (s : Shape). c.args.lines.now.items ++ shape_text s) (sym c.in-Space.is));
  room = still_room _ _ c.requires.room (omega (arith, c.add_byte.ensures.len));
}

pub returns-in-Char : goal.returns-in-Char
unfolding shape_text
returns-in-Char g c = record {
  gathers = Gathers-kept _ _ _ _ (c.add_sign.ensures.text ∙ ap (λ (s : Shape). c.args.lines.now.items ++ shape_text s) (sym c.in-Char.is));
  room = still_room _ _ c.requires.room c.add_sign.ensures.len;
}
