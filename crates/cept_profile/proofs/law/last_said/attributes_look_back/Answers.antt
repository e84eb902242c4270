use Rattle.cept_profile.proofs.LastSaid.{row_pens-said, screen_pen-said, row_pens-drawn, screen_pen-drawn}
use Rattle.cept_profile.proofs.law.last_said.attributes_look_back.Goals as goal

pub returns : goal.returns
returns c = record {
  rows = row_pens-said;
  screen = screen_pen-said;
  drawn_rows = row_pens-drawn;
  drawn_screen = screen_pen-drawn;
}
