use Rattle.std.proofs.Common.{List, ap, ◌∙◌}
use Rattle.cept_codes.specs.declared.look.Look.{Look}
use Rattle.cept_codes.specs.Look.{blank_look}
use Rattle.cept_profile.specs.Look.{looks_of, part_of}
use Rattle.cept_profile.specs.RowsFromAbove.{looks_in}
use Rattle.cept_profile.specs.State.{State, core_of}
use Rattle.cept_profile.specs.Tiling.{column_entry}
use Rattle.cept_repaint.proofs.LooksSeen.{part_of-look_seen}
use Rattle.cept_repaint.proofs.screen.Screen.row_looks.Goals as goal

pub returns-clause-parts : goal.returns-clause-parts
returns-clause-parts c column low high =
    ap (λ (l : List Look). part_of (column_entry blank_look l column))
    (c.row.ensures ∙ ap (looks_in c.self.inside.picture.looks) c.numbered.ensures
    ∙ ap (λ (g : List (List Look)). looks_in g c.args.row) c.self.invariant.looks
    ∙ ap (λ (s : State). looks_in (looks_of (core_of s)) c.args.row) c.self.view_is)
    ∙ part_of-look_seen (core_of c.args.self.now) c.args.row column
    (record {
      from_top = c.requires.from_top;
      to_bottom = c.requires.to_bottom;
      from_left = low;
      to_right = high;
    })
