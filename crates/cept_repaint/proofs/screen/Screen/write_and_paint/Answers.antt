use Rattle.std.proofs.Common.{List, ap, subst, ◌∙◌}
use Rattle.cept_codes.specs.declared.look.Look.{Look}
use Rattle.cept_codes.specs.Place.{Place}
use Rattle.cept_profile.specs.Changes.{grid_with_paints, marked_looks}
use Rattle.cept_profile.specs.Look.{looks_of}
use Rattle.cept_profile.specs.State.{core_of}
use Rattle.cept_repaint.specs.GlassState.{Lists}
use Rattle.cept_repaint.proofs.AppliedCommands.{goes_on_after}
use Rattle.cept_repaint.proofs.screen.Screen.write_and_paint.Goals as goal

pub returns-clause-applied : goal.returns-clause-applied
returns-clause-applied g c =
    let new = looks_of (core_of c.write.new.self) in record {
      goes_on = goes_on_after c.args.self.now c.write.new.self c.args.command.now c.requires c.write.ensures.written.after;
      after = c.write.ensures.written.after;
      repainted = record {
        marks = c.write.ensures.written.marks;
        shown = c.paint_marked.ensures.shown
            ∙ ap (λ m. grid_with_paints (g.G.Glass.state c.args.glass.now).grid (marked_looks m new)) c.write.ensures.written.marks;
        told = subst (λ (l : List (Place × Look)). Lists (g.G.Glass.state c.args.glass.now).paints l
            (g.G.Glass.state c.paint_marked.new.glass).paints)
            (ap (λ m. marked_looks m new) c.write.ensures.written.marks) c.paint_marked.ensures.told;
      };
      cost = c.write.ensures.written.cost;
      least = c.write.ensures.written.least;
      at_most_24 = c.write.ensures.written.at_most_24;
    }
