use Rattle.std.proofs.Common.{◌≡◌, drop}
use Rattle.std.specs.Prelude.{option_map}
use Rattle.cept_profile.specs.NotedStrokes.{with_strokes}
use Rattle.cept_profile.specs.State.{page_after}
use Rattle.cept_page.specs.Behind.{page_behind}
use Rattle.cept_page.proofs.page.Page.draw_all.Given as goal

abbrev pub invariant-loop-stroke : goal.invariant-loop-stroke
invariant-loop-stroke g l = record {
  drawn : page_after l.self (drop l.stroke-index l.strokes) ≡ page_after l.fn.self l.strokes;
  unwound : page_behind (g.N.Noter.noted l.noter) l.self ≡ page_behind (g.N.Noter.noted l.fn.noter) l.fn.self;
  noted : option_map (with_strokes l.self (drop l.stroke-index l.strokes)) (g.N.Noter.noted l.noter)
      ≡ option_map (with_strokes l.fn.self l.strokes) (g.N.Noter.noted l.fn.noter);
}
