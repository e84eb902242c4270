use Rattle.std.proofs.Common.{◌∙◌, sym, arith}
use Rattle.cept_page.proofs.PageParts.{page_after-drop, page_after-drop_all, valid_item}
use Rattle.cept_page.proofs.NotedInOrder.{noted-drop, noted-drop_all}
use Rattle.cept_page.proofs.page.Page.draw_all.Goals as goal

pub draw-requires : goal.draw-requires
draw-requires g c =
    valid_item c.args.strokes.now c.requires c.loop-stroke.stroke-index c.stroke-item.result c.loop-stroke-test.true
    c.stroke-item.is

pub loop-stroke-preserved : goal.loop-stroke-preserved
loop-stroke-preserved g c = record {
  drawn = page_after-drop c.loop-stroke.self c.draw.new.self c.args.strokes.now c.loop-stroke.stroke-index
      c.stroke-item.result c.loop-stroke-test.true c.stroke-item.is c.draw.ensures.drawn ∙ c.loop-stroke.invariant.drawn;
  unwound = c.draw.ensures.unwound ∙ c.loop-stroke.invariant.unwound;
  noted = noted-drop c.loop-stroke.self c.draw.new.self c.args.strokes.now c.loop-stroke.stroke-index
      c.stroke-item.result (g.N.Noter.noted c.loop-stroke.noter) (g.N.Noter.noted c.draw.new.noter)
      c.loop-stroke-test.true c.stroke-item.is c.draw.ensures.drawn c.draw.ensures.noted
      ∙ c.loop-stroke.invariant.noted;
}

pub returns-clause-drawn : goal.returns-clause-drawn
returns-clause-drawn g c =
    sym (page_after-drop_all c.loop-stroke.self c.args.strokes.now c.loop-stroke.stroke-index (omega arith))
    ∙ c.loop-stroke.invariant.drawn

pub returns-clause-noted : goal.returns-clause-noted
returns-clause-noted g c =
    sym (noted-drop_all c.loop-stroke.self c.args.strokes.now c.loop-stroke.stroke-index
    (g.N.Noter.noted c.loop-stroke.noter) (omega arith))
    ∙ c.loop-stroke.invariant.noted
