use Rattle.cept_profile.specs.OldValues.{page_unwound}
use Rattle.cept_delta.specs.Noter.{page_with}
use Rattle.cept_delta.proofs.UnwoundPages.{dclut_put, paints_put, patterns_put, same_parts}
use Rattle.cept_delta.proofs.unwinding.unwind_page.Goals as goal

pub unwind_colours-requires-clause-paints : goal.unwind_colours-requires-clause-paints
unwind_colours-requires-clause-paints c =
    paints_put (page_with c.args.grid.now c.args.row_pens.now c.args.screen_pen.now c.args.colours.now
    c.args.patterns.now) c.args.delta.now c.requires.valid

pub unwind_colours-requires-clause-dclut : goal.unwind_colours-requires-clause-dclut
unwind_colours-requires-clause-dclut c =
    dclut_put (page_with c.args.grid.now c.args.row_pens.now c.args.screen_pen.now c.args.colours.now
    c.args.patterns.now) c.args.delta.now c.requires.valid

pub unwind_patterns-requires : goal.unwind_patterns-requires
unwind_patterns-requires c =
    patterns_put (page_with c.args.grid.now c.args.row_pens.now c.args.screen_pen.now c.args.colours.now
    c.args.patterns.now) c.args.delta.now c.requires.valid

pub returns : goal.returns
returns c =
    same_parts (page_with c.unwind_cells.new.grid c.unwind_row_pens.new.pens c.unwind_screen_pen.new.pen
    c.unwind_colours.new.colours c.unwind_patterns.new.patterns)
    (page_unwound (page_with c.args.grid.now c.args.row_pens.now c.args.screen_pen.now c.args.colours.now
    c.args.patterns.now) c.args.delta.now) c.unwind_cells.ensures c.unwind_row_pens.ensures
    c.unwind_screen_pen.ensures c.unwind_colours.ensures.paints c.unwind_colours.ensures.dclut
    c.unwind_patterns.ensures
