use Rattle.std.proofs.Common.{◌≡◌, subst}
use Rattle.cept_profile.specs.State.{Page}
use Rattle.cept_page.specs.Fields.{page_of}
use Rattle.cept_page.specs.Behind.{page_behind}
use Rattle.cept_page.proofs.MarkedRows.{IsAreaOf-valid, IsKeptPage-after}
use Rattle.cept_page.proofs.NotedPages.{page_behind-stroke}
use Rattle.std.specs.Prelude.{option_map}
use Rattle.cept_profile.specs.NotedStrokes.{with_stroke}
use Rattle.cept_page.proofs.page.Page.draw.Goals as goal

pub invariant_of-self : goal.invariant_of-self
invariant_of-self g c =
    IsKeptPage-after {stroke = c.args.stroke.now} (IsAreaOf-valid c.args.stroke.now c.requires) c.self.invariant (record {
      cells = c.strike.ensures;
      row_pens = c.set_row_pens.ensures;
      screen_pen = c.set_screen_pen.ensures;
      paints = c.set_colours.ensures.paints;
      dclut = c.set_colours.ensures.dclut;
      patterns = c.set_patterns.ensures;
    }) c.flag_rows.ensures

pub returns-clause-unwound : goal.returns-clause-unwound
returns-clause-unwound g c =
    let q : Page = record {
      cells = c.strike.new.self;
      row_pens = c.set_row_pens.new.pens;
      screen_pen = c.set_screen_pen.new.pen;
      paints = c.set_colours.new.colours.paints;
      dclut = c.set_colours.new.colours.dclut;
      patterns = c.set_patterns.new.patterns;
    } in
    subst (λ (p : Page). page_behind (g.N.Noter.noted c.note_stroke.new.self) q
    ≡ page_behind (g.N.Noter.noted c.args.noter.now) p) c.self.view_is
    (page_behind-stroke (g.N.Noter.noted c.args.noter.now) (g.N.Noter.noted c.note_stroke.new.self)
    (page_of c.self.inside) c.args.stroke.now q (record {
      cells = c.strike.ensures;
      row_pens = c.set_row_pens.ensures;
      screen_pen = c.set_screen_pen.ensures;
      paints = c.set_colours.ensures.paints;
      dclut = c.set_colours.ensures.dclut;
      patterns = c.set_patterns.ensures;
    }) c.note_stroke.ensures)

pub returns-clause-noted : goal.returns-clause-noted
returns-clause-noted g c =
    subst (λ (p : Page). g.N.Noter.noted c.note_stroke.new.self
    ≡ option_map (with_stroke p c.args.stroke.now) (g.N.Noter.noted c.args.noter.now))
    c.self.view_is c.note_stroke.ensures
