use Rattle.std.proofs.Common.{◌≡◌, subst}
use Rattle.cept_codes.specs.declared.stroke.Stroke.TheVariants as strokes
use Rattle.cept_profile.specs.State.{Page}
use Rattle.cept_page.specs.Drawn.{IsDrawn}
use Rattle.cept_page.specs.Fields.{page_of}
use Rattle.cept_page.specs.MarkedRows.{StandsAlone}
use Rattle.cept_page.specs.inside.MarkedRows.{IsUnflagged}
use Rattle.cept_page.specs.Behind.{page_behind}
use Rattle.cept_page.proofs.MarkedRows.{IsKeptPage-after, IsUnflagged-before, StandsAlone-unflagged}
use Rattle.cept_page.proofs.NotedPages.{page_behind-stroke}
use Rattle.cept_page.proofs.PageParts.{IsDrawn-put}
use Rattle.std.specs.Prelude.{option_map}
use Rattle.cept_profile.specs.NotedStrokes.{with_stroke}
use Rattle.cept_page.proofs.page.Page.put.Goals as goal

pub returns-clause-drawn : goal.returns-clause-drawn
returns-clause-drawn g c =
    subst (λ (p : Page). IsDrawn p (strokes.Put c.args.place c.args.cell.now)
    (record (page_of c.self.inside) { cells = c.put.new.self })) c.self.view_is
    (IsDrawn-put (page_of c.self.inside) c.args.place c.args.cell.now c.put.new.self c.self.invariant.rows
    c.self.invariant.colours c.self.invariant.names c.self.invariant.codes c.put.ensures.cells)

pub returns-clause-before : goal.returns-clause-before
returns-clause-before g c = λ yes.
    subst (λ (p : Page). StandsAlone p c.args.place.row) c.self.view_is
    (StandsAlone-unflagged c.self.invariant c.args.place.row c.in_row.ensures.in_range.0
    c.in_row.ensures.in_range.1 (IsUnflagged-before c.args.place c.args.cell.now c.in_row.ensures.in_range
    c.flag_put.ensures
    (subst (λ n. IsUnflagged c.flag_put.new.marked c.flag_put.new.sized n) c.in_row.ensures.row
    (c.is_unflagged.ensures yes))))

pub returns-clause-after : goal.returns-clause-after
returns-clause-after g c = λ yes.
    StandsAlone-unflagged (IsKeptPage-after tt c.self.invariant
    (IsDrawn-put (page_of c.self.inside) c.args.place c.args.cell.now c.put.new.self c.self.invariant.rows
    c.self.invariant.colours c.self.invariant.names c.self.invariant.codes c.put.ensures.cells) c.flag_put.ensures)
    c.args.place.row c.in_row.ensures.in_range.0 c.in_row.ensures.in_range.1
    (subst (λ n. IsUnflagged c.flag_put.new.marked c.flag_put.new.sized n) c.in_row.ensures.row
    (c.is_unflagged.ensures yes))

pub invariant_of-self : goal.invariant_of-self
invariant_of-self g c =
    IsKeptPage-after tt c.self.invariant
    (IsDrawn-put (page_of c.self.inside) c.args.place c.args.cell.now c.put.new.self c.self.invariant.rows
    c.self.invariant.colours c.self.invariant.names c.self.invariant.codes c.put.ensures.cells) c.flag_put.ensures

pub returns-clause-unwound : goal.returns-clause-unwound
returns-clause-unwound g c =
    let q : Page = record (page_of c.self.inside) { cells = c.put.new.self } in
    subst (λ (p : Page). page_behind (g.N.Noter.noted c.note_put.new.self) q
    ≡ page_behind (g.N.Noter.noted c.args.noter.now) p) c.self.view_is
    (page_behind-stroke (g.N.Noter.noted c.args.noter.now) (g.N.Noter.noted c.note_put.new.self) (page_of c.self.inside)
    (strokes.Put c.args.place c.args.cell.now) q
    (IsDrawn-put (page_of c.self.inside) c.args.place c.args.cell.now c.put.new.self c.self.invariant.rows
    c.self.invariant.colours c.self.invariant.names c.self.invariant.codes c.put.ensures.cells) c.note_put.ensures)

pub returns-clause-noted : goal.returns-clause-noted
returns-clause-noted g c =
    subst (λ (p : Page). g.N.Noter.noted c.note_put.new.self
    ≡ option_map (with_stroke p (strokes.Put c.args.place c.args.cell.now)) (g.N.Noter.noted c.args.noter.now))
    c.self.view_is c.note_put.ensures
