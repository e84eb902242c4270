use Rattle.std.proofs.Common.{◌≡◌, ℕ, suc, ◌+◌, ◌∙◌, ap, sym, arith}
use Rattle.std.proofs.lemmas.Option.{MatchOption-at_some}
use Rattle.cept_codes.specs.declared.cell.Cell.{Cell}
use Rattle.cept_codes.specs.Cell.{blank_cell}
use Rattle.cept_codes.specs.Place.{Place, place_of}
use Rattle.cept_codes.specs.Table.{value_at}
use Rattle.cept_writer.specs.PageCommands.{cell_numbered}
use Rattle.cept_writer.specs.SegmentPieces.{link_of, link_to, placed}
use Rattle.cept_writer.proofs.walk.next_cell.Goals as goal

pub returns-then-n-lt959-clause-link : goal.returns-then-n-lt959-clause-link
returns-then-n-lt959-clause-link c =
    let cells = c.args.screen.now.page.cells in
    let n = c.args.n in
    let at = MatchOption-at_some _ _ c.unwrap.result c.unwrap.ensures c.from_number.ensures.place in
    let next : c.cell-next.result ≡ cell_numbered cells (n + 1) =
    c.cell-next.ensures.cell ∙ ap (λ (p : Place). value_at blank_cell cells p.row p.column) at in
    let e : n + 1 ≡ suc n = omega arith in
    c.link-on.ensures
    ∙ ap (λ (x : Cell). link_of (record { place = place_of n; cell = x })
    (record { place = place_of (n + 1); cell = c.cell-next.result })) c.requires.is
    ∙ ap (λ (x : Cell). link_of (placed cells n) (record { place = place_of (n + 1); cell = x })) next
    ∙ ap (λ (k : ℕ). link_of (placed cells n) (placed cells k)) e
    ∙ ap (link_to cells) (sym e)
