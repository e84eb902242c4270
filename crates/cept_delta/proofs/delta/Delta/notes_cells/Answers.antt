use Rattle.std.proofs.Common.{◌≡◌, ◌-◌, false, get_or, is_some, List, Option, [], sym, ap, ◌∙◌, arith}
use Rattle.std.specs.List.{list_any}
use Rattle.std.proofs.lemmas.List.{get_or_default}
use Rattle.cept_codes.specs.declared.cell.Cell.{Cell}
use Rattle.cept_codes.proofs.Laws.{entry_from}
use Rattle.cept_profile.specs.OldValues.{OldValues}
use Rattle.cept_delta.specs.Noted.{notes_cells}
use Rattle.cept_delta.proofs.NoneNoted.{none_in_row}
use Rattle.cept_delta.proofs.delta.Delta.notes_cells.Goals as goal

pub returns-then-self-index : goal.returns-then-self-index
returns-then-self-index c =
    let here : get_or c.self.inside.cells.items c.index-index.result c.index.result.now
    ≡ get_or c.self.inside.cells.items (c.args.row - 1) [] =
    get_or_default c.self.inside.cells.items c.index-index.result c.index.result.now []
    (omega (arith, c.self.invariant.places.cells.rows))
    ∙ ap (λ n. get_or c.self.inside.cells.items n []) c.index-index.ensures.index in
    c.one_noted.ensures ∙ ap (λ (l : List (Option Cell)). list_any is_some l) (c.index.ensures ∙ here)
    ∙ ap (λ (old : OldValues). notes_cells old c.args.row) c.self.view_is

pub returns-else-self-index : goal.returns-else-self-index
returns-else-self-index c =
    let unset = c.if-self-index.false in
    unset
    ∙ sym (none_in_row c.self.inside.cells.items c.args.row c.self.invariant.places.cells (omega arith)
    (omega arith) (λ k on.
    c.self.invariant.flagged.cells c.args.row k on
    (entry_from false 1 c.self.inside.rows c.args.row (omega arith)
    ∙ ap (λ n. get_or c.self.inside.rows n false) (sym c.index-index.ensures.index) ∙ unset)))
    ∙ ap (λ (old : OldValues). notes_cells old c.args.row) c.self.view_is
