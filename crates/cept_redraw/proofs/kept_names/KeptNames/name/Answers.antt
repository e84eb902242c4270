use Rattle.std.proofs.Common.{List, get_or, ap, sym, ◌∙◌, arith}
use Rattle.std.proofs.lemmas.List.{get_or_default}
use Rattle.cept_codes.specs.declared.look.Look.{Look}
use Rattle.cept_codes.specs.Look.{blank_look}
use Rattle.cept_codes.proofs.Laws.{entry_from}
use Rattle.cept_profile.specs.Look.{part_of}
use Rattle.cept_profile.specs.Tiling.{column_entry, covers_below}
use Rattle.cept_redraw.specs.Kept.{core_on}
use Rattle.cept_redraw.specs.Named.{NamesOfRows, names_beneath, row_named}
use Rattle.cept_redraw.proofs.NamesKept.{AreNamed-above, AreNamed-last, beneath-covered}
use Rattle.cept_rows.specs.declared.naming.RowNames.{RowNames}
use Rattle.cept_rows.specs.KeptNames.{names_kept}
use Rattle.cept_redraw.proofs.kept_names.KeptNames.name.Goals as goal

pub returns-then-at-lt23-clause-named : goal.returns-then-at-lt23-clause-named
returns-then-at-lt23-clause-named c k seen are =
    AreNamed-above c.self.inside.above c.self.inside.rows c.self.inside.known c.args.self.now c.self.view_is
    (core_on k c.args.page.now) are c.args.row c.index-at.result c.index-at.ensures.index c.index-at.ensures.in_range.0 (omega arith)
    c.name_row-names.result
    (λ column on. c.name_row-names.ensures k column on seen
    ∙ ap (λ (n : RowNames). names_beneath n (core_on k c.args.page.now) c.args.row column) c.above.ensures)
    c.is_same_below-same.result
    (λ yes column right.
    beneath-covered (core_on k c.args.page.now) c.name_row-names.result
    (row_named c.args.self.now c.args.row) c.args.row column c.index-at.ensures.in_range.0 (omega arith) right
    (λ d low high covered.
    c.is_same_below-same.ensures yes d low high
    (ap (λ (l : List Look). covers_below (part_of (column_entry blank_look l d))) seen ∙ covered)
    ∙ ap (λ (n : RowNames). names_kept n d) (get_or_default c.self.inside.rows c.index-at.result _ c.self.inside.above
    (omega (arith, c.index-at.ensures.below, c.self.invariant.0))
    ∙ ap (λ n. get_or c.self.inside.rows n c.self.inside.above) c.index-at.ensures.index
    ∙ sym (entry_from c.self.inside.above 1 c.self.inside.rows c.args.row c.index-at.ensures.in_range.0)
    ∙ ap (λ (n : NamesOfRows). row_named n c.args.row) c.self.view_is)))

pub returns-else-at-lt23-clause-named : goal.returns-else-at-lt23-clause-named
returns-else-at-lt23-clause-named c k seen are =
    AreNamed-last c.self.inside.above c.self.inside.rows c.self.inside.known c.args.self.now c.self.view_is
    (core_on k c.args.page.now) are c.args.row c.index-at.result c.index-at.ensures.index c.index-at.ensures.in_range.0
    c.index-at.ensures.in_range.1 (omega arith) c.name_row-names.result
    (λ column on. c.name_row-names.ensures k column on seen
    ∙ ap (λ (n : RowNames). names_beneath n (core_on k c.args.page.now) c.args.row column) c.above.ensures)
