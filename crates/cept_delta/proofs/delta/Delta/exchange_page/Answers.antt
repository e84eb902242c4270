use Rattle.std.proofs.Common.{◌≤◌, ◌<◌, ℕ, IfSome, List, None, Option, length, refl, sym, ap, subst, ◌∙◌, arith}
use Rattle.cept_codes.specs.declared.cell.Cell.{Cell}
use Rattle.cept_codes.specs.declared.look.Pattern.{Pattern}
use Rattle.cept_codes.specs.Attribute.{IsEntry}
use Rattle.cept_codes.specs.Cell.{blank_cell}
use Rattle.cept_codes.specs.Look.{IsValidPaint, IsValidPattern}
use Rattle.cept_codes.specs.Table.{entry, table, value_at}
use Rattle.cept_codes.proofs.Laws.{length-list_by_index}
use Rattle.cept_profile.specs.PageParts.{list_of_codes, pattern_in}
use Rattle.cept_profile.specs.OldValues.{OldValues, old_dclut, old_paint, old_pattern}
use Rattle.cept_delta.specs.Delta.{values_of}
use Rattle.cept_delta.specs.Exchanged.{noted_instead, page_exchanged}
use Rattle.cept_delta.specs.Noter.{page_with}
use Rattle.cept_delta.proofs.ExchangedStates.{IsKeptDelta-exchanged, length-table, same_values}
use Rattle.cept_delta.proofs.KeptDelta.{replaced}
use Rattle.cept_delta.proofs.UnwoundPages.{dclut_put, paints_put, patterns_put}
use Rattle.cept_delta.proofs.delta.Delta.exchange_page.Goals as goal

pub exchange_colours-requires-clause-valid : goal.exchange_colours-requires-clause-valid
exchange_colours-requires-clause-valid c =
    subst (λ (v : OldValues). (i : ℕ) → i < 32 → IfSome (old_paint v i) IsValidPaint) (sym c.self.view_is)
    (paints_put (page_with c.args.grid.now c.args.row_pens.now c.args.screen_pen.now c.args.colours.now
    c.args.patterns.now) c.args.self.now c.requires.valid)

pub exchange_colours-requires-clause-valid_dclut : goal.exchange_colours-requires-clause-valid_dclut
exchange_colours-requires-clause-valid_dclut c =
    subst (λ (v : OldValues). (i : ℕ) → i < 4 → IfSome (old_dclut v i) IsEntry) (sym c.self.view_is)
    (dclut_put (page_with c.args.grid.now c.args.row_pens.now c.args.screen_pen.now c.args.colours.now
    c.args.patterns.now) c.args.self.now c.requires.valid)

pub exchange_patterns-requires-clause-valid : goal.exchange_patterns-requires-clause-valid
exchange_patterns-requires-clause-valid c =
    let valid = subst (λ (v : OldValues). (d : ℕ) → 0x21 ≤ d → d ≤ 0x7E
    → IfSome (old_pattern v d) (λ pattern. IfSome pattern IsValidPattern)) (sym c.self.view_is)
    (patterns_put (page_with c.args.grid.now c.args.row_pens.now c.args.screen_pen.now c.args.colours.now
    c.args.patterns.now) c.args.self.now c.requires.valid) in
    subst (λ (l : List (Option (Option Pattern))). (d : ℕ) → 0x21 ≤ d → d ≤ 0x7E
    → IfSome (entry None 0x21 l d) (λ pattern. IfSome pattern IsValidPattern)) (sym c.deref_mut-2.ensures.value) valid

pub invariant_of-self : goal.invariant_of-self
invariant_of-self c =
    let p = page_with c.args.grid.now c.args.row_pens.now c.args.screen_pen.now c.args.colours.now
    c.args.patterns.now in
    let old = values_of c.self.inside in
    IsKeptDelta-exchanged p old _ c.self.invariant
    (same_values _ (page_exchanged p old)
    (replaced c.self.inside.cells.items c.exchange_cells.new.noted c.self.inside.cells.len
    (length-table (λ r k. noted_instead (value_at None c.deref_mut.result.now r k)
    (value_at blank_cell c.args.grid.now r k)) c.exchange_cells.new.noted c.exchange_cells.ensures.noted
    ∙ sym c.self.invariant.places.cells.rows) (omega arith)
    ∙ c.exchange_cells.ensures.noted
    ∙ ap (λ (t : List (List (Option Cell))). table (λ r k. noted_instead (value_at None t r k)
    (value_at blank_cell c.args.grid.now r k))) c.deref_mut.ensures.value)
    c.exchange_row_pens.ensures.noted
    c.exchange_value.ensures.noted
    c.exchange_colours.ensures.noted
    c.exchange_colours.ensures.noted_dclut
    (replaced c.self.inside.patterns.items c.exchange_patterns.new.noted c.self.inside.patterns.len
    (ap length c.exchange_patterns.ensures.noted ∙ length-list_by_index 0x21 94 _
    ∙ sym c.self.invariant.places.patterns) (omega arith)
    ∙ c.exchange_patterns.ensures.noted
    ∙ ap (λ (l : List (Option (Option Pattern))). list_of_codes (λ d. noted_instead (entry None 0x21 l d)
    (pattern_in c.args.patterns.now d))) c.deref_mut-2.ensures.value)
    refl)
