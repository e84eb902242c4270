use Rattle.std.proofs.Common.{◌∙◌, ◌<◌, List, ℕ, length, sym, ap, subst, slice_index_or}
use Rattle.cept_editor.specs.Places.{IsPlacedOrder, step_at}
use Rattle.cept_editor.specs.Script.{EditLine}
use Rattle.cept_editor.proofs.KeptLines.{placed_at, step_is}
use Rattle.cept_editor.proofs.script.Script.edit.Goals as goal

pub of-requires : goal.of-requires
of-requires c =
    subst (λ (text : List ℕ). IsPlacedOrder text c.index.result.now.order) (sym c.as_slice.ensures.value)
    (placed_at c.self.inside.text.items c.self.inside.orders.items c.args.k c.index.result.now c.self.invariant.each
    (subst (λ (es : List EditLine). c.args.k < length es) (sym c.self.view_is) c.requires) c.index.ensures)

pub returns-clause-step : goal.returns-clause-step
returns-clause-step c default =
    c.of.ensures.step ∙ ap (λ (text : List ℕ). step_at text c.index.result.now.order) c.as_slice.ensures.value
    ∙ step_is c.self.inside.text.items c.self.inside.orders.items c.args.k c.index.result.now default
    (subst (λ (es : List EditLine). c.args.k < length es) (sym c.self.view_is) c.requires) c.index.ensures
    ∙ ap (λ (es : List EditLine). (slice_index_or es c.args.k default).step) c.self.view_is
