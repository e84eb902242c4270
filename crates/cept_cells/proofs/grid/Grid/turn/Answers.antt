use Rattle.std.proofs.Common.{List, ℕ, sym, ap, subst, ◌∙◌}
use Rattle.cept_scroll.specs.Order.{AreInSlots, rows_in_order}
use Rattle.cept_scroll.proofs.Laws.{AreInSlots-turned, rows_in_order-turned}
use Rattle.cept_cells.proofs.grid.Grid.turn.Goals as goal

pub invariant_of-self : goal.invariant_of-self
invariant_of-self c =
    subst (λ (order : List ℕ). AreInSlots order c.self.inside.rows.items) (sym c.turn.ensures.order)
    (AreInSlots-turned c.self.invariant c.args.way c.args.first c.args.last c.requires)

pub returns : goal.returns
returns c =
    ap (λ (order : List ℕ). rows_in_order order c.self.inside.rows.items) c.turn.ensures.order
    ∙ rows_in_order-turned c.self.inside.order c.self.inside.rows.items c.self.view_is c.args.way c.args.first
    c.args.last c.requires
