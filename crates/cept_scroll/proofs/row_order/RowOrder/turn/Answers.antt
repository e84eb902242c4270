use Rattle.std.proofs.Common.{List, ℕ, sym, subst}
use Rattle.cept_scroll.specs.Order.{IsRowOrder}
use Rattle.cept_scroll.proofs.Orders.{IsRowOrder-order_after}
use Rattle.cept_scroll.proofs.row_order.RowOrder.turn.Goals as goal

pub invariant_of-self : goal.invariant_of-self
invariant_of-self c =
    subst (λ (order : List ℕ). IsRowOrder order) (sym c.turn_rows.ensures)
    (IsRowOrder-order_after c.args.way c.args.first c.args.last c.self-2.inside.slots c.requires c.self-2.invariant)
