use Rattle.std.proofs.Common.{◌-◌, ap, sym, ◌∙◌, arith}
use Rattle.cept_codes.specs.declared.command.Up.{Up}
use Rattle.cept_scroll.specs.Order.{order_after}
use Rattle.cept_scroll.proofs.TurnedSlots.{length-mid_of, turned_down, turned_up}
use Rattle.cept_scroll.proofs.row_order.turn_rows.Goals as goal

pub returns-in-Up : goal.returns-in-Up
returns-in-Up c =
    turned_up c.args.slots.now c.rotate_left.new.self c.args.first c.args.last (c.from.result - 1)
    (c.from-2.result - (c.from.result - 1)) c.requires.area c.requires.rows (omega arith) (omega arith)
    c.rotate_left.ensures.after
    ∙ ap (λ (way : Up). order_after way c.args.first c.args.last c.args.slots.now) (sym c.in-Up.is)

pub returns-in-Down : goal.returns-in-Down
returns-in-Down c =
    let many : _ = length-mid_of (c.from.result - 1) (c.from-2.result - (c.from.result - 1)) c.args.slots.now
    (omega (arith, c.requires.area, c.requires.rows)) in
    turned_down c.args.slots.now c.rotate_right.new.self c.args.first c.args.last (c.from.result - 1)
    (c.from-2.result - (c.from.result - 1)) _ c.requires.area c.requires.rows (omega arith) (omega arith)
    (omega (arith, many, c.requires.area)) c.rotate_right.ensures.after
    ∙ ap (λ (way : Up). order_after way c.args.first c.args.last c.args.slots.now) (sym c.in-Down.is)
