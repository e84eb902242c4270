use Rattle.std.proofs.Common.{◌+◌, ◌==◌, true, nat_lt, refl, ◌∙◌, arith}
use Rattle.std.proofs.lemmas.Bool.Decides.{nat_tests}
use Rattle.cept_profile.specs.OldValues.{old_cell}
use Rattle.cept_delta.proofs.PutBack.{cells_back-alike, cells_back-more, cells_back-none}
use Rattle.cept_delta.proofs.unwinding.unwind_cells.Goals as goal

pub loop-number-init : goal.loop-number-init
loop-number-init c =
    cells_back-none (λ r _. nat_lt r 1) (old_cell c.args.delta.now) c.args.grid.now c.whole_by_type.ensures
    (λ r k on. grind (arith, nat_tests))

pub loop-number-preserved : goal.loop-number-preserved
loop-number-preserved c =
    cells_back-more (λ r _. nat_lt r c.loop-number.number) (λ r _. c.numbered.result == r)
    (λ r _. nat_lt r (c.loop-number.number + 1)) (old_cell c.args.delta.now) c.args.grid.now c.loop-number.grid
    c.unwind_row.new.grid c.loop-number.invariant c.unwind_row.ensures (λ r k on. grind (arith, nat_tests))

pub returns : goal.returns
returns c =
    c.loop-number.invariant
    ∙ cells_back-alike (λ r _. nat_lt r c.loop-number.number) (λ _ _. true) (old_cell c.args.delta.now)
    (old_cell c.args.delta.now) c.args.grid.now (λ r k on. grind (arith, nat_tests)) (λ r k on here. refl)
