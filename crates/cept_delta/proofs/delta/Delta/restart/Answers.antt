use Rattle.std.proofs.Common.{Some, refl, ap, length, sym, ◌∙◌, arith}
use Rattle.cept_delta.proofs.KeptDelta.{HasPlaces-none, IsKeptDelta-none, length-no_rows, no_dclut, no_paints, no_pens, replaced}
use Rattle.cept_delta.proofs.KeptDelta.{values_are}
use Rattle.cept_delta.proofs.delta.Delta.restart.Goals as goal

pub invariant_of-self : goal.invariant_of-self
invariant_of-self c =
    IsKeptDelta-none _ _
    (replaced c.self.inside.cells.items c.forget_cells.new.cells c.self.inside.cells.len
    (ap length c.forget_cells.ensures ∙ HasPlaces-none.cells.rows ∙ sym c.self.invariant.places.cells.rows) (omega arith)
    ∙ c.forget_cells.ensures) no_pens no_paints no_dclut
    (replaced c.self.inside.patterns.items c.forget_patterns.new.patterns c.self.inside.patterns.len
    (ap length c.forget_patterns.ensures ∙ HasPlaces-none.patterns ∙ sym c.self.invariant.places.patterns) (omega arith)
    ∙ c.forget_patterns.ensures) length-no_rows

pub returns : goal.returns
returns c =
    values_are _ (Some c.args.control.now)
    (replaced c.self.inside.cells.items c.forget_cells.new.cells c.self.inside.cells.len
    (ap length c.forget_cells.ensures ∙ HasPlaces-none.cells.rows ∙ sym c.self.invariant.places.cells.rows) (omega arith)
    ∙ c.forget_cells.ensures) no_pens refl no_paints no_dclut
    (replaced c.self.inside.patterns.items c.forget_patterns.new.patterns c.self.inside.patterns.len
    (ap length c.forget_patterns.ensures ∙ HasPlaces-none.patterns ∙ sym c.self.invariant.places.patterns) (omega arith)
    ∙ c.forget_patterns.ensures) refl
