use Rattle.std.proofs.Common.{◌+◌, Bool, List, refl, subst, ◌∙◌, sym}
use Rattle.std.proofs.lemmas.List.{get_or_default}
use Rattle.cept_codes.specs.Place.{number}
use Rattle.cept_flash.specs.declared.blink.Flashing.{Flashing}
use Rattle.cept_flash.specs.Flashing.{IsFlashing}
use Rattle.cept_flash.proofs.TurnedPlaces.{AreTurned, AreTurned-all, AreTurned-left, AreTurned-marked, AreTurned-none}
use Rattle.cept_flash.proofs.blink.mark_turning.Goals as goal
use Rattle.cept_flash.proofs.blink.mark_turning.Goals.{then-turns, else-turns}

pub loop-flashing-init : goal.loop-flashing-init
loop-flashing-init c looks all =
    AreTurned-none looks c.args.before c.args.after c.args.flashing.now c.clear.new.self c.clear.ensures

pub loop-flashing-preserved : goal.loop-flashing-preserved
loop-flashing-preserved c looks all =
    let i = c.loop-flashing.flashing-index in
    let f : Flashing = c.flashing-item.result in
    let here = λ (d : Flashing). get_or_default c.args.flashing.now i d f c.loop-flashing-test.true ∙ sym c.flashing-item.is in
    let is : IsFlashing looks f =
    subst (λ (g : Flashing). IsFlashing looks g) (here f) (all.only i f c.loop-flashing-test.true) in
    elim c.if-turns.branch [
      | then-turns w ↦
          AreTurned-marked c.if-turns.marks f (number f.at.row f.at.column) i (c.loop-flashing.invariant looks all) is here
          refl (w.marks-is ∙ w.mark.ensures) (sym c.turns.ensures ∙ w.if-turns.true)
      | else-turns w ↦
          subst (λ (m : List Bool). AreTurned looks c.args.before c.args.after c.args.flashing.now m (i + 1)) (sym w.marks-is)
          (AreTurned-left f i (c.loop-flashing.invariant looks all) here (sym c.turns.ensures ∙ w.if-turns.false))
    ]

pub returns : goal.returns
returns c looks all =
    AreTurned-all c.loop-flashing.flashing-index (c.loop-flashing.invariant looks all) c.loop-flashing-test.false all
