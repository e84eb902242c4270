use Rattle.std.proofs.Common.{refl, arith, ap, ◌∙◌}
use Rattle.cept_live.specs.Renewed.{marked_with}
use Rattle.cept_live.proofs.SayingsTold.{marks-next, marks-none, number-below, sayings_below-all}
use Rattle.cept_live.proofs.edits.add_marks.Goals as goal

pub loop-place-init : goal.loop-place-init
loop-place-init c = record { within = omega arith; marked = λ at g. marks-none at c.args.all.now c.args.marks.now g }

pub loop-place-preserved : goal.loop-place-preserved
loop-place-preserved c =
    let first = c.in-Some.ensures.first in
    record {
      within = omega (arith, number-below _ _ _ first, c.number-number.ensures.number);
      marked = λ at g. rw c.number-number.ensures.number (rw c.mark.ensures (marks-next at c.args.all.now c.loop-place.all
          c.args.marks.now g c.loop-place.number c.in-Some.place first (c.loop-place.invariant.marked at g)));
    }

pub returns : goal.returns
returns c = λ at g.
    c.loop-place.invariant.marked at g ∙ ap (marked_with c.args.all.now)
    (sayings_below-all at c.args.marks.now g c.loop-place.number c.loop-place.invariant.within (c.in_default.ensures.none.0 refl))
