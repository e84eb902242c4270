use Rattle.std.proofs.Common.{List, refl, arith, ap, ◌∙◌, subst}
use Rattle.cept_profile.specs.Look.{looks_of}
use Rattle.cept_profile.specs.State.{core_of}
use Rattle.cept_live.specs.Live.{Tells}
use Rattle.cept_live.specs.Notices.{Saying}
use Rattle.cept_live.specs.Renewed.{marked_with}
use Rattle.cept_live.proofs.SayingsTold.{marked-none, marked-next, number-below, sayings_below-all}
use Rattle.cept_live.proofs.tell.tell_marked.Goals as goal

pub loop-place-init : goal.loop-place-init
loop-place-init c = record {
  within = omega arith;
  few = omega arith;
  told = marked-none c.args.list.now c.args.from c.args.at c.args.renewed.now c.args.marks.now (looks_of (core_of c.args.screen.now));
}

pub loop-place-preserved : goal.loop-place-preserved
loop-place-preserved c =
    let so_far = c.loop-place.invariant in
    let first = c.in-Some.ensures.first in
    let below = number-below _ _ _ first in
    record {
      within = omega (arith, below, c.number-number.ensures.number);
      few = omega (arith, so_far.few, first.at_least, c.number-number.ensures.number);
      told = rw c.number-number.ensures.number (rw c.of_change.ensures (rw c.look.ensures.look (rw c.mark.ensures
          (marked-next c.args.list.now c.loop-place.list c.args.from c.loop-place.to c.args.at c.args.renewed.now c.loop-place.renewed
          c.args.marks.now (looks_of (core_of c.args.screen.now)) c.loop-place.number c.in-Some.place first
          (omega (arith, c.requires, so_far.few, first.at_least, below)) so_far.told))));
    }

pub returns-clause-tells : goal.returns-clause-tells
returns-clause-tells c =
    subst (λ (xs : List Saying). Tells c.args.list.now c.args.from xs c.loop-place.to c.loop-place.list)
    (sayings_below-all c.args.at c.args.marks.now (looks_of (core_of c.args.screen.now)) c.loop-place.number
    c.loop-place.invariant.within (c.in_default.ensures.none.0 refl)) c.loop-place.invariant.told.tells

pub returns-clause-renews : goal.returns-clause-renews
returns-clause-renews c =
    c.loop-place.invariant.told.renews ∙ ap (marked_with c.args.renewed.now)
    (sayings_below-all c.args.at c.args.marks.now (looks_of (core_of c.args.screen.now)) c.loop-place.number
    c.loop-place.invariant.within (c.in_default.ensures.none.0 refl))
