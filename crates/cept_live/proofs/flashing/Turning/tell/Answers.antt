use Rattle.std.proofs.Common.{◌≡◌, arith, subst, ◌∙◌, sym, ap}
use Rattle.std.specs.Option.{IfSome}
use Rattle.std.specs.Prelude.{is_some}
use Rattle.cept_codes.specs.Place.{Place, place_of}
use Rattle.cept_flash.specs.Phases.{frame}
use Rattle.cept_codes.specs.declared.look.Look.{Look}
use Rattle.cept_profile.specs.Changes.{differences, look_at}
use Rattle.cept_profile.specs.Look.{looks_of}
use Rattle.cept_profile.specs.State.{core_of}
use Rattle.cept_live.specs.inside.Turning.{looks_before}
use Rattle.cept_live.proofs.PhasesTold.{length-differences, marked-here, turned-all, turned-left, turned-none, turned-told}
use Rattle.cept_live.proofs.flashing.Turning.tell.Goals as goal
use Rattle.cept_live.proofs.flashing.Turning.tell.Goals.{in-Some, in_default}

pub loop-n-init : goal.loop-n-init
loop-n-init c = record { few = omega arith; tells = turned-none _ _ _ _ }

pub loop-n-preserved : goal.loop-n-preserved
loop-n-preserved c =
    let t = c.args.self.now in
    let g = frame (looks_of (core_of t.screen.now)) t.phase in
    let marks = differences (looks_before t.before (looks_of (core_of t.screen.now)) t.renewed.now) g in
    let so_far = c.loop-n.invariant in
    let here : c.unwrap-place.result ≡ place_of c.loop-n.n =
    subst (λ o. IfSome o (λ (p : Place). p ≡ place_of c.loop-n.n)) c.unwrap-place.ensures c.from_number.ensures.place in
    let mark = sym (marked-here marks c.unwrap-place.result c.loop-n.n here) ∙ sym c.turned.ensures.turned in
    elim c.match-turned.branch [
      | in-Some w ↦ record {
        few = omega (arith, so_far.few, w.to-is);
        tells = rw w.to-is (rw w.list-is (rw w.of_change.ensures (rw (subst (λ o. IfSome o (λ (l : Look). l ≡ look_at g c.unwrap-place.result)) w.in-Some.is c.turned.ensures.look)
            (turned-told c.args.list.now c.loop-n.list c.loop-n.to c.args.at marks g c.loop-n.n c.unwrap-place.result here
            (omega (arith, so_far.few, c.loop-n-test.true, c.requires)) (mark ∙ ap is_some w.in-Some.is) so_far.tells))));
      }
      | in_default w ↦ record {
        few = omega (arith, so_far.few, w.to-is);
        tells = rw w.to-is (rw w.list-is
            (turned-left c.args.list.now c.loop-n.list c.loop-n.to c.args.at marks g c.loop-n.n (mark ∙ ap is_some w.in_default.is) so_far.tells));
      }
    ]

pub returns : goal.returns
returns c =
    let t = c.args.self.now in
    let g = frame (looks_of (core_of t.screen.now)) t.phase in
    let before = looks_before t.before (looks_of (core_of t.screen.now)) t.renewed.now in
    turned-all c.args.list.now c.loop-n.list c.loop-n.to c.args.at (differences before g) g c.loop-n.n
    (length-differences before g) c.loop-n-test.false c.loop-n.auto.n-end c.loop-n.invariant.tells
