use Rattle.std.proofs.Common.{◌≡◌, ◌+◌, [], ◌∷◌, ◌++◌, subst, ◌∙◌, sym, ap}
use Rattle.std.specs.Option.{IfSome}
use Rattle.cept_codes.specs.declared.look.Look.{Look}
use Rattle.cept_codes.specs.Place.{Place, place_of}
use Rattle.arrayvec.specs.ArrayVec.{ArrayVec}
use Rattle.cept_flash.specs.declared.blink.Flashing.{Flashing}
use Rattle.cept_flash.specs.Flashing.{AreFlashing}
use Rattle.cept_flash.specs.SeenFlashing.{flashes_seen}
use Rattle.cept_flash.proofs.FoundFlashing.{AreFlashing-left, AreFlashing-more}
use Rattle.cept_flash.proofs.blink.find_flashing.Goals as goal
use Rattle.cept_flash.proofs.blink.find_flashing.Goals.{then-flashes_seen, else-flashes_seen}

pub loop-n-preserved : goal.loop-n-preserved
loop-n-preserved c =
    let here : c.unwrap-at.result ≡ place_of c.loop-n.n =
    subst (λ o. IfSome o (λ (p : Place). p ≡ place_of c.loop-n.n)) c.unwrap-at.ensures c.from_number.ensures.place in
    let seen = ap (λ (l : Look). flashes_seen l) (sym c.shown-look.ensures.look) ∙ sym c.flashes_seen.ensures in
    elim c.if-flashes_seen.branch [
      | then-flashes_seen w ↦
          AreFlashing-more c.if-flashes_seen.flashing.items c.unwrap-at.result c.loop-n.n c.loop-n.invariant
          c.loop-n-test.true here (seen ∙ w.if-flashes_seen.true)
          (ap (λ (v : ArrayVec Flashing). v.items) w.flashing-is ∙ w.push.ensures.items
          ∙ ap (λ (l : Look). c.loop-n.flashing.items ++ (let f : Flashing = record { at = c.unwrap-at.result; flash = l.flash } in f) ∷ [])
          c.shown-look.ensures.look)
      | else-flashes_seen w ↦
          subst (λ (v : ArrayVec Flashing). AreFlashing c.args.kept.now.rows v.items (c.loop-n.n + 1)) (sym w.flashing-is)
          (AreFlashing-left c.unwrap-at.result c.loop-n.n c.loop-n.invariant here (seen ∙ w.if-flashes_seen.false))
    ]
