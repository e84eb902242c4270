use Rattle.std.proofs.Common.{arith}
use Rattle.cept_drcs.proofs.KeptDrawings.{pixels_fit, end_most, kept_pixels, pixels_shown}
use Rattle.cept_drcs.proofs.drawing.Drawing.pixels.Goals as goal

pub push-requires : goal.push-requires
push-requires c =
    omega (arith, pixels_fit _ _ _ _ _ c.self.view_is c.requires.room, end_most _ _ _ _ _ c.self.invariant)

pub invariant_of-self : goal.invariant_of-self
invariant_of-self c =
    kept_pixels _ _ _ _ _ _ _ c.args.byte c.self.invariant c.self.view_is c.requires.room c.push.ensures

pub returns : goal.returns
returns c = pixels_shown _ _ _ _ _ _ c.args.byte c.self.view_is c.requires.pixels c.push.ensures
