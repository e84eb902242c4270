use Rattle.std.proofs.Common.{sym, ap, ◌∙◌}
use Rattle.cept_drcs.specs.Loading.{Loading}
use Rattle.cept_drcs.proofs.Takes.{opener_later, opener_is_plane}
use Rattle.cept_drcs.proofs.DrawnLines.{later_plane}
use Rattle.cept_drcs.proofs.Signs.{sign_drawn}
use Rattle.cept_drcs.proofs.drawing.Drawing.take_other.Goals as goal

pub open-requires-clause-earlier : goal.open-requires-clause-earlier
open-requires-clause-earlier c =
    later_plane _ _ _ _ _ _ _ c.self.invariant c.self.view_is
    (opener_later c.args.self.now c.args.byte
    (ap (λ (l : Loading). l.begun) (sym c.self.view_is) ∙ c.if-not-self.false)
    (sym c.is_opener.ensures ∙ c.if-is_opener.true) c.requires.taken)

pub open-requires-clause-plane : goal.open-requires-clause-plane
open-requires-clause-plane c =
    opener_is_plane c.args.self.now c.args.byte
    (ap (λ (l : Loading). l.begun) (sym c.self.view_is) ∙ c.if-not-self.false)
    (sym c.is_opener.ensures ∙ c.if-is_opener.true) c.requires.taken

pub returns-else-is_opener : goal.returns-else-is_opener
returns-else-is_opener c =
    sign_drawn c.args.self.now _ _ c.args.byte
    (ap (λ (l : Loading). l.begun) (sym c.self.view_is) ∙ c.if-not-self.false)
    (sym c.is_opener.ensures ∙ c.if-is_opener.false) c.requires.pixels c.complete.ensures.earlier
    c.complete.ensures.completed c.whole_sign.ensures
