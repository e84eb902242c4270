use Rattle.std.proofs.Common.{sym, ap, ◌∙◌}
use Rattle.cept_drcs.specs.Loading.{Loading}
use Rattle.cept_drcs.proofs.KeptDrawings.{first_taken, opener_taken, opener_refused, sign_taken, sign_refused}
use Rattle.cept_drcs.proofs.drawing.Drawing.takes_other.Goals as goal

pub returns-then-not-self : goal.returns-then-not-self
returns-then-not-self c = first_taken _ _ _ _ _ c.args.byte c.self.view_is c.if-not-self.true

pub returns-then-self-byte : goal.returns-then-self-byte
returns-then-self-byte c =
    opener_taken _ _ _ _ _ c.args.byte c.self.view_is c.if-not-self.false
    (sym c.is_opener.ensures ∙ c.if-is_opener.true) c.if-self-byte.true

pub returns-else-self-byte : goal.returns-else-self-byte
returns-else-self-byte c =
    opener_refused _ _ _ _ _ c.args.byte c.self.view_is c.if-not-self.false
    (sym c.is_opener.ensures ∙ c.if-is_opener.true) c.if-self-byte.false

pub returns-then-is_sign : goal.returns-then-is_sign
returns-then-is_sign c =
    sign_taken c.args.self.now c.args.byte _
    (ap (λ (l : Loading). l.begun) (sym c.self.view_is) ∙ c.if-not-self.false)
    (sym c.is_opener.ensures ∙ c.if-is_opener.false) c.requires
    (sym c.is_sign.ensures ∙ c.if-is_sign.true) c.has_room.ensures

pub returns-else-is_sign : goal.returns-else-is_sign
returns-else-is_sign c =
    c.is_sign.ensures
    ∙ sign_refused c.args.self.now c.args.byte
    (ap (λ (l : Loading). l.begun) (sym c.self.view_is) ∙ c.if-not-self.false)
    (sym c.is_opener.ensures ∙ c.if-is_opener.false) c.requires
    (sym c.is_sign.ensures ∙ c.if-is_sign.false)
