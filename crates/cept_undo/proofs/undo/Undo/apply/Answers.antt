use Rattle.std.proofs.Common.{refl, sym, ap, ◌∙◌}
use Rattle.std.specs.Prelude.{is_some}
use Rattle.cept_undo.specs.Past.{Edits}
use Rattle.cept_undo.proofs.PastAndFuture.{StaysBegun-noted}
use Rattle.cept_undo.proofs.undo.Undo.apply.Goals as goal

pub returns-clause-edit : goal.returns-clause-edit
returns-clause-edit g c =
    StaysBegun-noted c.args.self.now _ c.args.screen.now c.apply_noting.new.self c.in-Some.delta c.apply_noting.new.delta
    (sym (ap (λ (u : Edits). u.begun) c.self.view_is) ∙ c.in-Some.is) refl
    (ap (λ (u : Edits). u.kept) c.self.view_is) (c.self.invariant.alone (ap is_some c.in-Some.is))
    c.apply_noting.ensures.unwound c.requires.within.fits
