use Rattle.std.proofs.Common.{sym, ap, ◌∙◌}
use Rattle.std.specs.List.{list_any}
use Rattle.std.proofs.Common.{is_some}
use Rattle.cept_profile.specs.OldValues.{OldValues}
use Rattle.cept_delta.specs.Delta.{values_of}
use Rattle.cept_delta.proofs.NoneNoted.{none_of_dclut}
use Rattle.cept_delta.proofs.delta.Delta.notes_dclut.Goals as goal

pub returns-else-self : goal.returns-else-self
returns-else-self c =
    c.if-self.false
    ∙ sym (none_of_dclut (values_of c.self.inside) (c.self.invariant.flagged.dclut c.if-self.false))
    ∙ ap (λ (old : OldValues). list_any is_some old.dclut) c.self.view_is
