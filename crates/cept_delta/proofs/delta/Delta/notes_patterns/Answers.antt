use Rattle.std.proofs.Common.{sym, ap, ◌∙◌}
use Rattle.std.specs.List.{list_any}
use Rattle.std.proofs.Common.{is_some}
use Rattle.cept_profile.specs.OldValues.{OldValues}
use Rattle.cept_delta.specs.Delta.{values_of}
use Rattle.cept_delta.proofs.NoneNoted.{none_of_patterns}
use Rattle.cept_delta.proofs.delta.Delta.notes_patterns.Goals as goal

pub returns-else-self : goal.returns-else-self
returns-else-self c =
    c.if-self.false
    ∙ sym (none_of_patterns (values_of c.self.inside) (c.self.invariant.flagged.patterns c.if-self.false))
    ∙ ap (λ (old : OldValues). list_any is_some old.patterns) c.self.view_is
