use Rattle.std.proofs.Common.{Bool, List, ap, ◌∙◌}
use Rattle.std.specs.List.{count_by}
use Rattle.cept_redraw.proofs.MarkedWithin.{count_within}
use Rattle.cept_redraw.proofs.marks.Marks.len.Goals as goal

pub returns-clause-count : goal.returns-clause-count
returns-clause-count c =
    c.count_set.ensures ∙ count_within c.self.invariant
    ∙ ap (λ (l : List Bool). count_by (λ marked. marked) l) c.self.view_is
