use Rattle.std.proofs.Common.{◌∙◌, List, ap, arith}
use Rattle.cept_codes.specs.Table.{entry}
use Rattle.cept_codes.proofs.Laws.{entry-list_by_index}
use Rattle.cept_redraw.specs.declared.followed_rows.Followed.{Followed}
use Rattle.cept_redraw.specs.inside.Due.{freed}
use Rattle.cept_redraw.proofs.FollowedRows.{moved-followed}
use Rattle.cept_redraw.proofs.followed_rows.follow.Goals as goal

pub returns-in-Shift-clause-followed : goal.returns-in-Shift-clause-followed
returns-in-Shift-clause-followed c = λ r low high.
    ap (λ (l : List Followed). entry freed 1 l r) c.shifted_rows.ensures
    ∙ entry-list_by_index freed 1 24 _ r low (omega (arith, high))
    ∙ moved-followed c.args.stroke.now c.in-Shift.first c.in-Shift.last c.in-Shift.way c.in-Shift.is
    (entry freed 1 c.args.rows.now) r
