use Rattle.std.proofs.Common.{◌∙◌}
use Rattle.cept_profile.specs.PageParts.{row_pen_in}
use Rattle.cept_delta.proofs.NotedInTurn.{row_pens_whole}
use Rattle.cept_delta.proofs.delta.Delta.note_all_row_pens.Goals as goal

pub returns : goal.returns
returns c = c.note_row_pens.ensures ∙ row_pens_whole c.args.self.now (row_pen_in c.args.pens.now)
