use Rattle.std.proofs.Common.{ap, not, inr, sym, ◌∙◌}
use Rattle.cept_rows.specs.Flagged.{look_at}
use Rattle.cept_rows.specs.SmallLooks.{has_pattern, look_kept, no_drawing}
use Rattle.cept_rows.proofs.KeptLooks.{same_plain}
use Rattle.cept_rows.proofs.row_looks.RowLooks.replace.Goals as goal

pub returns : goal.returns
returns c = record {
  looks = c.put_single.ensures;
  differs = ap not (same_plain c.same-differs.result c.small.result c.args.look.now
      (look_at c.args.self.now c.args.column) (look_kept c.args.look.now no_drawing) c.small.ensures.look
      (sym c.requires.look.small.shown) (inr (ap has_pattern c.requires.look.small.shown ∙ c.requires.look.plain))
      c.same-differs.ensures);
}
