use Rattle.cept_undo.proofs.PastAndFuture.{FitsTogether-none, future-none, past-none}
use Rattle.std.proofs.Common.{rules, sym, ◌∙◌}
use Rattle.cept_undo.proofs.undo.Undo.apply_outside.Goals as goal

pub returns-then-holds_none : goal.returns-then-holds_none
returns-then-holds_none g c =
    let kept = c.holds_none.ensures.kept c.if-holds_none.true in
    let undone = c.holds_none.ensures.undone c.if-holds_none.true in
    record {
      edits = record {
        past = past-none c.args.self.now c.apply_from.new.self kept ∙ sym (past-none c.args.self.now c.args.screen.now kept);
        future = future-none c.args.self.now c.apply_from.new.self undone;
        none_begun = c.requires.between.none_begun;
        fits = FitsTogether-none c.args.self.now c.apply_from.new.self c.requires.between.none_begun kept undone;
      };
      applied = (search rules);
    }
