use Rattle.std.proofs.Common.{sym, ◌∙◌}
use Rattle.cept_drcs.proofs.StripWords.{nine, nine_at}
use Rattle.cept_drcs.proofs.strips.Strips.words.Goals as goal

pub returns : goal.returns
returns c =
    nine_at _ _ _ _ _ _ c.three_words-a.ensures c.three_words-b.ensures c.three_words-c.ensures
    ∙ sym (nine c.args.self.now)
