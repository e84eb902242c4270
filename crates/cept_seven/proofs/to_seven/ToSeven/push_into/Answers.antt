use Rattle.std.proofs.Common.{◌≡◌, ◌++◌, arith}
use Rattle.std.proofs.lemmas.Grind.{common_steps}
use Rattle.cept_seven.specs.Seven.{text_added}
use Rattle.cept_seven.proofs.PushLemmas.{text_more}
use Rattle.cept_seven.proofs.to_seven.ToSeven.push_into.Goals as goal

pub returns-clause-text : goal.returns-clause-text
returns-clause-text g c b front l is =
    let e : c.put_own.new.text.items ≡ c.args.text.now.items ++ text_added c.args.self.now c.args.byte =
    grind (arith, common_steps) in
    text_more b front c.args.text.now.items c.put_own.new.text.items c.args.self.now c.args.byte l e is
