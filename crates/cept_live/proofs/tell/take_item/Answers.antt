use Rattle.std.proofs.Common.{subst}
use Rattle.cept_codes.specs.Command.{IsValidSaid}
use Rattle.cept_live.proofs.ItemsTaken.{command_taken, refusal_taken}
use Rattle.cept_live.proofs.tell.take_item.Goals as goal

pub returns-in-Command : goal.returns-in-Command
returns-in-Command g c =
    command_taken _ _ _ _ c.args.item.now c.in-Command.command _ _ _ _ _ _ _ c.in-Command.is
    (subst IsValidSaid c.in-Command.is c.requires.valid) c.apply_unseen.ensures.goes_on c.apply_unseen.ensures.written
    c.tell_marked.ensures.most
    (record { tells = c.tell_marked.ensures.tells; renews = c.tell_marked.ensures.renews })

pub returns-in-Refused : goal.returns-in-Refused
returns-in-Refused g c =
    refusal_taken c.args.display.now.screen c.args.display.now.renewed c.args.item.now c.in-Refused.reason _ _ _ _ c.in-Refused.is
    c.tell_refusal.ensures.most c.tell_refusal.ensures.tells
