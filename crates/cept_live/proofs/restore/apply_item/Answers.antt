use Rattle.std.proofs.Common.{subst}
use Rattle.cept_codes.specs.Command.{IsValidSaid}
use Rattle.cept_live.proofs.ItemsTaken.{stands-command, stands-refusal}
use Rattle.cept_live.proofs.restore.apply_item.Goals as goal

pub returns-in-Command : goal.returns-in-Command
returns-in-Command g c =
    stands-command _ _ c.args.item.now c.in-Command.command c.in-Command.is
    (subst IsValidSaid c.in-Command.is c.requires) c.apply_unseen.ensures.goes_on

pub returns-in-Refused : goal.returns-in-Refused
returns-in-Refused g c = stands-refusal _ c.args.item.now c.in-Refused.field-0 c.in-Refused.is
