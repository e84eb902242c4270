use Rattle.std.proofs.Common.{[], ◌∷◌, ◌++◌, ap, ◌∙◌}
use Rattle.cept_codes.specs.declared.item.Item.{Item}
use Rattle.cept_parser.proofs.ClosedLemmas.{one_more}
use Rattle.cept_parser.proofs.closed.Closed.cut.Goals as goal

pub returns-clause-items : goal.returns-clause-items
returns-clause-items c =
    one_more c.self.inside.items c.args.self.now c.self.inside.count c.cut_item.new.item c.self.invariant c.self.view_is
    c.requires.room
    ∙ ap (λ (i : Item). c.args.self.now ++ i ∷ []) c.cut_item.ensures.item
