use Rattle.std.proofs.Common.{List, ◌++◌, subst, ap, sym, ◌∙◌}
use Rattle.cept_codes.specs.declared.item.Item.{Item}
use Rattle.cept_parser.specs.Items.{items}
use Rattle.cept_parser.specs.Valid.{AreValid, AreMeasured}
use Rattle.cept_parser.proofs.ReaderLemmas.{nothing_beside}
use Rattle.cept_parser.proofs.WaitingLemmas.{ended_waits, closing_sound, closing_leads}
use Rattle.cept_parser.proofs.parser.Parser.finish.Goals as goal

pub invariant_of-self : goal.invariant_of-self
invariant_of-self c =
    record {
      waits = rw (c.clear.ensures.context, c.clear.ensures.pending) (ended_waits _ _ _ c.self.invariant.waits);
      beside = nothing_beside _ _ _ _ c.clear.ensures.pending c.clear.ensures.free;
    }

pub returns-clause-closed : goal.returns-clause-closed
returns-clause-closed c b l =
    ap (λ (is : List Item). items b ++ is) (closing_leads b _ l ∙ sym c.last_items-items.ensures)

pub returns-clause-valid : goal.returns-clause-valid
returns-clause-valid c =
    subst AreValid (sym c.last_items-items.ensures) (rw (← c.self.view_is) ((closing_sound _ _ _ _ c.self.invariant.waits).0))

pub returns-clause-measured : goal.returns-clause-measured
returns-clause-measured c =
    subst AreMeasured (sym c.last_items-items.ensures)
    (rw (← c.self.view_is) ((closing_sound _ _ _ _ c.self.invariant.waits).1))
