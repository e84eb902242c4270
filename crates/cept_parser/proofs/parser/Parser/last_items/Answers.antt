use Rattle.std.proofs.Common.{◌≡◌, ◌<◌, ◌-◌, List, [], ◌∷◌, ◌++◌, length, ap, sym, arith, ◌∙◌}
use Rattle.cept_codes.specs.declared.item.Item.{Item}
use Rattle.cept_parser.specs.Items.{Reading}
use Rattle.cept_parser.proofs.LongestBeginningLemmas.{waits_fits}
use Rattle.cept_parser.proofs.WaitingLemmas.{closing_none, closing_one}
use Rattle.cept_parser.proofs.parser.Parser.last_items.Goals as goal
use Rattle.cept_parser.proofs.parser.Parser.last_items.Goals.{After-said_at_end}

pub said_at_end-requires : goal.said_at_end-requires
said_at_end-requires c =
    record {
      form = c.self.invariant.waits.context.form;
      beside = c.self.invariant.beside;
      fits = waits_fits _ _ c.self.invariant.waits.waits;
    }

-- what is pending, as the item that is made of it
abbrev item : After-said_at_end → Item
item c =
    record { at = c.self.inside.place - c.from.result; len = c.len-len.result; what = c.said_at_end.result }

abbrev pending : After-said_at_end → Reading
pending c =
    record {
      items = [];
      context = c.self.inside.reader.context;
      at = c.self.inside.place - length c.self.inside.reader.bytes;
      pending = c.self.inside.reader.bytes;
    }

pub returns-then-len-gt0 : goal.returns-then-len-gt0
returns-then-len-gt0 c =
    let some : 0 < length c.self.inside.reader.bytes = omega (arith, c.if-len-gt0.true, c.len-len.ensures.value) in
    c.push.ensures.items ∙ ap (λ (v : List Item). v ++ item c.before ∷ []) c.new-items.ensures
    ∙ rw (
      ← c.self.view_is,
      c.from.ensures,
      c.len-len.ensures.value,
      c.said_at_end.ensures,
    ) (sym (closing_one (pending c.before) some))

pub returns-else-len-gt0 : goal.returns-else-len-gt0
returns-else-len-gt0 c =
    let none : length c.self.inside.reader.bytes ≡ 0 = omega (arith, c.if-len-gt0.false, c.len-len.ensures.value) in
    c.new-items.ensures ∙ rw (← c.self.view_is) (sym (closing_none _ none))
