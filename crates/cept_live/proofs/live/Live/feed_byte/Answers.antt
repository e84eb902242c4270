use Rattle.std.proofs.Common.{◌++◌, refl, sym, ◌∙◌, ap}
use Rattle.cept_parser.specs.Items.{items}
use Rattle.cept_live.specs.Live.{LiveState}
use Rattle.cept_live.proofs.BytesFed.{fed}
use Rattle.cept_live.proofs.LinesMade.{future-none, past-none}
use Rattle.cept_live.proofs.live.Live.feed_byte.Goals as goal

pub returns-clause-feeds : goal.returns-clause-feeds
returns-clause-feeds g c =
    let none = c.self.invariant.unedited (sym c.self.invariant.ended_is ∙ ap (λ (l : LiveState). l.parser.finished) c.self.view_is
    ∙ c.requires.running) in
    rw (← c.self.view_is) (fed _ _ _ c.as_slice.result.now _ _ _ _ c.push_into.ensures.place
    (λ b leads. c.push_into.ensures.items b leads ∙ ap (λ l. items b ++ l) (sym c.as_slice.ensures.value))
    c.push_into.ensures.leads refl (past-none c.self.inside.edits c.take_items.new.display.screen c.self.inside.display.screen none)
    (future-none c.self.inside.edits c.take_items.new.display.screen c.self.inside.display.screen none) c.take_items.ensures)
