use Rattle.std.proofs.Common.{◌++◌, refl, sym, ◌∙◌, ap}
use Rattle.cept_parser.specs.Items.{items}
use Rattle.cept_parser.specs.State.{ParserState}
use Rattle.cept_live.specs.Live.{LiveState}
use Rattle.cept_live.proofs.BytesFed.{ended}
use Rattle.cept_live.proofs.LinesMade.{future-none, past-none}
use Rattle.cept_live.proofs.live.Live.end_by.Goals as goal

pub returns : goal.returns
returns g c =
    let none = c.self.invariant.unedited (sym c.self.invariant.ended_is ∙ ap (λ (l : LiveState). l.parser.finished) c.self.view_is
    ∙ c.requires.running) in
    rw (← c.self.view_is) (ended _ _ c.as_slice.result.now _ _ _ _
    (ap (λ (l : LiveState). l.parser.finished) c.self.view_is ∙ c.requires.running) c.requires.room
    (ap (λ (s : ParserState). s.finished) c.finish-items.ensures.state)
    (ap (λ (s : ParserState). s.place) c.finish-items.ensures.state)
    (λ b leads. c.finish-items.ensures.closed b leads ∙ ap (λ l. items b ++ l) (sym c.as_slice.ensures.value))
    refl (past-none c.self.inside.edits c.take_items.new.display.screen c.self.inside.display.screen none)
    (future-none c.self.inside.edits c.take_items.new.display.screen c.self.inside.display.screen none) c.take_items.ensures)
