use Rattle.std.proofs.Common.{ap, subst, sym, ◌∙◌, ◌≡◌}
use Rattle.std.proofs.lemmas.Result.{IfOk-weaker}
use Rattle.cept_parser.specs.Items.{commands_of, items}
use Rattle.cept_profile.specs.State.{State, core_of}
use Rattle.cept_profile.specs.Valid.{IsValidControl}
use Rattle.cept_writer.specs.CompactCommands.{page_text}
use Rattle.cept_live.specs.Editing.{future_of, past_of}
use Rattle.cept_live.specs.Live.{LiveState}
use Rattle.cept_live.proofs.PagesRead.{live_back, parser_back, phase_back}
use Rattle.cept_live.proofs.live.Live.take_parts.Goals as goal

pub returns-clause-back : goal.returns-clause-back
returns-clause-back c = λ live bytes fed parts.
    let history = commands_of (items bytes) in
    let reads = c.in-Some.ensures.resumed
    ∙ parser_back live.parser _ _ _ fed.parser.running parts.place parts.context parts.pending in
    let state_valid = c.validity_is_kept.ensures.always history fed.screen.valid in
    let control_valid = subst (λ (s : State). IsValidControl s.control) (sym fed.screen.is) state_valid.control in
    let control : c.in-Some-of_bytes.control ≡ live.screen.control =
    (let e = c.in-Some-of_bytes.ensures.back live.screen.control control_valid (sym parts.control) in cc) in
    let none = c.self.invariant.unedited (sym c.self.invariant.ended_is
    ∙ ap (λ (l : LiveState). l.parser.finished) (c.self.view_is ∙ c.requires.start)) in
    let back = c.bring_back.ensures history fed.screen.valid
    (ap (λ (s : State). page_text (core_of s)) (sym fed.screen.is) ∙ sym parts.page)
    (control ∙ ap (λ (s : State). s.control) fed.screen.is) in
    IfOk-weaker c.bring_back.result _ _ (λ is_back told. (
      told.0,
      live_back live _ _ _ _ _ _ reads (told.1 ∙ sym fed.screen.is) (parts.phase ∙ phase_back live.phase fed.phase)
          (c.marks_of-self-inside.ensures live.renewed (sym parts.renewed) fed.places)
          (ap (λ e. past_of e c.bring_back.new.screen) none ∙ sym fed.past)
          (ap (λ e. future_of e c.bring_back.new.screen) none ∙ sym fed.future),
    )) back
