use Rattle.std.proofs.Common.{◌≡◌, not, ap, sym, ◌∙◌}
use Rattle.cept_codes.specs.declared.look.Look.{Look}
use Rattle.cept_codes.specs.Place.{number}
use Rattle.cept_codes.specs.Same.{same_look}
use Rattle.cept_flash.specs.Phases.{frame, look_at_phase}
use Rattle.cept_profile.specs.Changes.{differences, look_at}
use Rattle.cept_profile.specs.Look.{looks_of}
use Rattle.cept_profile.specs.State.{core_of}
use Rattle.cept_redraw.specs.Marks.{is_marked}
use Rattle.cept_live.specs.inside.Turning.{look_before, looks_before}
use Rattle.cept_live.proofs.PhasesTold.{look_at-frame, turned-at}
use Rattle.cept_live.proofs.flashing.Turning.turned.Goals as goal
use Rattle.cept_live.proofs.flashing.Turning.turned.Goals.{After-differ}

-- its look at the phase
at_phase : (c : After-differ) → c.look_at_phase-now.result
    ≡ look_at_phase (look_at (looks_of (core_of c.args.self.now.screen.now)) c.args.place) c.args.self.now.phase
at_phase c =
    c.look_at_phase-now.ensures.look
    ∙ ap (λ (l : Look). look_at_phase l c.args.self.now.phase) c.look-look.ensures.look

-- the look that is shown before
shown : (c : After-differ) → c.shown.result ≡ look_before c.args.self.now.before
    (is_marked c.args.self.now.renewed.now (number c.args.place.row c.args.place.column))
    (look_at (looks_of (core_of c.args.self.now.screen.now)) c.args.place)
shown c =
    c.shown.ensures
    ∙ ap (λ (l : Look). look_before c.args.self.now.before
    (is_marked c.args.self.now.renewed.now (number c.args.place.row c.args.place.column)) l) c.look-look.ensures.look

-- whether they differ
marked : (c : After-differ) → c.differ.result ≡ is_marked (differences (looks_before c.args.self.now.before
    (looks_of (core_of c.args.self.now.screen.now)) c.args.self.now.renewed.now)
    (frame (looks_of (core_of c.args.self.now.screen.now)) c.args.self.now.phase)) (number c.args.place.row c.args.place.column)
marked c =
    let t = c.args.self.now in
    c.differ.ensures ∙ (λ i. not (same_look (shown c i) (at_phase c i)))
    ∙ sym (turned-at t.before (looks_of (core_of t.screen.now)) t.renewed.now t.phase c.args.place c.row-row.ensures.on_screen)

pub returns-then-differ-clause-turned : goal.returns-then-differ-clause-turned
returns-then-differ-clause-turned c = sym c.if-differ.true ∙ marked c.before

pub returns-else-differ-clause-turned : goal.returns-else-differ-clause-turned
returns-else-differ-clause-turned c = sym c.if-differ.false ∙ marked c.before

pub returns-then-differ-clause-look : goal.returns-then-differ-clause-look
returns-then-differ-clause-look c =
    at_phase c.before
    ∙ sym (look_at-frame (looks_of (core_of c.args.self.now.screen.now)) c.args.self.now.phase c.args.place
    c.row-row.ensures.on_screen)
