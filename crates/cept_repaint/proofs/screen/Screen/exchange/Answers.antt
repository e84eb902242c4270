use Rattle.std.proofs.Common.{sym, subst, ◌∙◌}
use Rattle.cept_profile.specs.OldValues.{OldValues, unwound}
use Rattle.cept_delta.specs.Exchanged.{HasSameLocations, exchanged}
use Rattle.cept_delta.proofs.Laws.{HasSameLocations-exchanged, exchanged-twice, unwound-exchanged}
use Rattle.cept_repaint.proofs.screen.Screen.exchange.Goals as goal

pub returns-clause-unwound : goal.returns-clause-unwound
returns-clause-unwound g c =
    (λ i. unwound (c.exchange_values.ensures.back.state i) (c.exchange_values.ensures.exchanged i))
    ∙ unwound-exchanged c.args.self.now c.args.delta.now c.exchange_values.ensures.was_valid

pub returns-clause-again : goal.returns-clause-again
returns-clause-again g c =
    (λ i. exchanged (c.exchange_values.ensures.back.state i) (c.exchange_values.ensures.exchanged i))
    ∙ exchanged-twice c.args.self.now c.args.delta.now c.places_by_type.ensures

pub returns-clause-locations : goal.returns-clause-locations
returns-clause-locations g c =
    subst (λ (v : OldValues). HasSameLocations c.args.delta.now v) (sym c.exchange_values.ensures.exchanged)
    (HasSameLocations-exchanged c.args.self.now c.args.delta.now)
