use Rattle.std.proofs.Common.{sym, ap, ◌∙◌, position}
use Rattle.cept_outside.specs.Files.{has_name}
use Rattle.cept_outside.proofs.FilesChosen.{is_found, place_there, chosen_named, chosen_found, chosen_absent}
use Rattle.cept_outside.proofs.rack.Rack.select.Goals as goal

pub invariant_of-self-clause-there : goal.invariant_of-self-clause-there
invariant_of-self-clause-there c =
    place_there _ c.args.name.now _ (c.place_of-self.ensures
    ∙ ap (position (has_name c.args.name.now)) c.as_slice.ensures.value)

pub invariant_of-self-clause-named : goal.invariant_of-self-clause-named
invariant_of-self-clause-named c =
    chosen_named _ c.args.name.now _ (c.place_of-self.ensures
    ∙ ap (position (has_name c.args.name.now)) c.as_slice.ensures.value)

pub returns-clause-found : goal.returns-clause-found
returns-clause-found c =
    let same = is_found _ c.args.name.now _ (c.place_of-self.ensures
    ∙ ap (position (has_name c.args.name.now)) c.as_slice.ensures.value) in
    (λ t. sym same ∙ sym c.is_some.ensures ∙ t, λ t. c.is_some.ensures ∙ same ∙ t)

pub returns-clause-left : goal.returns-clause-left
returns-clause-left c =
    chosen_found _ c.args.name.now _ (c.place_of-self.ensures
    ∙ ap (position (has_name c.args.name.now)) c.as_slice.ensures.value)

pub returns-clause-absent : goal.returns-clause-absent
returns-clause-absent c =
    chosen_absent _ c.args.name.now _ (c.place_of-self.ensures
    ∙ ap (position (has_name c.args.name.now)) c.as_slice.ensures.value)
