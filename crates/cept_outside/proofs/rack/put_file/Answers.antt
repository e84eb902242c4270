use Rattle.std.proofs.Common.{ap, sym, refl, ◌∙◌, position}
use Rattle.cept_outside.specs.Files.{has_name}
use Rattle.cept_outside.proofs.FilesChosen.{place_there}
use Rattle.cept_outside.proofs.FilesAdded.{bytes_of_pushed, bytes_of_set}
use Rattle.cept_outside.proofs.rack.put_file.Goals as goal

pub returns-in-Some-clause-ok : goal.returns-in-Some-clause-ok
returns-in-Some-clause-ok c =
    let at = sym c.in-Some.is ∙ c.place_of.ensures
    ∙ ap (position (has_name c.args.name.now)) c.as_slice.ensures.value in
    bytes_of_set c.args.files.now.items c.args.name.now c.in-Some.place c.args.file at
    (place_there _ c.args.name.now _ at _ refl) c.requires

pub returns-in_ok-push-in-None-clause-ok : goal.returns-in_ok-push-in-None-clause-ok
returns-in_ok-push-in-None-clause-ok c = λ other.
    rw c.in_ok-push-in-None.ensures.items
    (bytes_of_pushed c.args.files.now.items c.args.name.now c.args.file
    (ap (position (has_name c.args.name.now)) (sym c.as_slice.ensures.value) ∙ sym c.place_of.ensures
    ∙ c.in-None.is) c.requires other)
