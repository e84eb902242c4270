use Rattle.cept_outside.proofs.SlicesFound.{if_some, named, there, absent}
use Rattle.cept_outside.proofs.slice_shelf.select_file.Goals as goal

pub returns-clause-named : goal.returns-clause-named
returns-clause-named c = if_some c.file_named.result (named c.args.files.now c.args.name.now c.file_named.result c.file_named.ensures)

pub returns-clause-there : goal.returns-clause-there
returns-clause-there c = if_some c.file_named.result (there c.args.files.now c.args.name.now c.file_named.result c.file_named.ensures)

pub returns-clause-absent : goal.returns-clause-absent
returns-clause-absent c = absent c.args.files.now c.args.name.now c.file_named.result c.file_named.ensures
