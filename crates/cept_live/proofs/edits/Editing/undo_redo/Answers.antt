use Rattle.std.proofs.Common.{List, Bool, ap, ◌∙◌}
use Rattle.cept_profile.specs.Changes.{marked_looks}
use Rattle.cept_profile.specs.Look.{looks_of}
use Rattle.cept_profile.specs.State.{core_of}
use Rattle.cept_live.specs.Notices.{change_sayings}
use Rattle.cept_live.specs.Renewed.{marked_with}
use Rattle.cept_live.proofs.edits.Editing.undo_redo.Goals as goal

pub returns-clause-changed : goal.returns-clause-changed
returns-clause-changed g c =
    let h = looks_of (core_of c.undo_redo_screen-moved.new.screen) in
    c.add_marks.ensures 0 h
    ∙ ap (λ (m : List Bool). marked_with c.args.changed.now (change_sayings 0 (marked_looks m h)))
    c.undo_redo_screen-moved.ensures.marks
