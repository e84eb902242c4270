use Rattle.std.proofs.lemmas.Result.{IfOk-weaker, IfErr-weaker}
use Rattle.cept_run.proofs.ReadScripts.{unselected, nothing_selected_of, file_selected, file_untaken, file_taken}
use Rattle.cept_run.proofs.script.take_file.Goals as goal

-- the file couldn't be selected
pub returns-in_default-clause-stopped : goal.returns-in_default-clause-stopped
returns-in_default-clause-stopped g c = unselected _ _ _ _ c.in_default.ensures.selects
    c.in_default.ensures.cause

pub returns-in_default-clause-shelf : goal.returns-in_default-clause-shelf
returns-in_default-clause-shelf g c = nothing_selected_of _ _ _ _
    c.in_default.ensures.selects c.in_default.ensures.cause

-- it was
pub returns-clause-whole : goal.returns-clause-whole
returns-clause-whole g c = IfOk-weaker c.take_script.result _ _ (λ bytes taken.
    file_taken _ _ (g.F.Shelf.state c.select.new.self) _ _ (g.met.F.Shelf.sound c.args.shelf.now)
    c.in-Ok.ensures.selects c.in-Ok.ensures.cause.stays c.take_script.ensures.shelf _ taken)
    c.take_script.ensures.whole

pub returns-clause-stopped : goal.returns-clause-stopped
returns-clause-stopped g c = IfErr-weaker c.take_script.result _ _ (λ stop stops.
    file_untaken _ _ (g.F.Shelf.state c.select.new.self) _ _ (g.met.F.Shelf.sound c.args.shelf.now)
    c.in-Ok.ensures.selects c.in-Ok.ensures.cause.stays c.take_script.ensures.shelf stop
    stops) c.take_script.ensures.stopped

pub returns-clause-shelf : goal.returns-clause-shelf
returns-clause-shelf g c = file_selected _ _ (g.F.Shelf.state c.select.new.self) _ _
    (g.met.F.Shelf.sound c.args.shelf.now) c.in-Ok.ensures.selects
    c.in-Ok.ensures.cause.stays c.take_script.ensures.shelf
