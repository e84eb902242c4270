use Rattle.std.proofs.Common.{refl}
use Rattle.cept_run.proofs.ConvertedPages.{converts_unselected, runs_converted}
use Rattle.cept_run.proofs.converting.put_bytes.Goals as goal

-- the page couldn't be selected
pub returns-in_default : goal.returns-in_default
returns-in_default g c = λ glass.
    converts_unselected c.args.action _ _ _ _ c.in_default.ensures.selects
    c.in_default.ensures.cause

-- it was converted
pub returns : goal.returns
returns g c = λ glass.
    runs_converted c.args.action _ _ (g.F.Shelf.state c.select.new.self) _ _ (g.met.F.Shelf.sound c.args.shelf.now)
    (g.met.F.Shelf.sound c.convert_page.new.shelf) c.in-Ok.ensures.selects
    c.in-Ok.ensures.cause.stays c.convert_page.ensures.shelf refl c.convert_page.result c.convert_page.ensures.ends
