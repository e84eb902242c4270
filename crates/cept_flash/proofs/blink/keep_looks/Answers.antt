use Rattle.std.proofs.Common.{◌≡◌, subst}
use Rattle.std.specs.Option.{IfSome}
use Rattle.cept_codes.specs.Place.{Place, place_of}
use Rattle.cept_codes.proofs.Laws.{IsTable-table}
use Rattle.cept_profile.specs.Look.{look, looks_of}
use Rattle.cept_profile.specs.State.{core_of}
use Rattle.cept_flash.proofs.LooksKept.{AreKeptBelow-all, AreKeptBelow-more}
use Rattle.cept_flash.proofs.blink.keep_looks.Goals as goal

pub loop-n-preserved : goal.loop-n-preserved
loop-n-preserved c =
    AreKeptBelow-more (looks_of (core_of c.args.screen.now)) c.loop-n.kept.rows c.paint.new.self.rows c.unwrap.result
    c.loop-n.n c.loop-n-test.true
    (subst (λ o. IfSome o (λ (p : Place). p ≡ place_of c.loop-n.n)) c.unwrap.ensures c.from_number.ensures.place)
    c.loop-n.invariant c.paint.ensures.grid

pub returns : goal.returns
returns c =
    AreKeptBelow-all (looks_of (core_of c.args.screen.now)) c.loop-n.kept.rows c.loop-n.n c.loop-n-test.false
    c.loop-n.kept.valid.table (IsTable-table (look (core_of c.args.screen.now))) c.loop-n.invariant
