use Rattle.std.proofs.Common.{refl, arith}
use Rattle.cept_profile.specs.Look.{looks_of}
use Rattle.cept_profile.specs.State.{core_of}
use Rattle.cept_report.proofs.LinesPut.{Gains-all, Gains-none, PutsText-whole}
use Rattle.cept_report.proofs.put.put_changes.Goals as goal

pub returns-in-None : goal.returns-in-None
returns-in-None g c =
    PutsText-whole _ _ _
    (Gains-all _ _ c.args.marks.now (looks_of (core_of c.args.screen.now)) c.args.label 0 (omega arith)
    (c.in-None.ensures.none.0 refl)
    (Gains-none _ c.args.marks.now (looks_of (core_of c.args.screen.now)) c.args.label)) refl
