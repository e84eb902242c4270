use Rattle.std.proofs.Common.{refl}
use Rattle.cept_live.proofs.BytesFed.{HasFed-none, live_start-is}
use Rattle.cept_live.proofs.live.Live.new.Goals as goal

pub returns-clause-fed : goal.returns-clause-fed
returns-clause-fed c = HasFed-none _ c.new.ensures c.in_ok-new.ensures refl c.new-4.ensures refl refl

pub returns-clause-start : goal.returns-clause-start
returns-clause-start c = live_start-is _ c.new.ensures c.in_ok-new.ensures refl c.new-4.ensures refl refl
