use Rattle.std.proofs.Common.{refl}
use Rattle.cept_run.proofs.PutEnds.{put_unflushed, put_whole}
use Rattle.cept_run.proofs.generated.put_generated.Goals as goal

pub returns-in_default : goal.returns-in_default
returns-in_default g c = (
  put_unflushed _ _ _ _ c.in_ok-put_pieces.ensures c.in_default.ensures.flushes c.in_default.ensures.cause,
  refl,
)

pub returns : goal.returns
returns g c = (put_whole _ _ _ _ c.in_ok-put_pieces.ensures c.in-Ok.ensures.flushes c.in-Ok.ensures.cause, refl)
