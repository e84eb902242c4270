use Rattle.std.proofs.Common.{refl, ◌∙◌, ap, nat_lt}
use Rattle.cept_run.proofs.PutEnds.{put_unflushed, put_whole}
use Rattle.cept_run.proofs.run.end_report.Goals as goal

pub returns-in_default : goal.returns-in_default
returns-in_default g c = λ plan page stands has count. (
  put_unflushed _ _ _ _ (c.in_ok-put_end.ensures plan page stands has count) c.in_default.ensures.flushes
      c.in_default.ensures.cause,
  refl,
)

pub returns : goal.returns
returns g c = λ plan page stands has count. (
  put_whole _ _ _ _ (c.in_ok-put_end.ensures plan page stands has count) c.in-Ok.ensures.flushes c.in-Ok.ensures.cause,
  c.has_refusal.ensures ∙ ap (λ n. nat_lt 0 n) stands.refused,
)
