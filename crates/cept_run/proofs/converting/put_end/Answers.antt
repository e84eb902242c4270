use Rattle.std.proofs.Common.{◌++◌, ◌∙◌, ap, sym, refl, inl}
use Rattle.cept_outside.specs.SinkState.{one_more}
use Rattle.cept_run.specs.Converted.{converted_front}
use Rattle.cept_run.proofs.ConvertedPieces.{all_put, part_put, fault_since, later_since, can_end, cannot_end}
use Rattle.cept_run.proofs.converting.put_end.Goals as goal

pub returns-then-is_open : goal.returns-then-is_open
returns-then-is_open g c = λ action b start has.
    (has.puts, cannot_end _ _ (c.is_open.ensures action b has.stands) c.if-is_open.true)

pub returns-in_default : goal.returns-in_default
returns-in_default g c = λ action b start has.
    let is = c.finish.ensures action b has.stands ∙ ap (λ w. converted_front action b ++ w) (sym c.as_slice.ensures.value) in
    let puts = c.in_default.ensures.puts in (
      record {
        cause = fault_since _ _ _ has.puts.stays puts.cause.failed;
        later = later_since _ _ _ has.puts.stays puts.cause.later;
        put = inl (part_put start _ _ _ _ _ is has.puts.put puts.part);
      },
      can_end _ _ (c.is_open.ensures action b has.stands) c.if-is_open.false,
    )

pub returns : goal.returns
returns g c = λ action b start has.
    let is = c.finish.ensures action b has.stands ∙ ap (λ w. converted_front action b ++ w) (sym c.as_slice.ensures.value) in
    let puts = c.in-Ok.ensures.puts in
    let put = all_put start _ _ _ _ _ is has.puts.put puts.whole in (
      record {
        put = c.in-Ok-flush.ensures.flushes.bytes ∙ put.bytes;
        counted = c.in-Ok-flush.ensures.flushes.count ∙ put.counted;
        room = c.in-Ok-flush.ensures.flushes.room ∙ put.room;
        flushed = c.in-Ok-flush.ensures.flushes.flushed.0;
        flushes = c.in-Ok-flush.ensures.flushes.flushed.1 ∙ ap one_more put.flushes;
        stays = c.in-Ok-flush.ensures.cause.stays ∙ puts.cause.stays ∙ has.puts.stays;
      },
      can_end _ _ (c.is_open.ensures action b has.stands) c.if-is_open.false,
      refl,
    )
