use Rattle.std.proofs.Common.{◌∷◌, ◌++◌, map, ap, ◌∙◌}
use Rattle.cept_control.specs.Numbers.{bit, number_or}
use Rattle.cept_live.specs.Snapshots.{snapshot_head}
use Rattle.cept_live.proofs.snapshot.head_of.Goals as goal

pub returns : goal.returns
unfolding snapshot_head
returns c =
    let state = rw (
      c.as_slice.ensures.value,
      c.bytes-control.ensures.bytes,
      c.control.ensures.control,
      c.place.ensures,
      c.context-context.ensures.context,
      c.pending_bytes-pending.ensures.bytes,
    ) at c.add_state.ensures.head in
    c.add_phase.ensures ∙ ap (λ l. l ++ number_or 255 c.args.phase ∷ map bit c.args.renewed.now) state
