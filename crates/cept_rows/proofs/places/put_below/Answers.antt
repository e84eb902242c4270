use Rattle.std.proofs.Common.{refl, sym, ◌∙◌}
use Rattle.cept_rows.proofs.KeptLooks.{plain_small, small_is}
use Rattle.cept_rows.proofs.PlacesKept.{below_is}
use Rattle.cept_rows.proofs.places.put_below.Goals as goal

pub put_single-requires-clause-look : goal.put_single-requires-clause-look
put_single-requires-clause-look c =
    let plain = sym c.has_pattern.ensures ∙ c.if-has_pattern.false in
    record {
      plain = plain;
      small = plain_small _ _ (below_is _ c.small-there.result c.below.result c.small-there.ensures.look c.below.ensures)
          plain c.requires;
    }

pub put_drawn_below-requires-clause-look : goal.put_drawn_below-requires-clause-look
put_drawn_below-requires-clause-look c =
    small_is _ _ _ (below_is _ c.small-there.result c.below.result c.small-there.ensures.look c.below.ensures) refl c.requires
