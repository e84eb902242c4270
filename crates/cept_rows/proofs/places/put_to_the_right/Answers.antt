use Rattle.std.proofs.Common.{◌-◌, ap, sym, ◌∙◌}
use Rattle.cept_rows.specs.Flagged.{look_at}
use Rattle.cept_rows.specs.SmallLooks.{small_of}
use Rattle.cept_rows.proofs.KeptLooks.{plain_small}
use Rattle.cept_rows.proofs.PlacesKept.{right_is}
use Rattle.cept_rows.proofs.places.put_to_the_right.Goals as goal

pub put-requires : goal.put-requires
put-requires c =
    let plain = sym c.has_pattern.ensures ∙ c.if-has_pattern.false in
    let left = c.small-left.ensures.look
    ∙ ap (λ n. small_of (look_at c.args.looks.now n)) (c.numbered-beside.ensures ∙ ap (λ n. n - 1) c.number.ensures.number) in
    record {
      plain = plain;
      small = plain_small _ _ (right_is _ c.small-left.result c.to_the_right.result left c.to_the_right.ensures)
          plain c.requires.valid;
    }
