use Rattle.std.proofs.Common.{◌++◌, ◌∙◌, ap, sym}
use Rattle.cept_run.specs.Converted.{converted_front}
use Rattle.cept_run.proofs.ConvertedPieces.{all_put, part_put, fault_since, later_since}
use Rattle.cept_run.proofs.converting.put_piece.Goals as goal

pub returns-in_default : goal.returns-in_default
returns-in_default g c = λ action b start has.
    let converts = c.convert-read.ensures action b has.stands in
    let is = converts.0 ∙ ap (λ w. converted_front action b ++ w) (sym c.as_slice.ensures.value) in
    let puts = c.in_default.ensures.puts in
    record {
      cause = fault_since _ _ _ has.puts.stays puts.cause.failed;
      later = later_since _ _ _ has.puts.stays puts.cause.later;
      put = part_put start _ _ _ _ _ is has.puts.put puts.part;
    }

pub returns-then-read : goal.returns-then-read
returns-then-read g c = λ action b start has.
    let converts = c.convert-read.ensures action b has.stands in
    let is = converts.0 ∙ ap (λ w. converted_front action b ++ w) (sym c.as_slice.ensures.value) in
    let puts = c.in-Ok.ensures.puts in
    record {
      stands = converts.1 c.if-read.true;
      puts = record {
        put = all_put start _ _ _ _ _ is has.puts.put puts.whole;
        stays = puts.cause.stays ∙ has.puts.stays;
      };
    }

pub returns-else-read : goal.returns-else-read
returns-else-read g c = λ action b start has.
    let converts = c.convert-read.ensures action b has.stands in
    let is = converts.0 ∙ ap (λ w. converted_front action b ++ w) (sym c.as_slice.ensures.value) in
    let puts = c.in-Ok.ensures.puts in (
      record {
        put = all_put start _ _ _ _ _ is has.puts.put puts.whole;
        stays = puts.cause.stays ∙ has.puts.stays;
      },
      converts.2 c.if-read.false,
    )
