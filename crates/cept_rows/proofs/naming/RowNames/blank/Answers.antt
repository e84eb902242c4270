use Rattle.std.proofs.Common.{◌<◌, ◌-◌, arith}
use Rattle.std.proofs.lemmas.List.{get_or-replicate}
use Rattle.cept_rows.specs.KeptNames.{code_kept}
use Rattle.cept_rows.proofs.naming.RowNames.blank.Goals as goal

pub returns : goal.returns
returns g c low high =
    let within : c - 1 < 40 = omega arith in
    λ i. record {
      fore = get_or-replicate 40 (c - 1) 7 0 within i;
      back = get_or-replicate 40 (c - 1) 0 0 within i;
      code = code_kept (get_or-replicate 40 (c - 1) 0 0 within i);
    }
