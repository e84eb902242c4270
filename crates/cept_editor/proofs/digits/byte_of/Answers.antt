use Rattle.cept_editor.proofs.DigitPairs.{pair_agrees}
use Rattle.cept_editor.proofs.digits.byte_of.Goals as goal

pub returns-in-Ok : goal.returns-in-Ok
returns-in-Ok c = (pair_agrees c.args.high c.args.low _ _ c.decode_to_slice.ensures.value).0 _ c.in-Ok.is

pub returns-in-Err : goal.returns-in-Err
returns-in-Err c = (pair_agrees c.args.high c.args.low _ _ c.decode_to_slice.ensures.value).1 _ c.in-Err.is
