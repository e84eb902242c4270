use Rattle.std.proofs.Common.{sym, add-one}
use Rattle.cept_profile.proofs.OneMoreCell.{influence-start, influence-suc, held_sign-suc, serial_attributes-suc}
use Rattle.cept_profile.proofs.law.serial_rows.one_more_cell.Goals as goal

pub returns : goal.returns
returns c = record {
  at_first = λ row pen screen. sym (influence-start row pen screen);
  attributes = λ row pen screen n. rw add-one (serial_attributes-suc row pen screen n);
  sign = λ row pen screen n. rw add-one (held_sign-suc row pen screen n);
  influence = λ row pen screen n. rw add-one (influence-suc row pen screen n);
}
