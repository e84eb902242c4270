use Rattle.cept_drcs.proofs.Laws
use Rattle.cept_drcs.proofs.law.reading.bytes_one_by_one_give_the_pattern.Goals as goal

pub returns : goal.returns
returns c = record {
  unit = Laws.unit_loads;
  one = Laws.loads_one;
  takes = Laws.takes_is;
  leads = Laws.leads_more;
  none = Laws.leads_none;
  pattern = Laws.pattern_led;
  valid = Laws.led_valid;
}
