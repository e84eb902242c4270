use Rattle.cept_drcs.proofs.Led.{leads_begin, led_begin}
use Rattle.cept_drcs.proofs.loader.Loader.new.Goals as goal

pub invariant_of-result : goal.invariant_of-result
invariant_of-result c = led_begin c.args.form _ c.requires c.new.ensures

pub returns-clause-leads : goal.returns-clause-leads
returns-clause-leads c = leads_begin c.args.form _ c.requires c.new.ensures
