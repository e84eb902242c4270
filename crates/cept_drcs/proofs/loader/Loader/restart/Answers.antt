use Rattle.cept_drcs.proofs.Led.{leads_begin, led_begin}
use Rattle.cept_drcs.proofs.loader.Loader.restart.Goals as goal

pub invariant_of-self : goal.invariant_of-self
invariant_of-self c = led_begin c.args.form _ c.requires c.restart.ensures

pub returns-clause-leads : goal.returns-clause-leads
returns-clause-leads c = leads_begin c.args.form _ c.requires c.restart.ensures
