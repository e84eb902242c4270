use Rattle.std.proofs.Common.{rules}
use Rattle.tamligub.specs.LateGlass.{late_glass_state}
use Rattle.tamligub.proofs.calling.run_late.Goals as goal

pub returns : goal.returns
returns g c = record {
  before = late_glass_state c.new-glass.result;
  after = late_glass_state c.run_request.new.glass;
  blank = search rules;
  runs = λ words asked. c.run_request.ensures words asked;
}
