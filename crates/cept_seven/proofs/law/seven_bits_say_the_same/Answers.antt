use Rattle.std.proofs.Common.{ap, ◌∙◌}
use Rattle.cept_seven.specs.Wide.{says}
use Rattle.cept_seven.proofs.BackLemmas.{seven_given, seven_accepted, seven_small, seven_short}
use Rattle.cept_seven.proofs.SaysLemmas.{wide_says}
use Rattle.cept_seven.proofs.law.seven_bits_say_the_same.Goals as goal

pub returns : goal.returns
returns c =
    record {
      back = seven_given;
      same = wide_says;
      says = λ b k. ap says (seven_given b k) ∙ wide_says b;
      accepted = seven_accepted;
      seven_bits = seven_small;
      length = seven_short;
    }
