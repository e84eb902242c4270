use Rattle.std.proofs.Common.{refl, ◌∙◌}
use Rattle.cept_parser.specs.Items.{reading_within}
use Rattle.cept_parser.proofs.ReaderLemmas.{nothing_beside}
use Rattle.cept_parser.proofs.WaitingLemmas.{none_waits}
use Rattle.cept_parser.proofs.parser.Parser.new.Goals as goal

pub invariant_of-result : goal.invariant_of-result
invariant_of-result c =
    record {
      waits = rw (c.new.ensures.context ∙ c.start.ensures, c.new.ensures.pending) none_waits;
      beside = nothing_beside _ _ _ _ c.new.ensures.pending c.new.ensures.free;
    }

pub returns : goal.returns
unfolding reading_within
returns c =
    record {
      place = refl;
      context = c.new.ensures.context ∙ c.start.ensures;
      pending = c.new.ensures.pending;
      running = refl;
    }
