use Rattle.std.proofs.Common.{◌-◌, ◌∙◌, arith}
use Rattle.cept_profile.specs.PageParts.{pattern_in}
use Rattle.cept_delta.proofs.NotedInTurn.{pattern_one}
use Rattle.cept_delta.proofs.NotedValues.{pattern_of_values}
use Rattle.cept_delta.proofs.delta.Delta.note_pattern.Goals as goal

pub returns : goal.returns
returns c =
    pattern_of_values c.self.invariant.places c.self.view_is (c.from.result - 0x21) c.args.code c.get.result _ _
    c.note.new.place c.requires.from_first c.requires.to_last (omega arith) c.index_mut.ensures.value c.note.ensures
    ∙ pattern_one c.args.self.now c.args.code c.get.result (pattern_in c.args.patterns.now) c.get.ensures.pattern
