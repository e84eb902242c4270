-- no command was handed on yet
use Rattle.std.proofs.Common.{◌≡◌}
use Rattle.cept_editor.specs.Decoding.{IsDecoding, commands_left}
use Rattle.cept_editor.specs.inside.Decoding.{decoding_size}
use Rattle.cept_editor.proofs.decoding.Decoding.next.Given as goal

abbrev pub invariant-loop-self : goal.invariant-loop-self
invariant-loop-self l = record {
  decoding : IsDecoding l.self;
  left : commands_left l.fn.self ≡ commands_left l.self;
}

abbrev pub decreases-loop-self : goal.decreases-loop-self
decreases-loop-self l = decoding_size l.self
