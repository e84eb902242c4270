use Rattle.std.proofs.Common.{None, arith}
use Rattle.cept_codes.proofs.Laws.{HasMadeEntries-all}
use Rattle.cept_delta.proofs.delta.note_from.Goals as goal

pub returns : goal.returns
returns c = HasMadeEntries-all None 1 40 _ _ c.loop-i.noted c.loop-i.i c.loop-i.invariant (omega arith)
