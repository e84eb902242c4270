use Rattle.std.proofs.Common.{take}
use Rattle.cept_parser.specs.Items.{items}
use Rattle.cept_parser.specs.State.{Leads}
use Rattle.cept_live.specs.Live.{Stands}
use Rattle.cept_live.proofs.restore.read_into.Given as goal

abbrev pub invariant-loop-byte : goal.invariant-loop-byte
invariant-loop-byte g l = record {
  leads : Leads (take l.byte-index l.page) l.parser;
  stands : Stands l.screen (items (take l.byte-index l.page));
}
