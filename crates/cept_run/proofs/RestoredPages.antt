-- A written page brings back what it was written of.
use Rattle.std.proofs.Common.{◌≡◌, false, List, ap}
use Rattle.std.specs.List.{AllByRecursion}
use Rattle.cept_codes.specs.declared.command.Command.{Command}
use Rattle.cept_parser.specs.Items.{closed_items, commands, is_refusal}
use Rattle.cept_profile.specs.Look.{looks_of}
use Rattle.cept_profile.specs.State.{core}
use Rattle.cept_writer.specs.CompactCommands.{page_text}
use Rattle.cept_run.specs.Run.{Restores}

-- by the laws of the writer
pub restores : (h : List Command)
    → AllByRecursion (λ i. is_refusal i.what ≡ false) (closed_items (page_text (core h)))
    → core (commands (page_text (core h))) ≡ core h → Restores (page_text (core h)) h
restores h good brings = record { good = good; brings = brings; shows = ap looks_of brings }
