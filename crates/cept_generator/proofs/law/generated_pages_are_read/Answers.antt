use Rattle.cept_generator.proofs.UnitsRead.{page_reads, page_unrefused, page_said, page_commands}
use Rattle.cept_generator.proofs.UnitsMeasured.{page_valid, page_bytes}
use Rattle.cept_generator.proofs.law.generated_pages_are_read.Goals as goal

pub returns : goal.returns
returns c =
    record {
      reads = page_reads;
      none = page_unrefused;
      said = page_said;
      commands = page_commands;
      valid = page_valid;
      bytes = page_bytes;
    }
