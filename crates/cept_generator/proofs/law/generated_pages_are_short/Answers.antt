use Rattle.cept_generator.proofs.UnitsMeasured.{page_length, page_items}
use Rattle.cept_generator.proofs.law.generated_pages_are_short.Goals as goal

pub returns : goal.returns
returns c =
    record {
      bytes = page_length;
      items = page_items;
    }
