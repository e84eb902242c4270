use Rattle.cept_outside.proofs.Laws
use Rattle.cept_outside.proofs.law.texts_are_put_in_parts.Goals as goal

pub returns : goal.returns
returns c = record {
  nothing = Laws.Gains-nil;
  parts = Laws.Gains-append;
  put_nothing = Laws.HasPut-nothing;
  put_more = Laws.HasPut-more;
  put_part = Laws.HasPut-part;
  no_bytes = Laws.append_known-nil;
  bytes = Laws.append_known-append_known;
  no_count = Laws.count_after-nil;
  count = Laws.count_after-more;
}
