use Rattle.cept_parser.proofs.ReaderLemmas.{beside_free}
use Rattle.cept_parser.proofs.reader.Reader.close.Goals as goal

pub cut-requires-clause-bytes : goal.cut-requires-clause-bytes
cut-requires-clause-bytes c =
    record {
      few = c.as_slice.ensures.few;
      form = c.requires.pending.form;
      other = rw c.as_slice.ensures.value (beside_free _ _ _ _ c.requires.pending.beside c.if-self.false);
      fits = rw c.as_slice.ensures.value c.requires.pending.fits;
    }

pub returns-else-self : goal.returns-else-self
returns-else-self c =
    record {
      items = rw (← c.as_slice.ensures.value) c.cut.ensures.items;
      context = rw (← c.as_slice.ensures.value) c.cut.ensures.context;
      pending = c.clear.ensures;
      free = c.if-self.false;
    }
