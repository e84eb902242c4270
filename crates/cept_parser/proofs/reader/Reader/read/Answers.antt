use Rattle.cept_parser.proofs.ReaderLemmas.{may_from, idle_free}
use Rattle.cept_parser.proofs.reader.Reader.read.Goals as goal

pub begin-requires-clause-idle : goal.begin-requires-clause-idle
begin-requires-clause-idle c =
    let none = c.is_empty.ensures.none c.if-is_empty.true in
    record {
      none = none;
      free = idle_free _ _ _ _ c.requires.waits.beside none;
      form = c.requires.waits.waits.context.form;
    }

pub go_on-requires-clause-may : goal.go_on-requires-clause-may
go_on-requires-clause-may c =
    may_from _ c.args.place c.start-at.result _ c.requires.waits c.requires.few c.requires.empty c.start-at.ensures
