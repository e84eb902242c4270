use Rattle.cept_run.proofs.decoder.Decoder.put_end.Goals as goal

pub returns : goal.returns
returns g c = rw (← c.self.view_is) c.put_end.ensures
