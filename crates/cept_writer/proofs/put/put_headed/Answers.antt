use Rattle.std.proofs.Common.{arith}
use Rattle.cept_writer.proofs.TextsPut.{PutsText-nothing, alone, headed}
use Rattle.cept_writer.proofs.put.put_headed.Goals as goal

pub returns-then-commands-lt2 : goal.returns-then-commands-lt2
returns-then-commands-lt2 g c =
    rw (alone c.args.commands.now (omega (arith, c.if-commands-lt2.true))) (PutsText-nothing (g.T.Sink.state c.args.sink.now))

pub returns : goal.returns
returns g c = rw (headed c.args.commands.now c.if-commands-lt2.false) c.put_commands.ensures
