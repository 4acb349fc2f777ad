use Rattle.batch_cli.proofs.Commands.{unread}
use Rattle.cli_words.specs.Commands.{command_of}
use Rattle.batch_cli.proofs.run.run_words.Goals as goal

pub returns-in-Err-clause-ran : goal.returns-in-Err-clause-ran
returns-in-Err-clause-ran g c =
    unread (command_of c.args.words.now) (g.R.Source.left c.args.source.now) (g.W.Sink.taken c.args.sink.now) (g.K.Keeper.told c.args.keeper)
    (g.K.Keeper.faults c.args.keeper)
