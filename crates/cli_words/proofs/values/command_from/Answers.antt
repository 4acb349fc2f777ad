use Rattle.cli_words.proofs.values.command_from.Goals as goal

pub returns-in-Serve-clause-command : goal.returns-in-Serve-clause-command
returns-in-Serve-clause-command c settings rows =
    let seats = c.value_of-in-Serve.ensures settings rows in
    let journal = c.value_of-in-Serve-2.ensures settings rows in
    let port = c.value_of-in-Serve-3.ensures settings rows in
    let doors = c.value_of-in-Serve-4.ensures settings rows in
    let connections = c.value_of-in-Serve-5.ensures settings rows in
    rw c.in-Serve.is (rw seats at (rw journal at (rw port at (rw doors at (rw connections at c.serve.ensures.command)))))
