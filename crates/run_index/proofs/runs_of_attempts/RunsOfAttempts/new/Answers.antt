use Rattle.run_index.specs.Attempts.{run_attempt_text}
use Rattle.run_index.proofs.TextPlaces.{no_rows}
use Rattle.run_index.proofs.runs_of_attempts.RunsOfAttempts.new.Goals as goal

pub returns : goal.returns
returns c = no_rows run_attempt_text c.new.result c.new.ensures
