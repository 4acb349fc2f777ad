-- Queued runs with the words that their child programs are started with.
use Rattle.std.specs.Prelude.{ℕ, List, [], map, Option}
use Rattle.std.specs.Option.{option_map}
use Rattle.std.specs.Result.{result_unwrap_or}
use Rattle.bt_base.specs.CommandLines.{read_words}
use Rattle.bt_rows.specs.declared.reply.QueuedRun.{QueuedRun}
use Rattle.batch_model.specs.Variants.{State, RunRow}
use Rattle.run_index.specs.Seats.{lowest_at}
use Rattle.child_words.specs.Filling.{fill_word}
use Rattle.child_words.specs.RunNames.{names_of}

-- the words of a command line; a text that is no command line has none, and no row has such a text
abbrev pub line_words : List ℕ → List (List ℕ)
line_words line = result_unwrap_or (read_words line) []

-- the words that the run's child program is started with
unfoldable pub filled_words : State → RunRow → List (List ℕ)
filled_words s run = map (fill_word (names_of s run)) (line_words run.line)

-- a run's number, and the words that its child program is started with
abbrev pub with_words : State → RunRow → QueuedRun
with_words s run = record { number = run.number; words = filled_words s run }

-- the queued run at the seat that has the lowest number, with its words
abbrev pub queued_at : State → ℕ → Option QueuedRun
queued_at s seat = option_map (with_words s) (lowest_at s seat)
