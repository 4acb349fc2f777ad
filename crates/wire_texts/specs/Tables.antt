-- The tables text.
use Rattle.std.specs.Prelude.{ℕ, List, [], ◌∷◌, ◌++◌, codes, flat_map}
use Rattle.std.specs.Fmt.{decimal}
use Rattle.batch_model.specs.Variants.{State, NodeRow, TaskRow}
use Rattle.wire_texts.specs.Lines.{line}
use Rattle.batch_model.specs.States.{node_state, task_state}
use Rattle.wire_words.specs.Words.{node_state_word, task_state_word, result_word, exit_text}
use Rattle.wire_texts.specs.Rows.{pool_line, job_line, run_line, prep_line, scale_line}

-- node N POOL SEAT STATE
unfoldable pub node_line : State → NodeRow → List ℕ
node_line s node = line (codes "node" ∷ decimal node.number ∷ node.pool ∷ decimal node.seat ∷ node_state_word (node_state node.stage s node.number) ∷ [])

-- task JOB ID STATE RESULT EXIT RETRIES
unfoldable pub task_line : State → TaskRow → List ℕ
task_line s task = line (codes "task" ∷ task.job ∷ task.id ∷ task_state_word (task_state task.stage s task) ∷ result_word task.closed ∷ exit_text task.closed ∷ decimal task.failures ∷ [])

-- the moment, then the rows, kind after kind, in order of adding; samples are left out
unfoldable pub tables_text : State → List ℕ
tables_text s =
    line (codes "tables" ∷ decimal s.moment ∷ [])
    ++ (flat_map pool_line s.pools
    ++ (flat_map (node_line s) s.nodes
    ++ (flat_map job_line s.jobs
    ++ (flat_map (task_line s) s.tasks
    ++ (flat_map run_line s.runs
    ++ (flat_map prep_line s.preps
    ++ flat_map scale_line s.scales))))))
