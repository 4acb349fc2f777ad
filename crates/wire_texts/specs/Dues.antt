-- The lines of due steps.
use Rattle.std.specs.Prelude.{ℕ, List, [], ◌∷◌, ◌++◌, codes}
use Rattle.std.specs.Fmt.{decimal}
use Rattle.bt_rows.specs.declared.due.Due.{Due}
use Rattle.bt_rows.specs.declared.due.Due.TheVariants.{Sampled, TaskTimedOut, ReleaseTimedOut, JobTimedOut, TaskSettled, JobEnabled, TasksDone, JobDisabled, ReleaseMade, JobEnded, PoolResized, PoolScaled, NodeLeaves, NodeDropped, NodeAdded, TaskPlaced}
use Rattle.bt_rows.specs.declared.due.Outcome.{Outcome}
use Rattle.bt_rows.specs.declared.due.Outcome.TheVariants as outcomes
use Rattle.bt_rows.specs.declared.due.JobEnd.{JobEnd}
use Rattle.bt_rows.specs.declared.due.JobEnd.TheVariants as job_ends
use Rattle.bt_rows.specs.declared.due.ResizeEnd.{ResizeEnd}
use Rattle.bt_rows.specs.declared.due.ResizeEnd.TheVariants as resize_ends
use Rattle.wire_texts.specs.Lines.{words}

-- how a task was settled
unfoldable pub outcome_text : Outcome → List ℕ
outcome_text outcomes.Deleted = codes "deleted"
outcome_text outcomes.Success = codes "success"
outcome_text outcomes.Failure = codes "failure"
outcome_text (outcomes.Again failures) = codes "active " ++ decimal failures

-- how a job ended
unfoldable pub job_end_word : JobEnd → List ℕ
job_end_word job_ends.Kept = codes "completed"
job_end_word job_ends.Removed = codes "removed"

-- how a resize ended
unfoldable pub resize_end_word : ResizeEnd → List ℕ
resize_end_word resize_ends.Removed = codes "removed"
resize_end_word resize_ends.Reached = codes "steady"
resize_end_word resize_ends.TimedOut = codes "timeout"
resize_end_word resize_ends.Stopped = codes "stopped"

-- the rule, the rows that it concerns, and its outcome
unfoldable pub due_text : Due → List ℕ
due_text (Sampled pool label) = words (codes "U1" ∷ pool ∷ decimal label ∷ [])
due_text (TaskTimedOut job task) = words (codes "U2" ∷ job ∷ task ∷ [])
due_text (ReleaseTimedOut run) = words (codes "U3" ∷ decimal run ∷ [])
due_text (JobTimedOut job) = words (codes "U4" ∷ job ∷ [])
due_text (TaskSettled job task outcome) = words (codes "U5" ∷ job ∷ task ∷ outcome_text outcome ∷ [])
due_text (JobEnabled job) = words (codes "U6" ∷ job ∷ [])
due_text (TasksDone job) = words (codes "U7" ∷ job ∷ [])
due_text (JobDisabled job) = words (codes "U8" ∷ job ∷ [])
due_text (ReleaseMade job node run) = words (codes "U9" ∷ job ∷ decimal node ∷ decimal run ∷ [])
due_text (JobEnded job end) = words (codes "U10" ∷ job ∷ job_end_word end ∷ [])
due_text (PoolResized pool end) = words (codes "U11" ∷ pool ∷ resize_end_word end ∷ [])
due_text (PoolScaled pool results) = words (codes "U12" ∷ pool ∷ results ∷ [])
due_text (NodeLeaves node) = words (codes "U13" ∷ decimal node ∷ [])
due_text (NodeDropped node) = words (codes "U14" ∷ decimal node ∷ [])
due_text (NodeAdded pool node seat) = words (codes "U15" ∷ pool ∷ decimal node ∷ decimal seat ∷ [])
due_text (TaskPlaced job task node run) = words (codes "U16" ∷ job ∷ task ∷ decimal node ∷ decimal run ∷ [])
