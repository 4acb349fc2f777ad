-- Tasks that are tried again after they failed.
use Rattle.std.specs.Prelude.{ℕ, ℤ, List, [], ◌∷◌, map, Some, None, pos, negsuc, codes}
use Rattle.bt_rows.specs.declared.event.EventKind.TheVariants.{AddPool, AddJob, PatchJob, AddTask, Take, End, Tick}
use Rattle.bt_rows.specs.declared.event.JobSpec.{JobSpec}
use Rattle.bt_rows.specs.declared.reply.Reply.TheVariants.{Status}
use Rattle.bt_rows.specs.declared.due.Outcome.{Outcome}
use Rattle.bt_rows.specs.declared.due.Outcome.TheVariants.{Success, Failure, Again}
use Rattle.bt_rows.specs.declared.due.Due.{Due}
use Rattle.bt_rows.specs.declared.due.Due.TheVariants.{TaskSettled, TaskPlaced, TaskTimedOut}
use Rattle.batch_model.specs.Variants.{Code, NotStarted, TaskRow}
use Rattle.model_scripts.specs.Scripts.{Call, at, Line, line, state_after}
use Rattle.model_scripts.specs.Bodies.{pool_body, job_body, task_body}
use Rattle.job_scripts.specs.JobScripts.{one_node, no_patch}

-- a job whose tasks have this limit of retries
abbrev pub retried_body : ℤ → JobSpec
retried_body limit = record (job_body (codes "p")) { retries = limit }

-- the task t of the job j is settled
abbrev pub settled : Outcome → Due
settled outcome = TaskSettled (codes "j") (codes "t") outcome

-- it is placed on the first node, by the run
abbrev pub placed_by : ℕ → Due
placed_by run = TaskPlaced (codes "j") (codes "t") 1 run

-- the attempts and the failures of tasks after calls
abbrev pub attempts_after : List Call → List (ℕ × ℕ)
attempts_after calls = map (λ (task : TaskRow). (task.attempt, task.failures)) (state_after calls).tasks

-- three retries make four attempts
abbrev pub three_retries : List Call
three_retries =
    at 0 (AddPool (pool_body (codes "p") 1))
    ∷ at 0 (AddJob (codes "j") (retried_body (pos 3)))
    ∷ at 0 (AddTask (codes "j") (task_body (codes "t")))
    ∷ at 1 (Take 1)
    ∷ at 1 (End 1 (Code (pos 1)))
    ∷ at 2 (Take 2)
    ∷ at 2 (End 2 (Code (pos 1)))
    ∷ at 3 (Take 3)
    ∷ at 3 (End 3 (Code (pos 1)))
    ∷ at 4 (Take 4)
    ∷ at 4 (End 4 (Code (pos 1)))
    ∷ []

abbrev pub three_retries_lines : List Line
three_retries_lines =
    one_node
    ∷ line (Status 201) []
    ∷ line (Status 201) (placed_by 1 ∷ [])
    ∷ line (Status 200) []
    ∷ line (Status 200) (settled (Again 1) ∷ placed_by 2 ∷ [])
    ∷ line (Status 200) []
    ∷ line (Status 200) (settled (Again 2) ∷ placed_by 3 ∷ [])
    ∷ line (Status 200) []
    ∷ line (Status 200) (settled (Again 3) ∷ placed_by 4 ∷ [])
    ∷ line (Status 200) []
    ∷ line (Status 200) (settled Failure ∷ [])
    ∷ []

abbrev pub three_retries_attempts : List (ℕ × ℕ)
three_retries_attempts = (4, 3) ∷ []

-- without a limit of its own, and with none for the task
abbrev pub no_limit : List Call
no_limit =
    at 0 (AddPool (pool_body (codes "p") 1))
    ∷ at 0 (AddJob (codes "j") (retried_body (pos 0)))
    ∷ at 0 (AddTask (codes "j") (record (task_body (codes "t")) { retries = Some (negsuc 0) }))
    ∷ at 1 (Take 1)
    ∷ at 1 (End 1 (Code (pos 1)))
    ∷ at 2 (Take 2)
    ∷ at 2 (End 2 (Code (pos 1)))
    ∷ at 3 (Take 3)
    ∷ at 3 (End 3 (Code (pos 1)))
    ∷ at 4 (Take 4)
    ∷ at 4 (End 4 (Code (pos 1)))
    ∷ at 5 (Take 5)
    ∷ at 5 (End 5 (Code (pos 0)))
    ∷ []

abbrev pub no_limit_lines : List Line
no_limit_lines =
    one_node
    ∷ line (Status 201) []
    ∷ line (Status 201) (placed_by 1 ∷ [])
    ∷ line (Status 200) []
    ∷ line (Status 200) (settled (Again 1) ∷ placed_by 2 ∷ [])
    ∷ line (Status 200) []
    ∷ line (Status 200) (settled (Again 2) ∷ placed_by 3 ∷ [])
    ∷ line (Status 200) []
    ∷ line (Status 200) (settled (Again 3) ∷ placed_by 4 ∷ [])
    ∷ line (Status 200) []
    ∷ line (Status 200) (settled (Again 4) ∷ placed_by 5 ∷ [])
    ∷ line (Status 200) []
    ∷ line (Status 200) (settled Success ∷ [])
    ∷ []

abbrev pub no_limit_attempts : List (ℕ × ℕ)
no_limit_attempts = (5, 4) ∷ []

-- a command line that could not be started is not tried again
abbrev pub not_started : List Call
not_started =
    at 0 (AddPool (pool_body (codes "p") 1))
    ∷ at 0 (AddJob (codes "j") (retried_body (pos 3)))
    ∷ at 0 (AddTask (codes "j") (task_body (codes "t")))
    ∷ at 1 (Take 1)
    ∷ at 1 (End 1 NotStarted)
    ∷ []

abbrev pub not_started_lines : List Line
not_started_lines =
    one_node
    ∷ line (Status 201) []
    ∷ line (Status 201) (placed_by 1 ∷ [])
    ∷ line (Status 200) []
    ∷ line (Status 200) (settled Failure ∷ [])
    ∷ []

abbrev pub not_started_attempts : List (ℕ × ℕ)
not_started_attempts = (1, 0) ∷ []

-- neither is a task whose wall time is over
abbrev pub out_of_time : List Call
out_of_time =
    at 0 (AddPool (pool_body (codes "p") 1))
    ∷ at 0 (AddJob (codes "j") (retried_body (pos 3)))
    ∷ at 0 (AddTask (codes "j") (record (task_body (codes "t")) { wall = Some 1 }))
    ∷ at 1 (Take 1)
    ∷ at 2 Tick
    ∷ at 3 (End 1 (Code (pos 1)))
    ∷ []

abbrev pub out_of_time_lines : List Line
out_of_time_lines =
    one_node
    ∷ line (Status 201) []
    ∷ line (Status 201) (placed_by 1 ∷ [])
    ∷ line (Status 200) []
    ∷ line (Status 200) (TaskTimedOut (codes "j") (codes "t") ∷ [])
    ∷ line (Status 200) (settled Failure ∷ [])
    ∷ []

-- a limit that is lowered counts from then on
abbrev pub lowered : List Call
lowered =
    at 0 (AddPool (pool_body (codes "p") 1))
    ∷ at 0 (AddJob (codes "j") (retried_body (negsuc 0)))
    ∷ at 0 (AddTask (codes "j") (task_body (codes "t")))
    ∷ at 1 (Take 1)
    ∷ at 1 (End 1 (Code (pos 1)))
    ∷ at 2 (Take 2)
    ∷ at 2 (PatchJob (codes "j") (record no_patch { limits = Some (record { retries = pos 1; wall = None }) }))
    ∷ at 2 (End 2 (Code (pos 1)))
    ∷ []

abbrev pub lowered_lines : List Line
lowered_lines =
    one_node
    ∷ line (Status 201) []
    ∷ line (Status 201) (placed_by 1 ∷ [])
    ∷ line (Status 200) []
    ∷ line (Status 200) (settled (Again 1) ∷ placed_by 2 ∷ [])
    ∷ line (Status 200) []
    ∷ line (Status 200) []
    ∷ line (Status 200) (settled Failure ∷ [])
    ∷ []
