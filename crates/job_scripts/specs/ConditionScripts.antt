-- Exit conditions: what an ending does to the job, and to the tasks that depend on the one that ended.
use Rattle.std.specs.Prelude.{ℕ, List, [], ◌∷◌, map, replicate, Option, Some, None, pos, negsuc, codes, Bool, true, false}
use Rattle.bt_rows.specs.declared.event.EventKind.TheVariants.{AddPool, AddJob, AddTask, TerminateTask, Take, End}
use Rattle.bt_rows.specs.declared.event.JobSpec.{JobSpec}
use Rattle.bt_rows.specs.declared.event.TaskSpec.{TaskSpec}
use Rattle.bt_rows.specs.declared.reply.Reply.TheVariants.{Status}
use Rattle.bt_rows.specs.declared.due.Outcome.TheVariants.{Failure, Again}
use Rattle.bt_rows.specs.declared.due.JobEnd.TheVariants.{Kept}
use Rattle.bt_rows.specs.declared.due.Due.TheVariants.{TaskSettled, JobDisabled, JobEnded, TaskPlaced}
use Rattle.batch_model.specs.Variants.{JobState, JobActive, Disabled, JobCompleted, JobAction, NoAction, ToDisable, ToTerminate, Given, Options}
use Rattle.batch_model.specs.Variants.{Ending, Code, NoCode, NotStarted}
use Rattle.batch_model.specs.Tasks.{new_task}
use Rattle.batch_model.specs.Conditions.{condition}
use Rattle.batch_model.specs.Settling.{task_failed}
use Rattle.model_scripts.specs.Scripts.{Call, at, Line, line}
use Rattle.model_scripts.specs.Bodies.{pool_body, job_body, task_body}
use Rattle.job_scripts.specs.JobScripts.{one_node, two_nodes}

-- options that state both, and options that state only whether dependents go on
abbrev pub both : JobAction → Bool → Given
both action go_on = record { job = Some action; satisfies = Some go_on }

abbrev pub only_dependents : Bool → Given
only_dependents go_on = record { job = None; satisfies = Some go_on }

-- the options that count
abbrev pub counting : JobAction → Bool → Options
counting action go_on = record { job = action; satisfies = go_on }

-- what counts for endings of a task
abbrev pub conditions_of : TaskSpec → List Ending → List Options
conditions_of spec endings = map (condition (new_task (codes "j") spec)) endings

-- code 7 is listed, two ranges overlap, and there is a default
abbrev pub listed_task : TaskSpec
listed_task = record (task_body (codes "t")) {
  codes = (pos 7, both NoAction true) ∷ [];
  ranges = (pos 5, pos 9, both ToDisable false) ∷ (pos 8, pos 20, both ToTerminate true) ∷ [];
  other = Some (both NoAction true);
}

-- the listed code, the default, the first range and the second
abbrev pub by_the_default : List Options
by_the_default = conditions_of listed_task (Code (pos 0) ∷ Code (pos 7) ∷ Code (pos 1) ∷ NoCode ∷ NotStarted ∷ [])

abbrev pub all_go_on : List Options
all_go_on = replicate 5 (counting NoAction true)

abbrev pub by_the_ranges : List Options
by_the_ranges = conditions_of listed_task (Code (pos 6) ∷ Code (pos 8) ∷ Code (pos 12) ∷ [])

abbrev pub of_the_ranges : List Options
of_the_ranges = counting ToDisable false ∷ counting ToDisable false ∷ counting ToTerminate true ∷ []

-- nothing is listed
abbrev pub by_nothing : List Options
by_nothing = conditions_of (task_body (codes "t")) (Code (pos 0) ∷ Code (pos 1) ∷ Code (negsuc 0) ∷ NoCode ∷ NotStarted ∷ [])

abbrev pub usual : List Options
usual = counting NoAction true ∷ replicate 4 (counting ToTerminate false)

-- options that state one of two, and those of a launch error, which go before the default
abbrev pub partial_task : TaskSpec
partial_task = record (task_body (codes "t")) {
  codes = (pos 3, only_dependents true) ∷ (pos 0, both ToDisable false) ∷ [];
  launch = Some (both ToDisable true);
  other = Some (only_dependents true);
}

abbrev pub by_parts : List Options
by_parts = conditions_of partial_task (Code (pos 3) ∷ Code (pos 0) ∷ NotStarted ∷ NoCode ∷ [])

abbrev pub of_parts : List Options
of_parts = counting ToTerminate true ∷ counting ToDisable false ∷ counting ToDisable true ∷ counting ToTerminate true ∷ []

-- a job that takes the actions of its tasks (Azure: performexitoptionsjobaction)
abbrev pub acting_body : JobSpec
acting_body = record (job_body (codes "p")) { on_fail = true }

-- a failure terminates such a job, unless the options say otherwise
abbrev pub failing : List Call
failing =
    at 0 (AddPool (pool_body (codes "p") 1))
    ∷ at 0 (AddJob (codes "j") acting_body)
    ∷ at 0 (AddTask (codes "j") (task_body (codes "t")))
    ∷ at 1 (Take 1)
    ∷ at 2 (End 1 (Code (pos 1)))
    ∷ []

abbrev pub failing_lines : List Line
failing_lines =
    one_node
    ∷ line (Status 201) []
    ∷ line (Status 201) (TaskPlaced (codes "j") (codes "t") 1 1 ∷ [])
    ∷ line (Status 200) []
    ∷ line (Status 200) (TaskSettled (codes "j") (codes "t") Failure ∷ JobEnded (codes "j") Kept ∷ [])
    ∷ []

abbrev pub failed_jobs : List (JobState × Option (List ℕ))
failed_jobs = (JobCompleted, Some task_failed) ∷ []

-- only the last failure does: the first one is tried again
abbrev pub failing_twice : List Call
failing_twice =
    at 0 (AddPool (pool_body (codes "p") 1))
    ∷ at 0 (AddJob (codes "j") acting_body)
    ∷ at 0 (AddTask (codes "j") (record (task_body (codes "t")) { retries = Some (pos 1) }))
    ∷ at 1 (Take 1)
    ∷ at 2 (End 1 (Code (pos 1)))
    ∷ at 3 (Take 2)
    ∷ at 4 (End 2 (Code (pos 1)))
    ∷ []

abbrev pub failing_twice_lines : List Line
failing_twice_lines =
    one_node
    ∷ line (Status 201) []
    ∷ line (Status 201) (TaskPlaced (codes "j") (codes "t") 1 1 ∷ [])
    ∷ line (Status 200) []
    ∷ line (Status 200) (TaskSettled (codes "j") (codes "t") (Again 1) ∷ TaskPlaced (codes "j") (codes "t") 1 2 ∷ [])
    ∷ line (Status 200) []
    ∷ line (Status 200) (TaskSettled (codes "j") (codes "t") Failure ∷ JobEnded (codes "j") Kept ∷ [])
    ∷ []

-- such a job that uses dependencies as well
abbrev pub chained_body : JobSpec
chained_body = record acting_body { deps = true }

-- code 6 disables the job: its other task is requeued, and it places nothing
abbrev pub disabling : List Call
disabling =
    at 0 (AddPool (pool_body (codes "p") 2))
    ∷ at 0 (AddJob (codes "j") chained_body)
    ∷ at 0 (AddTask (codes "j") listed_task)
    ∷ at 0 (AddTask (codes "j") (task_body (codes "b")))
    ∷ at 1 (Take 1)
    ∷ at 1 (Take 2)
    ∷ at 2 (End 1 (Code (pos 6)))
    ∷ at 3 (End 2 (Code (pos 0)))
    ∷ []

abbrev pub disabling_lines : List Line
disabling_lines =
    two_nodes
    ∷ line (Status 201) []
    ∷ line (Status 201) (TaskPlaced (codes "j") (codes "t") 1 1 ∷ [])
    ∷ line (Status 201) (TaskPlaced (codes "j") (codes "b") 2 2 ∷ [])
    ∷ line (Status 200) []
    ∷ line (Status 200) []
    ∷ line (Status 200) (TaskSettled (codes "j") (codes "t") Failure ∷ [])
    ∷ line (Status 200) (TaskSettled (codes "j") (codes "b") (Again 0) ∷ JobDisabled (codes "j") ∷ [])
    ∷ []

abbrev pub disabled_jobs : List (JobState × Option (List ℕ))
disabled_jobs = (Disabled, None) ∷ []

-- a job that takes no actions stays active
abbrev pub unheeded : List Call
unheeded =
    at 0 (AddPool (pool_body (codes "p") 1))
    ∷ at 0 (AddJob (codes "j") (job_body (codes "p")))
    ∷ at 0 (AddTask (codes "j") (task_body (codes "t")))
    ∷ at 1 (Take 1)
    ∷ at 2 (End 1 (Code (pos 1)))
    ∷ []

-- so does one whose task is terminated
abbrev pub terminated_task : List Call
terminated_task =
    at 0 (AddPool (pool_body (codes "p") 1))
    ∷ at 0 (AddJob (codes "j") acting_body)
    ∷ at 0 (AddTask (codes "j") (task_body (codes "t")))
    ∷ at 1 (Take 1)
    ∷ at 2 (TerminateTask (codes "j") (codes "t"))
    ∷ at 3 (End 1 (Code (pos 1)))
    ∷ []

abbrev pub terminated_task_lines : List Line
terminated_task_lines =
    one_node
    ∷ line (Status 201) []
    ∷ line (Status 201) (TaskPlaced (codes "j") (codes "t") 1 1 ∷ [])
    ∷ line (Status 200) []
    ∷ line (Status 204) []
    ∷ line (Status 200) (TaskSettled (codes "j") (codes "t") Failure ∷ [])
    ∷ []

abbrev pub active_jobs : List (JobState × Option (List ℕ))
active_jobs = (JobActive, None) ∷ []
