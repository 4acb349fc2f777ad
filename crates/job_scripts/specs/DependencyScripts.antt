-- Tasks that depend on others, by ids and by ranges of numbers.
use Rattle.std.specs.Prelude.{ℕ, List, [], ◌∷◌, map, Some, None, pos, codes, true, false}
use Rattle.bt_rows.specs.declared.event.EventKind.TheVariants.{AddPool, AddJob, AddTask, DeleteTask, ReactivateTask, Take, End}
use Rattle.bt_rows.specs.declared.event.JobSpec.{JobSpec}
use Rattle.bt_rows.specs.declared.event.TaskSpec.{TaskSpec}
use Rattle.bt_rows.specs.declared.reply.Reply.{Reply}
use Rattle.bt_rows.specs.declared.reply.Reply.TheVariants.{Status, Refused, Elements}
use Rattle.bt_rows.specs.declared.reply.Element.TheVariants.{Added}
use Rattle.bt_rows.specs.declared.refusal.Refusal.TheVariants as refusal
use Rattle.bt_rows.specs.declared.due.Outcome.{Outcome}
use Rattle.bt_rows.specs.declared.due.Outcome.TheVariants.{Deleted, Success, Failure, Again}
use Rattle.bt_rows.specs.declared.due.Due.{Due}
use Rattle.bt_rows.specs.declared.due.Due.TheVariants.{TaskSettled}
use Rattle.batch_model.specs.Variants.{State, TaskStage, Active, Completed, ToDisable, Code}
use Rattle.batch_model.specs.Readiness.{waiting_count}
use Rattle.model_scripts.specs.Scripts.{Call, at, Line, line, state_after}
use Rattle.model_scripts.specs.Bodies.{pool_body, job_body, task_body}
use Rattle.model_scripts.specs.ByHand.{reply_to}
use Rattle.job_scripts.specs.ConditionScripts.{both, only_dependents}
use Rattle.job_scripts.specs.JobScripts.{one_node}
use Rattle.model_scripts.specs.SlotScripts.{slotted_pool, add_to_job, put_on}

-- a job whose tasks may depend on each other
abbrev pub chained_job : JobSpec
chained_job = record (job_body (codes "p")) { deps = true }

-- a task that depends on another
abbrev pub after_task : List ℕ → List ℕ → TaskSpec
after_task name other = record (task_body name) { needs = other ∷ [] }

-- a task that depends on a range of numbers
abbrev pub after_numbers : List ℕ → ℕ → ℕ → TaskSpec
after_numbers name first last = record (task_body name) { spans = (first, last) ∷ [] }

-- a task of which code 5 satisfies the tasks that depend on it
abbrev pub satisfying : List ℕ → TaskSpec
satisfying name = record (task_body name) { codes = (pos 5, only_dependents true) ∷ [] }

-- a task of the job is settled
abbrev pub settled_as : List ℕ → Outcome → Due
settled_as task outcome = TaskSettled (codes "j") task outcome

-- how many dependencies of each task are not satisfied after calls
abbrev pub waiting_after : List Call → List ℕ
waiting_after calls = map (waiting_count (state_after calls)) (state_after calls).tasks

-- a task waits for the numbers 1 to 3: an id with a leading zero has its number, and one with a letter has none
abbrev pub numbered : List Call
numbered =
    at 0 (AddPool (slotted_pool 1 8))
    ∷ at 0 (AddJob (codes "j") chained_job)
    ∷ at 0 (add_to_job
    (after_numbers (codes "m") 1 3 ∷ task_body (codes "1") ∷ task_body (codes "02") ∷ task_body (codes "2x") ∷ task_body (codes "3") ∷ []))
    ∷ at 1 (Take 1)
    ∷ at 1 (Take 2)
    ∷ at 1 (Take 3)
    ∷ at 1 (Take 4)
    ∷ at 2 (End 1 (Code (pos 0)))
    ∷ at 2 (End 2 (Code (pos 0)))
    ∷ at 2 (End 3 (Code (pos 0)))
    ∷ at 2 (End 4 (Code (pos 0)))
    ∷ []

abbrev pub numbered_lines : List Line
numbered_lines =
    one_node
    ∷ line (Status 201) []
    ∷ line (Elements (Added (codes "m") ∷ Added (codes "1") ∷ Added (codes "02") ∷ Added (codes "2x") ∷ Added (codes "3") ∷ []))
    (put_on (codes "1") 1 1 ∷ put_on (codes "02") 1 2 ∷ put_on (codes "2x") 1 3 ∷ put_on (codes "3") 1 4 ∷ [])
    ∷ line (Status 200) []
    ∷ line (Status 200) []
    ∷ line (Status 200) []
    ∷ line (Status 200) []
    ∷ line (Status 200) (settled_as (codes "1") Success ∷ [])
    ∷ line (Status 200) (settled_as (codes "02") Success ∷ [])
    ∷ line (Status 200) (settled_as (codes "2x") Success ∷ [])
    ∷ line (Status 200) (settled_as (codes "3") Success ∷ put_on (codes "m") 1 5 ∷ [])
    ∷ []

-- a failed task that satisfies is reactivated, and takes its satisfaction back until it succeeds
abbrev pub taken_back : List Call
taken_back =
    at 0 (AddPool (slotted_pool 1 2))
    ∷ at 0 (AddJob (codes "j") chained_job)
    ∷ at 0 (add_to_job (satisfying (codes "a") ∷ task_body (codes "x") ∷ record (after_task (codes "c") (codes "a")) { slots = 2 } ∷ []))
    ∷ at 1 (Take 1)
    ∷ at 2 (End 1 (Code (pos 5)))
    ∷ at 3 (ReactivateTask (codes "j") (codes "a"))
    ∷ at 4 (Take 2)
    ∷ at 5 (End 2 (Code (pos 0)))
    ∷ at 6 (Take 3)
    ∷ at 7 (End 3 (Code (pos 0)))
    ∷ []

abbrev pub taken_back_lines : List Line
taken_back_lines =
    one_node
    ∷ line (Status 201) []
    ∷ line (Elements (Added (codes "a") ∷ Added (codes "x") ∷ Added (codes "c") ∷ [])) (put_on (codes "a") 1 1 ∷ put_on (codes "x") 1 2 ∷ [])
    ∷ line (Status 200) []
    ∷ line (Status 200) (settled_as (codes "a") Failure ∷ [])
    ∷ line (Status 204) (put_on (codes "a") 1 3 ∷ [])
    ∷ line (Status 200) []
    ∷ line (Status 200) (settled_as (codes "x") Success ∷ [])
    ∷ line (Status 200) []
    ∷ line (Status 200) (settled_as (codes "a") Success ∷ put_on (codes "c") 1 4 ∷ [])
    ∷ []

-- a task is tried once more, and then its failure satisfies
abbrev pub satisfied_late : List Call
satisfied_late =
    at 0 (AddPool (pool_body (codes "p") 1))
    ∷ at 0 (AddJob (codes "j") chained_job)
    ∷ at 0 (add_to_job (record (satisfying (codes "a")) { retries = Some (pos 1) } ∷ after_task (codes "c") (codes "a") ∷ []))
    ∷ at 1 (Take 1)
    ∷ at 2 (End 1 (Code (pos 5)))
    ∷ at 3 (Take 2)
    ∷ at 4 (End 2 (Code (pos 5)))
    ∷ []

abbrev pub satisfied_late_lines : List Line
satisfied_late_lines =
    one_node
    ∷ line (Status 201) []
    ∷ line (Elements (Added (codes "a") ∷ Added (codes "c") ∷ [])) (put_on (codes "a") 1 1 ∷ [])
    ∷ line (Status 200) []
    ∷ line (Status 200) (settled_as (codes "a") (Again 1) ∷ put_on (codes "a") 1 2 ∷ [])
    ∷ line (Status 200) []
    ∷ line (Status 200) (settled_as (codes "a") Failure ∷ put_on (codes "c") 1 3 ∷ [])
    ∷ []

-- a task depends on one that is added later, in another case, and that is then deleted
abbrev pub deleted_early : List Call
deleted_early =
    at 0 (AddPool (pool_body (codes "p") 1))
    ∷ at 0 (AddJob (codes "j") chained_job)
    ∷ at 0 (AddTask (codes "j") (after_task (codes "c") (codes "A")))
    ∷ at 0 (AddTask (codes "j") (task_body (codes "a")))
    ∷ at 1 (DeleteTask (codes "j") (codes "a"))
    ∷ []

abbrev pub deleted_early_lines : List Line
deleted_early_lines =
    one_node
    ∷ line (Status 201) []
    ∷ line (Status 201) []
    ∷ line (Status 201) (put_on (codes "a") 1 1 ∷ [])
    ∷ line (Status 200) (settled_as (codes "a") Deleted ∷ [])
    ∷ []

-- it is satisfied in another case, and a task that is deleted afterwards satisfies no more
abbrev pub deleted_late : List Call
deleted_late =
    at 0 (AddPool (pool_body (codes "p") 1))
    ∷ at 0 (AddJob (codes "j") chained_job)
    ∷ at 0 (AddTask (codes "j") (after_task (codes "c") (codes "A")))
    ∷ at 0 (AddTask (codes "j") (task_body (codes "a")))
    ∷ at 1 (Take 1)
    ∷ at 2 (End 1 (Code (pos 0)))
    ∷ at 3 (DeleteTask (codes "j") (codes "a"))
    ∷ at 4 (AddTask (codes "j") (after_task (codes "d") (codes "a")))
    ∷ []

abbrev pub deleted_late_lines : List Line
deleted_late_lines =
    one_node
    ∷ line (Status 201) []
    ∷ line (Status 201) []
    ∷ line (Status 201) (put_on (codes "a") 1 1 ∷ [])
    ∷ line (Status 200) []
    ∷ line (Status 200) (settled_as (codes "a") Success ∷ put_on (codes "c") 1 2 ∷ [])
    ∷ line (Status 200) []
    ∷ line (Status 201) []
    ∷ []

abbrev pub deleted_late_waiting : List ℕ
deleted_late_waiting = 1 ∷ 1 ∷ []

-- a failure blocks the tasks that depend on it, by its id and by its number, which counts for each range that holds it
abbrev pub blocked : List Call
blocked =
    at 0 (AddPool (pool_body (codes "p") 1))
    ∷ at 0 (AddJob (codes "j") chained_job)
    ∷ at 0 (add_to_job (task_body (codes "4") ∷ record (after_task (codes "c") (codes "4")) { spans = (3, 5) ∷ (4, 4) ∷ [] } ∷ []))
    ∷ at 1 (Take 1)
    ∷ at 2 (End 1 (Code (pos 1)))
    ∷ []

abbrev pub blocked_stages : List TaskStage
blocked_stages = Completed ∷ Active ∷ []

abbrev pub blocked_waiting : List ℕ
blocked_waiting = 0 ∷ 5 ∷ []

-- the refusals of a job without dependencies and actions

abbrev pub plain_job : State
plain_job = state_after (at 0 (AddPool (pool_body (codes "p") 1)) ∷ at 0 (AddJob (codes "j") (job_body (codes "p"))) ∷ [])

abbrev pub replies_in_plain_job : List Reply
replies_in_plain_job =
    map (λ spec. reply_to plain_job (AddTask (codes "j") spec))
    (after_task (codes "c") (codes "a")
    ∷ after_numbers (codes "c") 1 1
    ∷ record (task_body (codes "c")) { codes = (pos 1, only_dependents false) ∷ [] }
    ∷ record (task_body (codes "c")) { ranges = (pos 1, pos 2, both ToDisable true) ∷ [] }
    ∷ record (task_body (codes "c")) { launch = Some (only_dependents true) }
    ∷ record (task_body (codes "c")) { other = Some (record { job = Some ToDisable; satisfies = None }) }
    ∷ record (task_body (codes "c")) { other = Some (record { job = None; satisfies = None }) }
    ∷ [])

abbrev pub all_in_plain_job : List Reply
all_in_plain_job =
    Refused refusal.DependenciesOff
    ∷ Refused refusal.DependenciesOff
    ∷ Refused refusal.DependenciesOff
    ∷ Refused refusal.DependenciesOff
    ∷ Refused refusal.DependenciesOff
    ∷ Refused refusal.JobActionOff
    ∷ Status 201
    ∷ []
