-- Sound tables: what holds of the tables before and after every event and every due step. Each part has a name of its
-- own.
-- Source: this project's own.
use Rattle.std.specs.Prelude.{ℕ, ◌<◌, ◌≤◌, List, Bool, false, not, ◌&&◌, ◌||◌, nat_eq, nat_lt, nat_le, is_some, is_none}
use Rattle.std.specs.List.{list_any, list_all}
use Rattle.std.specs.Option.{option_map_or}
use Rattle.bt_base.specs.Ids.{same}
use Rattle.bt_rows.specs.Lists.{AreDistinct}
use Rattle.bt_rows.specs.Ranges.{is_from_to}
use Rattle.batch_model.specs.Finding.{Each, names}
use Rattle.batch_model.specs.Rows.{is_pool, is_node}
use Rattle.batch_model.specs.Jobs.{is_job_completed}
use Rattle.batch_model.specs.JobRules.{has_unended_run}
use Rattle.batch_model.specs.Runs.{is_unended, is_waiting, is_start, is_preparation, is_release, is_work, is_open_preparation, is_at_prep}
use Rattle.batch_model.specs.Tasks.{is_placed, is_undisturbed, is_busy, main_ending}
use Rattle.batch_model.specs.Nodes.{is_usable}
use Rattle.batch_model.specs.Pools.{waits_for_start}
use Rattle.batch_model.specs.Preps.{is_prep_running, is_prepared, is_unreleased, waits_for_preparation}
use Rattle.batch_model.specs.NotBuilt.{OnlyBuiltRows}
use Rattle.batch_model.specs.Endings.{is_success}
use Rattle.batch_model.specs.Limits.{seat_limit}
use Rattle.batch_model.specs.Slots.{owns, held_slots}
use Rattle.batch_model.specs.WellFormed.{KeysAreDistinct, RowsAreValid, CountsAreInRange, TasksAreFitting, has_few_tries, has_few_preparations}
use Rattle.batch_model.specs.WellFormed.{has_pool_row, has_job_row, NamedRowsAreThere}
use Rattle.batch_model.specs.WellFormed.{QuietJobsPlaceNothing, PoolsAreFitting}
use Rattle.batch_model.specs.Variants.{State, NodeRow, JobRow, TaskRow, RunRow, RunState, Ended, PrepRow}

-- the later node has no higher number
abbrev pub are_out_of_order : NodeRow → NodeRow → Bool
are_out_of_order node later = nat_le later.number node.number

-- no number is given twice, run numbers begin at 1, and nodes stand in the order of their numbers
pub record NumbersAreNew (s : State) : Type 0 where
  pub begun : 0 < s.next_run
  pub runs : Each (λ run. nat_lt run.number s.next_run) s.runs
  pub nodes : Each (λ node. nat_lt node.number s.next_node) s.nodes
  pub nodes_of_runs : Each (λ run. nat_lt run.node s.next_node) s.runs
  pub order : AreDistinct are_out_of_order s.nodes

-- the node has a row
abbrev pub has_node_row : State → ℕ → Bool
has_node_row s node = list_any (is_node node) s.nodes

-- two nodes on one seat
abbrev pub share_seat : NodeRow → NodeRow → Bool
share_seat node other = nat_eq node.seat other.seat

-- the run's node has a row, if the run has not ended
abbrev pub has_node_while_unended : State → RunRow → Bool
has_node_while_unended s run = not (is_unended run.state) || has_node_row s run.node

-- there are at most 32 seats, nodes sit on distinct ones and stand in pools, and unended runs on nodes
pub record SeatsAreDistinct (seats : ℕ) (s : State) : Type 0 where
  pub few : seats ≤ seat_limit
  pub distinct : AreDistinct share_seat s.nodes
  pub in_range : Each (λ node. is_from_to 1 seats node.seat) s.nodes
  pub pools_of_nodes : Each (λ node. has_pool_row s node.pool) s.nodes
  pub nodes_of_runs : Each (has_node_while_unended s) s.runs

-- of the present attempt of a placed task, if the run is a task's and has not ended
abbrev pub belongs : State → RunRow → Bool
belongs s run = not (is_work run.kind && is_unended run.state) || list_any (owns run) s.tasks

-- an unended run of a task is of the present attempt of a placed task
abbrev pub RunsBelong : State → Type 0
RunsBelong s = Each (belongs s) s.runs

-- it runs, an end is wanted of it, or its main run ended, if it is placed
abbrev pub can_be_settled : State → TaskRow → Bool
can_be_settled s task = not (is_placed task.stage) || is_busy s task || not (is_undisturbed task) || is_some (main_ending s task)

-- a placed task without an unended run has something to settle it by
abbrev pub PlacedTasksEnd : State → Type 0
PlacedTasksEnd s = Each (can_be_settled s) s.tasks

-- the run names the node's pool, and a start run names no job and no task, if the run is on this node
abbrev pub is_of_pool : RunRow → NodeRow → Bool
is_of_pool run node = not (is_node run.node node) || (same node.pool run.pool && not (is_start run.kind && not (is_none run.job && is_none run.task)))

-- the run fits the nodes that are there
abbrev pub fits_nodes : State → RunRow → Bool
fits_nodes s run = list_all (is_of_pool run) s.nodes

-- a preparation or release run names no task while it has not ended
abbrev pub names_no_task : RunRow → Bool
names_no_task run = not ((is_preparation run.kind || is_release run.kind) && is_unended run.state) || is_none run.task

-- runs name what they are of
pub record RunsNameTheirs (s : State) : Type 0 where
  pub on_nodes : Each (fits_nodes s) s.runs
  pub of_jobs : Each names_no_task s.runs

-- the pool has the slots that the node holds
abbrev pub has_slots_for : State → NodeRow → Bool
has_slots_for s node = list_all (λ pool. not (is_pool node.pool pool) || nat_le (held_slots s node.number) pool.slots) s.pools

-- no node holds more slots than its pool has
abbrev pub SlotsSuffice : State → Type 0
SlotsSuffice s = Each (has_slots_for s) s.nodes

-- the rows fit each other, for this number of seats
pub record IsConsistent (seats : ℕ) (s : State) : Type 0 where
  pub keys : KeysAreDistinct s
  pub numbers : NumbersAreNew s
  pub fitting : TasksAreFitting s
  pub named : NamedRowsAreThere s
  pub seated : SeatsAreDistinct seats s
  pub belonging : RunsBelong s
  pub ending : PlacedTasksEnd s
  pub naming : RunsNameTheirs s
  pub slots : SlotsSuffice s
  pub built : OnlyBuiltRows s

-- the values of the rows are such as the service makes
pub record IsWithinLimits (s : State) : Type 0 where
  pub rows : RowsAreValid s
  pub counts : CountsAreInRange s
  pub quiet : QuietJobsPlaceNothing s
  pub pools : PoolsAreFitting s

-- no end, if the run has not ended
abbrev pub has_no_end_yet : RunRow → Bool
has_no_end_yet run = not (is_unended run.state) || is_none run.ended

-- runs that have not ended have no moment at which they ended
abbrev pub UnendedRunsHaveNoEnd : State → Type 0
UnendedRunsHaveNoEnd s = Each has_no_end_yet s.runs

-- start tasks

-- ended with code 0
abbrev pub has_ended_well : RunState → Bool
has_ended_well (Ended ending) = is_success ending
has_ended_well _ = false

-- a start run ended on the node with code 0
abbrev pub has_started : State → ℕ → Bool
has_started s node = list_any (λ run. nat_eq run.node node && is_start run.kind && has_ended_well run.state) s.runs

-- no start task is waited for in the pool
abbrev pub awaits_no_start : State → List ℕ → Bool
awaits_no_start s pool = list_all (λ row. not (is_pool pool row && waits_for_start row)) s.pools

-- if the node is usable, its pool has no start task that is waited for, or one ended there with code 0
abbrev pub has_usable_start : State → NodeRow → Bool
has_usable_start s node = not (is_usable node.stage) || awaits_no_start s node.pool || has_started s node.number

-- nodes are usable only so, and the failures of a node's start task and its unended runs are together fewer than the runs
-- that were made
pub record StartsAreSound (s : State) : Type 0 where
  pub usable : Each (has_usable_start s) s.nodes
  pub tries : Each (has_few_tries s) s.nodes

-- no run that names the job is unended, if the job is completed
abbrev pub is_at_rest : State → JobRow → Bool
is_at_rest s job = not (is_job_completed job.state && has_unended_run s job.id)

-- a completed job has no unended run
abbrev pub CompletedJobsRest : State → Type 0
CompletedJobsRest s = Each (is_at_rest s) s.jobs

-- preparations

-- the run's job has a preparation on its node that passes the test
abbrev pub has_prep_where : (PrepRow → Bool) → State → RunRow → Bool
has_prep_where test s run = list_any (λ prep. is_at_prep prep run && test prep) s.preps

-- the preparation has a run, or is to have one again
abbrev pub runs_yet : PrepRow → Bool
runs_yet prep = is_prep_running prep.state

-- the preparation is completed
abbrev pub is_completed_prep : PrepRow → Bool
is_completed_prep prep = is_prepared prep.state

-- the release run of the preparation was made
abbrev pub is_released : PrepRow → Bool
is_released prep = not (is_unreleased prep.release)

-- the preparation runs, if the run is an unended preparation run
abbrev pub has_running_prep : State → RunRow → Bool
has_running_prep s run = not (is_open_preparation run) || has_prep_where runs_yet s run

-- two unended preparation runs of one job and node
abbrev pub prepare_the_same : RunRow → RunRow → Bool
prepare_the_same run other =
    is_open_preparation run && is_open_preparation other && nat_eq run.node other.node && option_map_or (names run.job) other.job false

-- the run's job has a preparation that is waited for
abbrev pub waits_in : State → RunRow → Bool
waits_in s run = list_any (λ job. names run.job job.id && waits_for_preparation job) s.jobs

-- a run of a task that may be taken or was taken
abbrev pub is_work_begun : RunRow → Bool
is_work_begun run = is_work run.kind && is_unended run.state && not (is_waiting run.state)

-- the preparation of its job on its node is completed, if the run is such and the preparation is waited for
abbrev pub is_prepared_run : State → RunRow → Bool
is_prepared_run s run = not (is_work_begun run && waits_in s run) || has_prep_where is_completed_prep s run

-- the release run of a job on a node that is there was made for the preparation there
abbrev pub has_known_release : State → RunRow → Bool
has_known_release s run = not (is_release run.kind && has_node_row s run.node) || has_prep_where is_released s run

-- preparations are of jobs and on nodes that are there, an unended run of one is its only one, runs of tasks are prepared, and
-- release runs are made once; failures of a preparation and its unended runs are together fewer than the runs that were made
pub record PreparationsAreSound (s : State) : Type 0 where
  pub jobs_of_preps : Each (λ prep. has_job_row s prep.job) s.preps
  pub nodes_of_preps : Each (λ prep. has_node_row s prep.node) s.preps
  pub running : Each (has_running_prep s) s.runs
  pub single : AreDistinct prepare_the_same s.runs
  pub prepared : Each (is_prepared_run s) s.runs
  pub released : Each (has_known_release s) s.runs
  pub tries : Each (has_few_preparations s) s.preps

-- all of these, for this number of seats; such tables are also well formed
pub record IsSound (seats : ℕ) (s : State) : Type 0 where
  pub consistent : IsConsistent seats s
  pub limited : IsWithinLimits s
  pub unended : UnendedRunsHaveNoEnd s
  pub starts : StartsAreSound s
  pub preparing : PreparationsAreSound s
  pub resting : CompletedJobsRest s
