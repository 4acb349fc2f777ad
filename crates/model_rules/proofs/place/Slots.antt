-- A task is placed within the free slots of a node, and takes them.
use Rattle.std.proofs.Common.{◌≡◌, ℕ, ◌+◌, ◌-◌, ◌≤◌, true, false, not, ◌&&◌, ◌||◌, nat_le, Some, find, ◌∙◌, arith, Bool, is_some, is_none}
use Rattle.std.proofs.lemmas.Bool.Decides.{nat_tests}
use Rattle.bt_base.proofs.SameIds.{same_equiv}
use Rattle.bt_rows.specs.Keys.{same_node, same_job, same_task, same_task_equiv}
use Rattle.bt_rows.proofs.DistinctRows.{found_first}
use Rattle.batch_model.specs.Finding.{Each}
use Rattle.batch_model.specs.Rows.{is_job, pool_of, job_of}
use Rattle.batch_model.specs.Tasks.{is_in_job}
use Rattle.batch_model.specs.Jobs.{is_job_active}
use Rattle.batch_model.specs.Readiness.{is_ready}
use Rattle.batch_model.specs.Nodes.{is_in_pool, is_usable}
use Rattle.batch_model.specs.Slots.{held_slots, has_free}
use Rattle.batch_model.specs.Placing.{is_placeable, choice, place_task}
use Rattle.batch_model.specs.Laws.{PlacesTask}
use Rattle.batch_model.specs.Sound.{IsConsistent, awaits_no_start, has_started, has_usable_start}
use Rattle.batch_model.specs.Variants.{State, PoolRow, NodeRow, JobRow, TaskRow}
use Rattle.model_lists.proofs.Tests.{and_first, and_second}
use Rattle.model_lists.proofs.RowLists.{find_agree, each_found}
use Rattle.model_rules.proofs.place.NodeChosen.{chosen_fits, chosen_first}

-- the task can be placed
abbrev pub has_place : State → JobRow → PoolRow → TaskRow → Bool
has_place s job pool task = is_some (place_task s job pool task)

-- what is held beside a need is at most the slots
ordered : (held need slots : ℕ) → nat_le (held + need) slots ≡ true → held + need ≤ slots
ordered held need slots h = grind (arith, nat_tests)

-- so the need is at most what is free
fits_in : (held need slots : ℕ) → held + need ≤ slots → need ≤ slots - held
fits_in held need slots h = omega (arith, h)

-- and what is free afterwards is the need less
is_taken_from : (held need slots later : ℕ) → held + need ≤ slots → later ≡ held + need → slots - held ≡ slots - later + need
is_taken_from held need slots later h e = omega (arith, h, e)

-- a usable node of a pool whose start task is waited for has started
started_if_usable : (usable awaits started : Bool) → usable ≡ true → (not usable || awaits || started) ≡ true → (awaits || started) ≡ true
started_if_usable true awaits started h k = k
started_if_usable false awaits started h k = cc

module _ (seats : ℕ) (s : State) (h : IsConsistent seats s) (job : JobRow) (pool : PoolRow) (node : NodeRow) (task : TaskRow)
    (job_found : find (λ (other : JobRow). same_job other job) s.jobs ≡ Some job) (pool_found : pool_of s job.pool ≡ Some pool)
    (task_found : find (has_place s job pool) s.tasks ≡ Some task) (can : is_placeable s job task ≡ true) (chosen : choice s job pool task.slots ≡ Some node)
    (active : is_job_active job.state ≡ true) (starts : Each (has_usable_start s) s.nodes) (after : State)
    (more : held_slots after node.number ≡ held_slots s node.number + task.slots) where
  -- the job is the one that the task names
  job_of_task : job_of s task.job ≡ Some job
  job_of_task =
      find_agree (is_job task.job) (λ (other : JobRow). same_job other job)
      (λ other. same_equiv.symm other.id task.job ∙ same_equiv.congr task.job job.id other.id (and_first (is_in_job job.id task) (is_ready s task) (and_first _ (is_none task.multi) can))
      ∙ same_equiv.symm job.id other.id)
      s.jobs
      ∙ job_found

  -- the node fits
  fitting : (is_usable node.stage && is_in_pool pool.id node && has_free s pool task.slots node) ≡ true
  fitting = and_first _ _ (chosen_fits s job pool task.slots node chosen)

  -- the task's slots are free on it
  free_there : held_slots s node.number + task.slots ≤ pool.slots
  free_there = ordered (held_slots s node.number) task.slots pool.slots (and_second (is_usable node.stage && is_in_pool pool.id node) _ fitting)

  -- the node is usable
  usable : is_usable node.stage ≡ true
  usable = and_first (is_usable node.stage) (is_in_pool pool.id node) (and_first (is_usable node.stage && is_in_pool pool.id node) _ fitting)

  -- the placing takes them
  pub places_task : PlacesTask s after task.job task.id node.number
  places_task = record {
    job = job;
    pool = pool;
    node = node;
    task = task;
    job_there = job_of_task;
    pool_there = pool_found;
    node_there = chosen_first s job pool task.slots node chosen h.keys.nodes;
    task_there = found_first same_task same_task_equiv (has_place s job pool) task s.tasks h.keys.tasks task_found;
    active = active;
    ready = and_second (is_in_job job.id task) (is_ready s task) (and_first _ (is_none task.multi) can);
    usable = usable;
    started =
        started_if_usable (is_usable node.stage) (awaits_no_start s node.pool) (has_started s node.number) usable
        (each_found (has_usable_start s) (λ (other : NodeRow). same_node other node) node s.nodes
        (chosen_first s job pool task.slots node chosen h.keys.nodes) starts);
    in_pool = and_second (is_usable node.stage) (is_in_pool pool.id node) (and_first (is_usable node.stage && is_in_pool pool.id node) _ fitting);
    room = fits_in (held_slots s node.number) task.slots pool.slots free_there;
    taken =
        is_taken_from (held_slots s node.number) task.slots pool.slots (held_slots after node.number) free_there more;
  }
