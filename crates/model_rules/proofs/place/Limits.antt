-- Tables stay within the limits when a task is placed.
use Rattle.std.proofs.Common.{◌≡◌, ℕ, ◌+◌, ◌≤◌, Bool, true, false, not, ◌&&◌, ◌||◌, nat_le, Some, find, refl, sym, ◌∙◌, arith}
use Rattle.std.specs.List.{list_any}
use Rattle.std.proofs.lemmas.Bool.Decides.{nat_tests}
use Rattle.bt_base.specs.Ids.{same}
use Rattle.bt_base.proofs.SameIds.{same_equiv}
use Rattle.bt_rows.specs.Keys.{same_job, same_job_equiv}
use Rattle.bt_rows.specs.Lists.{AreDistinct}
use Rattle.bt_rows.specs.Ranges.{is_slot_count}
use Rattle.bt_rows.proofs.DistinctRows.{found_first}
use Rattle.batch_model.specs.Finding.{last_number}
use Rattle.batch_model.specs.Rows.{is_task}
use Rattle.batch_model.specs.Runs.{work_run}
use Rattle.batch_model.specs.Tasks.{is_active, is_in_job, is_placed_in}
use Rattle.batch_model.specs.Jobs.{is_job_active, is_quiet}
use Rattle.batch_model.specs.Placing.{placed}
use Rattle.batch_model.specs.Limits.{task_limit}
use Rattle.batch_model.specs.Sound.{IsWithinLimits, has_node_row}
use Rattle.batch_model.specs.WellFormed.{is_task_in_range, is_task_valid, is_run_valid, has_no_placed_if_quiet}
use Rattle.batch_model.specs.Variants.{State, NodeRow, JobRow, JobState, JobActive, Disabling, Disabled, Enabling, Terminating, JobCompleted, Deleting, TaskRow}
use Rattle.batch_model.specs.Variants.{RunRow, RunState, TaskRun}
use Rattle.model_lists.proofs.Tests.{and_true, and_first, and_second, asked}
use Rattle.model_lists.proofs.RowLists.{each_append, each_of_two, each_found, any_none, none_any}
use Rattle.model_lists.proofs.ChangedRows.{each_change_same}
use Rattle.model_lists.proofs.DistinctLists.{each_with_key}
use Rattle.model_lists.proofs.NextNumbers.{is_not_after_itself, tested}
use Rattle.model_lists.proofs.Lengths.{change_keeps_length}
use Rattle.model_rules.proofs.place.Consistent.{placed_with}
use Rattle.model_tables.proofs.StartAdded.{row_in_range}
use Rattle.model_tables.proofs.TaskMoved.{less_placed}
use Rattle.model_rules.proofs.place.NodeChosen.{is_candidate}

-- a task that is placed

-- a task has failed less often than it was tried, once it is tried again
fails_less : (failures attempt : ℕ) → nat_le failures attempt ≡ true → (nat_le failures (attempt + 1) && not (nat_le (attempt + 1) failures)) ≡ true
fails_less failures attempt h = and_true (more failures attempt h) (less failures attempt h)
  where
    more : (a b : ℕ) → nat_le a b ≡ true → nat_le a (b + 1) ≡ true
    more a b k = grind (arith, nat_tests)

    less : (a b : ℕ) → nat_le a b ≡ true → not (nat_le (b + 1) a) ≡ true
    less a b k = grind (arith, nat_tests)

-- an active job isn't quiet
active_loud : (state : JobState) → is_job_active state ≡ true → not (is_quiet state) ≡ true
active_loud JobActive h = refl
active_loud Disabling h = refl
active_loud Disabled h = cc
active_loud Enabling h = cc
active_loud Terminating h = refl
active_loud JobCompleted h = cc
active_loud Deleting h = refl

module _ (s : State) (job : JobRow) (node : NodeRow) (task : TaskRow) (state : RunState) (test : JobRow → Bool) (task_test : TaskRow → Bool) (h : IsWithinLimits s)
    (keys : AreDistinct same_job s.jobs) (there : find test s.jobs ≡ Some job) (active : is_job_active job.state ≡ true) (f : find task_test s.tasks ≡ Some task)
    (can : is_candidate job task ≡ true) where
  -- the tables after the step, and the new run
  abbrev after : State
  after = placed_with s node task state

  abbrev run : RunRow
  run = work_run s node (placed task) TaskRun task.line task.slots state

  -- the task is valid
  task_valid : is_task_valid s.moment task ≡ true
  task_valid = each_found (is_task_valid s.moment) task_test task s.tasks f h.rows.tasks

  -- it needs at most 8 slots
  few_slots : nat_le task.slots 8 ≡ true
  few_slots =
      let in_range : is_task_in_range task ≡ true = and_first _ _ (and_first _ _ task_valid) in
      let slots : is_slot_count task.slots ≡ true =
      and_first _ _ (and_first _ _ (and_first _ _ (and_first _ _ (and_first _ _ (and_first _ _ (and_first _ _ in_range))))))
      in
      and_second (nat_le 1 task.slots) _ slots

  -- it is so, too, when it is placed
  placed_valid : is_task_valid s.moment (placed task) ≡ true
  placed_valid = and_true (and_first _ _ task_valid) (fails_less task.failures task.attempt (and_first _ _ (and_second _ _ task_valid)))

  -- the new run is valid
  run_valid : s.next_run ≤ last_number + 1 → has_node_row s node.number ≡ true → is_run_valid s.moment run ≡ true
  run_valid most seated =
      and_true
      (and_true
      (and_true
      (and_true (and_true (tested 1 s.next_run h.counts.first_run) (tested s.next_run (last_number + 63) (omega (arith, most)))) few_slots)
      (row_in_range s node.number seated h.rows.nodes))
      (and_true (and_true (is_not_after_itself s.moment) refl) refl))
      refl

  -- the task is one of the job
  of_job : same task.job job.id ≡ true
  of_job = and_first (is_in_job job.id task) (is_active task.stage) can

  -- a job with the id of this one isn't quiet
  loud : (other : JobRow) → (not (same_job other job) || not (is_quiet other.state)) ≡ true → same task.job other.id ≡ true → not (is_quiet other.state) ≡ true
  loud other k t =
      asked (same_job other job) (not (is_quiet other.state)) k
      (same_equiv.symm other.id job.id ∙ (sym (same_equiv.congr task.job job.id other.id of_job) ∙ t))

  -- no task of a quiet job is placed
  quiet_still : (other : JobRow) → (not (same_job other job) || not (is_quiet other.state)) ≡ true → has_no_placed_if_quiet s other ≡ true
      → has_no_placed_if_quiet after other ≡ true
  quiet_still other k = either (same task.job other.id) refl
    where
      silent : (a b c : Bool) → not a ≡ true → not (a && b) ≡ true → not (a && c) ≡ true
      silent true b c m n = cc
      silent false b c m n = refl

      elsewhere : same task.job other.id ≡ false → list_any (is_placed_in other.id) s.tasks ≡ false → list_any (is_placed_in other.id) after.tasks ≡ false
      elsewhere e m =
          none_any (is_placed_in other.id) after.tasks
          (each_change_same (is_task task.job task.id) (λ (old : TaskRow). placed task) (λ row. not (is_placed_in other.id row))
          (λ x t p. rw e refl) s.tasks (any_none (is_placed_in other.id) s.tasks m))

      either : (b : Bool) → same task.job other.id ≡ b → has_no_placed_if_quiet s other ≡ true → has_no_placed_if_quiet after other ≡ true
      either true e = silent (is_quiet other.state) (list_any (is_placed_in other.id) s.tasks) (list_any (is_placed_in other.id) after.tasks) (loud other k e)
      either false e =
          less_placed (is_quiet other.state) (list_any (is_placed_in other.id) s.tasks) (list_any (is_placed_in other.id) after.tasks) (elsewhere e)

  -- a task of an active job, while run numbers last
  pub limited_placed : s.next_run ≤ last_number + 1 → has_node_row s node.number ≡ true → IsWithinLimits (placed_with s node task state)
  limited_placed most seated =
      record {
        rows = record {
          moment = h.rows.moment;
          pools = h.rows.pools;
          nodes = h.rows.nodes;
          jobs = h.rows.jobs;
          tasks =
              each_change_same (is_task task.job task.id) (λ (old : TaskRow). placed task) (is_task_valid s.moment)
              (λ x t p. placed_valid) s.tasks h.rows.tasks;
          runs = each_append (is_run_valid s.moment) s.runs run h.rows.runs (run_valid most seated);
          samples = h.rows.samples;
          scales = h.rows.scales;
        };
        counts = record {
          pools = h.counts.pools;
          jobs = h.counts.jobs;
          tasks = change_keeps_length (is_task task.job task.id) (λ (old : TaskRow). placed task) task_limit s.tasks h.counts.tasks;
          first_node = h.counts.first_node;
          next_node = h.counts.next_node;
          first_run = omega arith;
          next_run = omega (arith, most);
        };
        quiet =
            each_of_two (λ (other : JobRow). not (same_job other job) || not (is_quiet other.state)) (has_no_placed_if_quiet s)
            (has_no_placed_if_quiet after) quiet_still s.jobs
            (each_with_key same_job same_job_equiv (λ (other : JobRow). not (is_quiet other.state)) job job s.jobs keys
            (found_first same_job same_job_equiv test job s.jobs keys there)
            (active_loud job.state active))
            h.quiet;
        pools = record {
          deleting = h.pools.deleting;
          pools_of_scales = h.pools.pools_of_scales;
          pools_of_samples = h.pools.pools_of_samples;
          labels = h.pools.labels;
          order = h.pools.order;
          covered = h.pools.covered;
          kept = h.pools.kept;
        };
      }
