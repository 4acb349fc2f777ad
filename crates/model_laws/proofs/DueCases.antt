-- Which step a due step is, in cases: one for each way in which a rule gives one.
use Rattle.std.proofs.Common.{◌≡◌, ℕ, ◌+◌, Bool, true, false, not, ◌&&◌, [], ◌∷◌, Option, Some, None, cond, find, option_map, option_and_then, refl, subst}
use Rattle.batch_model.specs.Conditions.{condition}
use Rattle.batch_model.specs.Dues.{settle_first, job_step, is_gone, pool_dropped, has_reached, pool_steady, has_timed_out, pool_timed_out, pool_stopped}
use Rattle.batch_model.specs.Dues.{ends_resize, resize_ended, end_resize, leaves_before, has_too_many, node_leaves, one_leaves, remove_node, pool_step}
use Rattle.batch_model.specs.Dues.{is_empty_node, node_dropped, drop_first, lacks_node, node_added, add_on, add_node, node_step, due_step}
use Rattle.batch_model.specs.Endings.{is_success, is_not_started}
use Rattle.batch_model.specs.Finding.{best, find_map, is_below, has_number_left}
use Rattle.batch_model.specs.JobRules.{job_enabled, is_to_enable, enable_first, tasks_done, ends_with_tasks, terminate_first, job_disabled, is_to_disable}
use Rattle.batch_model.specs.JobRules.{disable_first, wants_release, is_releasing, release_made, release_for, release_on, release_first}
use Rattle.batch_model.specs.JobRules.{has_job_ended, job_removed, job_completed, job_ended, end_first}
use Rattle.batch_model.specs.Jobs.{is_job_deleting}
use Rattle.batch_model.specs.Placing.{is_placeable, choice, place, place_task, place_in, place_of_job, places_tasks, next_job, place_first}
use Rattle.batch_model.specs.Pools.{staying, free_seat}
use Rattle.batch_model.specs.Rows.{node_of, pool_of, job_of}
use Rattle.batch_model.specs.Scaling.{is_to_sample, pool_sampled, sample_first, is_scaling, scale_of, pool_scaled, scale_pool, scale_first}
use Rattle.batch_model.specs.Settling.{is_over, settled, complete, outcome_of, settle_completed, settle_timed_out, settle_terminated, settle_again}
use Rattle.batch_model.specs.Settling.{settle_deleted, settle_failed, settle_ending, settle_by, settle}
use Rattle.batch_model.specs.Steps.{DueStep}
use Rattle.batch_model.specs.Tasks.{attempt_ending, retry_limit}
use Rattle.batch_model.specs.Variants.{State, PoolRow, ScaleRow, NodeRow, JobRow, ReleaseTask, TaskRow, Want, WantRequeue, WantTerminate, WantWall, WantDelete, How}
use Rattle.batch_model.specs.Variants.{ByEnding, ByWall, Options, Ending, NoCode, RunRow, PrepRow}
use Rattle.batch_model.specs.WallTimes.{task_timed_out, is_task_timed_out, time_out_task_first, release_timed_out, is_release_timed_out}
use Rattle.batch_model.specs.WallTimes.{time_out_release_first, job_timed_out, is_job_timed_out, time_out_job_first}
use Rattle.bt_rows.specs.declared.due.Outcome.{Outcome}
use Rattle.model_rules.proofs.Rules.{from_map, from_then, from_only_if, from_first, first_gives}

-- the step, with what its rule found: tasks that change are those that a search finds
pub data DueCase (s : State) : DueStep → Type 0 where
  takes_samples : (pool : PoolRow) → DueCase s (pool_sampled s pool)
  task_stops : (task : TaskRow) → DueCase s (task_timed_out s task)
  release_stops : (run : RunRow) → DueCase s (release_timed_out s run)
  job_stops : (job : JobRow) → DueCase s (job_timed_out s job)
  task_deleted : (task : TaskRow) → DueCase s (settle_deleted s task)
  task_terminated : (task : TaskRow) → find (is_over s) s.tasks ≡ Some task → DueCase s (settle_terminated s task)
  task_requeued : (task : TaskRow) → find (is_over s) s.tasks ≡ Some task → DueCase s (settle_again s task task.failures)
  task_tried : (job : JobRow) (task : TaskRow) → find (is_over s) s.tasks ≡ Some task → job_of s task.job ≡ Some job
      → is_below task.failures (retry_limit job task) ≡ true → DueCase s (settle_again s task (task.failures + 1))
  task_completed : (job : JobRow) (task : TaskRow) (cause : How) (succeeded : Bool) (options : Options) (outcome : Outcome)
      → find (is_over s) s.tasks ≡ Some task → DueCase s (settled task outcome (complete job task cause succeeded options s))
  job_active : (job : JobRow) → DueCase s (job_enabled s job)
  job_done : (job : JobRow) → DueCase s (tasks_done s job)
  job_rests : (job : JobRow) → DueCase s (job_disabled s job)
  releases : (prep : PrepRow) (node : NodeRow) (job : JobRow) (release : ReleaseTask) → DueCase s (release_made s prep node job release)
  job_goes : (job : JobRow) → DueCase s (job_removed s job)
  job_stays : (job : JobRow) → DueCase s (job_completed s job)
  pool_goes : (pool : PoolRow) → DueCase s (pool_dropped s pool)
  pool_reaches : (pool : PoolRow) → DueCase s (pool_steady s pool)
  pool_fails : (pool : PoolRow) → DueCase s (pool_timed_out s pool)
  pool_stops : (pool : PoolRow) → DueCase s (pool_stopped s pool)
  pool_scales : (pool : PoolRow) (scale : ScaleRow) → DueCase s (pool_scaled s pool scale)
  node_departs : (pool : PoolRow) (node : NodeRow) → DueCase s (node_leaves s pool node)
  node_goes : (node : NodeRow) → DueCase s (node_dropped s node)
  node_comes : (seat : ℕ) (pool : PoolRow) → DueCase s (node_added s seat pool)
  places : (job : JobRow) (task : TaskRow) (node : NodeRow) (test : TaskRow → Bool) → find test s.tasks ≡ Some task → DueCase s (place s job task node)

module _ (s : State) where
  -- samples

  sample_case : (step : DueStep) → sample_first s ≡ Some step → DueCase s step
  sample_case step e =
      let made = from_map (pool_sampled s) (find (is_to_sample s) s.pools) step e in
      subst (DueCase s) {x = pool_sampled s made.0} made.1 (takes_samples made.0)

  -- wall times

  task_time_case : (step : DueStep) → time_out_task_first s ≡ Some step → DueCase s step
  task_time_case step e =
      let made = from_map (task_timed_out s) (find (is_task_timed_out s) s.tasks) step e in
      subst (DueCase s) made.1 (task_stops made.0)

  release_time_case : (step : DueStep) → time_out_release_first s ≡ Some step → DueCase s step
  release_time_case step e =
      let made = from_map (release_timed_out s) (find (is_release_timed_out s) s.runs) step e in
      subst (DueCase s) made.1 (release_stops made.0)

  job_time_case : (step : DueStep) → time_out_job_first s ≡ Some step → DueCase s step
  job_time_case step e =
      let made = from_map (job_timed_out s) (find (is_job_timed_out s) s.jobs) step e in
      subst (DueCase s) made.1 (job_stops made.0)

  -- settling

  module _ (job : JobRow) (task : TaskRow) (found : find (is_over s) s.tasks ≡ Some task) (there : job_of s task.job ≡ Some job) where
    failed_case : (ending : Ending) (b : Bool) → is_below task.failures (retry_limit job task) ≡ b
        → DueCase s (cond b (settle_again s task (task.failures + 1)) (settle_completed s job task ending false))
    failed_case ending true left = task_tried job task found there left
    failed_case ending false left =
        task_completed job task (ByEnding ending) false (condition task ending) (outcome_of false) found

    ending_case : (ending : Ending) (good unstarted : Bool)
        → DueCase s
        (cond good (settle_completed s job task ending true)
        (cond unstarted (settle_completed s job task ending false) (settle_failed s job task ending)))
    ending_case ending true unstarted =
        task_completed job task (ByEnding ending) true (condition task ending) (outcome_of true) found
    ending_case ending false true =
        task_completed job task (ByEnding ending) false (condition task ending) (outcome_of false) found
    ending_case ending false false = failed_case ending (is_below task.failures (retry_limit job task)) refl

    settled_case : (want : Option Want) (step : DueStep) → settle_by want s job task ≡ Some step → DueCase s step
    settled_case (Some WantDelete) step e =
        let is : settle_deleted s task ≡ step = cc in subst (DueCase s) is (task_deleted task)
    settled_case (Some WantTerminate) step e =
        let is : settle_terminated s task ≡ step = cc in subst (DueCase s) is (task_terminated task found)
    settled_case (Some WantWall) step e =
        let is : settle_timed_out s job task ≡ step = cc in
        subst (DueCase s) is (task_completed job task ByWall false (condition task NoCode) (outcome_of false) found)
    settled_case (Some WantRequeue) step e =
        let is : settle_again s task task.failures ≡ step = cc in subst (DueCase s) is (task_requeued task found)
    settled_case None step e =
        let made = from_map (settle_ending s job task) (attempt_ending s task) step e in
        subst (DueCase s) made.1 (ending_case made.0 (is_success made.0) (is_not_started made.0))

  settle_case : (step : DueStep) → settle_first s ≡ Some step → DueCase s step
  settle_case step e =
      let found = from_then (settle s) (find (is_over s) s.tasks) step e in
      let job = from_then (λ (row : JobRow). settle_by found.0.wanted s row found.0) (job_of s found.0.job) step found.1 in
      settled_case job.0 found.0 found.2 job.2 found.0.wanted step job.1

  -- jobs

  enable_case : (step : DueStep) → enable_first s ≡ Some step → DueCase s step
  enable_case step e =
      let made = from_map (job_enabled s) (find is_to_enable s.jobs) step e in
      subst (DueCase s) made.1 (job_active made.0)

  terminate_case : (step : DueStep) → terminate_first s ≡ Some step → DueCase s step
  terminate_case step e =
      let made = from_map (tasks_done s) (find (ends_with_tasks s) s.jobs) step e in
      subst (DueCase s) made.1 (job_done made.0)

  disable_case : (step : DueStep) → disable_first s ≡ Some step → DueCase s step
  disable_case step e =
      let made = from_map (job_disabled s) (find (is_to_disable s) s.jobs) step e in
      subst (DueCase s) made.1 (job_rests made.0)

  release_case : (step : DueStep) → release_first s ≡ Some step → DueCase s step
  release_case step e =
      let left = from_only_if (has_number_left s.next_run) (find_map (release_on s) s.preps) step e in
      let first = from_first (release_on s) s.preps step left.1 in
      let wanted =
      from_only_if (wants_release first.0)
      (option_and_then (λ node. option_and_then (release_for s first.0 node) (job_of s first.0.job)) (node_of s first.0.node))
      step first.1
      in
      let node = from_then (λ node. option_and_then (release_for s first.0 node) (job_of s first.0.job)) (node_of s first.0.node) step wanted.1 in
      let job = from_then (release_for s first.0 node.0) (job_of s first.0.job) step node.1 in
      let over = from_only_if (is_releasing s job.0) (option_map (release_made s first.0 node.0 job.0) job.0.release) step job.1 in
      let made = from_map (release_made s first.0 node.0 job.0) job.0.release step over.1 in
      subst (DueCase s) {x = release_made s first.0 node.0 job.0 made.0} made.1 (releases first.0 node.0 job.0 made.0)

  ended_case : (job : JobRow) (b : Bool) → DueCase s (cond b (job_removed s job) (job_completed s job))
  ended_case job true = job_goes job
  ended_case job false = job_stays job

  end_case : (step : DueStep) → end_first s ≡ Some step → DueCase s step
  end_case step e =
      let made = from_map (job_ended s) (find (has_job_ended s) s.jobs) step e in
      subst (DueCase s) made.1 (ended_case made.0 (is_job_deleting made.0.state))

  -- pools and nodes

  resized_case : (pool : PoolRow) (gone reached late : Bool)
      → DueCase s (cond gone (pool_dropped s pool) (cond reached (pool_steady s pool) (cond late (pool_timed_out s pool) (pool_stopped s pool))))
  resized_case pool true reached late = pool_goes pool
  resized_case pool false true late = pool_reaches pool
  resized_case pool false false true = pool_fails pool
  resized_case pool false false false = pool_stops pool

  resize_case : (step : DueStep) → end_resize s ≡ Some step → DueCase s step
  resize_case step e =
      let made = from_map (resize_ended s) (find (ends_resize s) s.pools) step e in
      subst (DueCase s) made.1 (resized_case made.0 (is_gone s made.0) (has_reached s made.0) (has_timed_out s made.0))

  scale_case : (step : DueStep) → scale_first s ≡ Some step → DueCase s step
  scale_case step e =
      let pool = from_then (scale_pool s) (find (is_scaling s) s.pools) step e in
      let scale = from_map (pool_scaled s pool.0) (scale_of s pool.0.id) step pool.1 in
      subst (DueCase s) {x = pool_scaled s pool.0 scale.0} scale.1 (pool_scales pool.0 scale.0)

  remove_case : (step : DueStep) → remove_node s ≡ Some step → DueCase s step
  remove_case step e =
      let pool = from_then (one_leaves s) (find (has_too_many s) s.pools) step e in
      let node = from_map (node_leaves s pool.0) (best (leaves_before s) (staying s pool.0.id)) step pool.1 in
      subst (DueCase s) node.1 (node_departs pool.0 node.0)

  pool_case : (step : DueStep) → pool_step s ≡ Some step → DueCase s step
  pool_case step e = first_gives (DueCase s) (end_resize s ∷ scale_first s ∷ remove_node s ∷ []) (resize_case, (scale_case, (remove_case, tt))) step e

  drop_case : (step : DueStep) → drop_first s ≡ Some step → DueCase s step
  drop_case step e =
      let made = from_map (node_dropped s) (find (is_empty_node s) s.nodes) step e in
      subst (DueCase s) made.1 (node_goes made.0)

  add_case : (seats : ℕ) (step : DueStep) → add_node seats s ≡ Some step → DueCase s step
  add_case seats step e =
      let left = from_only_if (has_number_left s.next_run && has_number_left s.next_node) (option_and_then (add_on s) (free_seat seats s)) step e in
      let seat = from_then (add_on s) (free_seat seats s) step left.1 in
      let made = from_map (node_added s seat.0) (find (lacks_node s) s.pools) step seat.1 in
      subst (DueCase s) made.1 (node_comes seat.0 made.0)

  node_case : (seats : ℕ) (step : DueStep) → node_step seats s ≡ Some step → DueCase s step
  node_case seats step e = first_gives (DueCase s) (drop_first s ∷ add_node seats s ∷ []) (drop_case, (add_case seats, tt)) step e

  -- placing

  place_case : (step : DueStep) → place_first s ≡ Some step → DueCase s step
  place_case step e =
      let left = from_only_if (has_number_left s.next_run) (option_and_then (place_of_job s) (next_job s)) step e in
      let job = from_then (place_of_job s) (next_job s) step left.1 in
      let plain = from_only_if (places_tasks s job.0) (option_and_then (place_in s job.0) (pool_of s job.0.pool)) step job.1 in
      let pool = from_then (place_in s job.0) (pool_of s job.0.pool) step plain.1 in
      let kept = from_only_if (not pool.0.deleting) (find_map (place_task s job.0 pool.0) s.tasks) step pool.1 in
      let task = from_first (place_task s job.0 pool.0) s.tasks step kept.1 in
      let ready = from_only_if (is_placeable s job.0 task.0) (option_map (place s job.0 task.0) (choice s job.0 pool.0 task.0.slots)) step task.1 in
      let node = from_map (place s job.0 task.0) (choice s job.0 pool.0 task.0.slots) step ready.1 in
      subst (DueCase s) {x = place s job.0 task.0 node.0} node.1 (places job.0 task.0 node.0 _ task.2)

  -- all rules

  job_case : (step : DueStep) → job_step s ≡ Some step → DueCase s step
  job_case step e =
      first_gives (DueCase s)
      (time_out_task_first s
      ∷ time_out_release_first s
      ∷ time_out_job_first s
      ∷ settle_first s
      ∷ enable_first s
      ∷ terminate_first s
      ∷ disable_first s
      ∷ release_first s
      ∷ end_first s
      ∷ [])
      (task_time_case, (release_time_case, (job_time_case, (settle_case, (enable_case, (terminate_case, (disable_case, (release_case, (end_case, tt)))))))))
      step e

  -- one of the cases
  pub due_cases : (seats : ℕ) (step : DueStep) → due_step seats s ≡ Some step → DueCase s step
  due_cases seats step e =
      first_gives (DueCase s)
      (sample_first s ∷ job_step s ∷ pool_step s ∷ node_step seats s ∷ place_first s ∷ [])
      (sample_case, (job_case, (pool_case, (node_case seats, (place_case, tt))))) step e
