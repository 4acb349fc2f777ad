-- A due step leaves a job over.
use Rattle.std.proofs.Common.{◌≡◌, ◌+◌, ℕ, Bool, true, false, not, ◌&&◌, List, [], ◌∷◌, Option, Some, None, cond, find, option_map, option_and_then, refl}
use Rattle.std.proofs.Common.{subst}
use Rattle.bt_rows.specs.Keys.{same_job}
use Rattle.bt_rows.specs.Lists.{AreDistinct}
use Rattle.bt_rows.specs.declared.event.DisableTasks.TheVariants.{Requeue}
use Rattle.batch_model.specs.Conditions.{condition}
use Rattle.batch_model.specs.Dues.{settle_first, job_step, is_gone, pool_dropped, has_reached, pool_steady, has_timed_out, pool_timed_out, pool_stopped}
use Rattle.batch_model.specs.Dues.{ends_resize, resize_ended, end_resize, leaves_before, has_too_many, node_leaves, one_leaves, remove_node, pool_step}
use Rattle.batch_model.specs.Dues.{is_empty_node, node_dropped, drop_first, lacks_node, new_node, begin_start, node_added, add_on, add_node}
use Rattle.batch_model.specs.Dues.{node_step, due_step}
use Rattle.batch_model.specs.Endings.{is_success, is_not_started}
use Rattle.batch_model.specs.Finding.{best, find_map, is_below, has_number_left}
use Rattle.batch_model.specs.JobRules.{job_enabled, is_to_enable, enable_first, tasks_done, ends_with_tasks, all_complete, has_all_completed, terminate_first}
use Rattle.batch_model.specs.JobRules.{job_disabled, is_to_disable, disable_first, wants_release, is_releasing, release_made, release_for, release_on, release_first}
use Rattle.batch_model.specs.JobRules.{has_job_ended, job_removed, job_completed, job_ended, end_first}
use Rattle.batch_model.specs.Jobs.{is_job_active, is_disabling, is_enabling, is_job_deleting, is_past, can_disable, job_in}
use Rattle.batch_model.specs.Placing.{is_placeable, choice, placed, begin_preparation, prepare_with, place, place_task, place_in, place_of_job, places_tasks}
use Rattle.batch_model.specs.Placing.{next_job, place_first}
use Rattle.batch_model.specs.Metrics.{sampled_metrics}
use Rattle.batch_model.specs.Pools.{staying, free_seat}
use Rattle.batch_model.specs.Preps.{has_preparation}
use Rattle.batch_model.specs.Rows.{is_node, node_of, pool_of, job_of, put_task, add_node_row}
use Rattle.batch_model.specs.Scaling.{is_to_sample, pool_sampled, sample_first, is_scaling, scale_of, pool_scaled, scale_pool, scale_first}
use Rattle.batch_model.specs.Settling.{is_over, task_failed, act, complete, settle_completed, settle_timed_out, settle_terminated, settle_again}
use Rattle.batch_model.specs.Settling.{settle_deleted, settle_failed, settle_ending, settle_by, settle}
use Rattle.batch_model.specs.Sound.{IsSound}
use Rattle.batch_model.specs.Steps.{DueStep}
use Rattle.batch_model.specs.Stops.{disable, terminate, job_for}
use Rattle.batch_model.specs.Tasks.{attempt_ending, retry_limit, completed, has_placed_task}
use Rattle.batch_model.specs.Variants.{State, PoolRow, NodeRow, JobRow, JobState, JobActive, Disabling, Disabled, Enabling, Terminating, JobCompleted, Deleting}
use Rattle.batch_model.specs.Variants.{JobAction, NoAction, ToDisable, ToTerminate, StartTask, Options, TaskRow, Closed, Want, WantRequeue, WantTerminate}
use Rattle.batch_model.specs.Variants.{WantWall, WantDelete, How, ByEnding, ByWall, Ending, NoCode}
use Rattle.batch_model.specs.WallTimes.{wall_time_over, is_task_timed_out, task_timed_out, time_out_task_first, is_release_timed_out, release_timed_out}
use Rattle.batch_model.specs.WallTimes.{time_out_release_first, is_job_timed_out, job_timed_out, time_out_job_first}
use Rattle.model_lists.proofs.RowLists.{find_test}
use Rattle.model_lists.proofs.Tests.{and_first, not_true}
use Rattle.model_tables.proofs.ScalingParts.{samples_leave}
use Rattle.model_rules.proofs.Rules.{from_map, from_then, from_only_if, from_first, first_gives}
use Rattle.job_laws.specs.OverJobs.{is_over_state}
use Rattle.job_laws.proofs.OverRows.{own_job, own_found, Keeps, job_put, job_dropped}
use Rattle.job_laws.proofs.OverByEvents.{disabling_not_over, not_past_not_over, left_jobs, moved, disabled, same_jobs}

enabling_not_over : (state : JobState) → is_enabling state ≡ true → is_over_state state ≡ false
enabling_not_over Disabled e = refl
enabling_not_over JobActive e = refl
enabling_not_over Disabling e = refl
enabling_not_over Enabling e = refl
enabling_not_over Terminating e = refl
enabling_not_over JobCompleted e = cc
enabling_not_over Deleting e = cc

active_not_over : (state : JobState) → is_job_active state ≡ true → is_over_state state ≡ false
active_not_over Disabled e = refl
active_not_over JobActive e = refl
active_not_over Disabling e = refl
active_not_over Enabling e = refl
active_not_over Terminating e = refl
active_not_over JobCompleted e = cc
active_not_over Deleting e = cc

disabling_now_not_over : (state : JobState) → is_disabling state ≡ true → is_over_state state ≡ false
disabling_now_not_over Disabled e = refl
disabling_now_not_over JobActive e = refl
disabling_now_not_over Disabling e = refl
disabling_now_not_over Enabling e = refl
disabling_now_not_over Terminating e = refl
disabling_now_not_over JobCompleted e = cc
disabling_now_not_over Deleting e = cc

-- nodes and preparations leave the jobs

begun_start : (o : Option StartTask) (node : NodeRow) (t : State) → (begin_start o node t).jobs ≡ t.jobs
begun_start None node t = refl
begun_start (Some start) node t = refl

begun_preparation : (job : JobRow) (node : NodeRow) (preparation : StartTask) (t : State) (b : Bool)
    → (cond b t (begin_preparation job node preparation t)).jobs ≡ t.jobs
begun_preparation job node preparation t true = refl
begun_preparation job node preparation t false = refl

prepared_with : (o : Option StartTask) (job : JobRow) (node : NodeRow) (t : State) → (prepare_with o job node t).jobs ≡ t.jobs
prepared_with None job node t = refl
prepared_with (Some preparation) job node t = begun_preparation job node preparation t (has_preparation t job.id node.number)

module _ (id : List ℕ) where
  -- what a completed task does to its job

  disabled_if : (t : State) (job : JobRow) → job_of t job.id ≡ Some job → (b : Bool) → can_disable job.state ≡ b
      → Keeps id t (cond b (disable job Requeue t) t)
  disabled_if t job there true e = disabled id t job Requeue there (disabling_not_over job.state e)
  disabled_if t job there false e = λ h. h

  terminated_unless : (t : State) (job : JobRow) → job_of t job.id ≡ Some job → (b : Bool) → is_past job.state ≡ b
      → Keeps id t (cond b t (terminate task_failed job t))
  terminated_unless t job there true e = λ h. h
  terminated_unless t job there false e = moved id t job (job_for Terminating task_failed job) there refl (not_past_not_over job.state e)

  acted : (action : JobAction) (t : State) (job : JobRow) → job_of t job.id ≡ Some job → Keeps id t (act action job t)
  acted NoAction t job there = λ h. h
  acted ToDisable t job there = disabled_if t job there (can_disable job.state) refl
  acted ToTerminate t job there = terminated_unless t job there (is_past job.state) refl

  acted_if : (b : Bool) (action : JobAction) (t : State) (job : JobRow) → job_of t job.id ≡ Some job → Keeps id t (cond b (act action job t) t)
  acted_if true action t job there = acted action t job there
  acted_if false action t job there = λ h. h

  module _ (s : State) where
    -- the step leaves the job over
    abbrev KeepsBy : DueStep → Type 0
    KeepsBy step = Keeps id s step.state

    -- samples

    sample_keeps : (step : DueStep) → sample_first s ≡ Some step → KeepsBy step
    sample_keeps step e =
        let made = from_map (pool_sampled s) (find (is_to_sample s) s.pools) step e in
        subst KeepsBy {x = pool_sampled s made.0} made.1 (samples_leave (Keeps id s) s made.0 sampled_metrics s (λ samples h. h))

    -- wall times

    task_time_keeps : (step : DueStep) → time_out_task_first s ≡ Some step → KeepsBy step
    task_time_keeps step e =
        let made = from_map (task_timed_out s) (find (is_task_timed_out s) s.tasks) step e in
        subst KeepsBy {x = task_timed_out s made.0} made.1 (λ h. h)

    release_time_keeps : (step : DueStep) → time_out_release_first s ≡ Some step → KeepsBy step
    release_time_keeps step e =
        let made = from_map (release_timed_out s) (find (is_release_timed_out s) s.runs) step e in
        subst KeepsBy {x = release_timed_out s made.0} made.1 (λ h. h)

    -- settling

    module _ (job : JobRow) (task : TaskRow) (there : job_of s job.id ≡ Some job) where
      completed_keeps : (cause : How) (succeeded : Bool) (options : Options) → Keeps id s (complete job task cause succeeded options s)
      completed_keeps cause succeeded options =
          let closing : Closed = record { how = cause; success = succeeded; satisfies = options.satisfies; at = s.moment } in
          acted_if job.on_fail options.job (put_task (completed closing task) s) job there

      failed_keeps : (ending : Ending) (b : Bool)
          → KeepsBy (cond b (settle_again s task (task.failures + 1)) (settle_completed s job task ending false))
      failed_keeps ending true = λ h. h
      failed_keeps ending false = completed_keeps (ByEnding ending) false (condition task ending)

      ending_keeps : (ending : Ending) (good unstarted : Bool)
          → KeepsBy
          (cond good (settle_completed s job task ending true)
          (cond unstarted (settle_completed s job task ending false) (settle_failed s job task ending)))
      ending_keeps ending true unstarted = completed_keeps (ByEnding ending) true (condition task ending)
      ending_keeps ending false true = completed_keeps (ByEnding ending) false (condition task ending)
      ending_keeps ending false false = failed_keeps ending (is_below task.failures (retry_limit job task))

      settled_keeps : (want : Option Want) (step : DueStep) → settle_by want s job task ≡ Some step → KeepsBy step
      settled_keeps (Some WantDelete) step e =
          let is : settle_deleted s task ≡ step = cc in subst KeepsBy {x = settle_deleted s task} is (λ h. h)
      settled_keeps (Some WantTerminate) step e =
          let is : settle_terminated s task ≡ step = cc in subst KeepsBy {x = settle_terminated s task} is (λ h. h)
      settled_keeps (Some WantWall) step e =
          let is : settle_timed_out s job task ≡ step = cc in
          subst KeepsBy {x = settle_timed_out s job task} is (completed_keeps ByWall false (condition task NoCode))
      settled_keeps (Some WantRequeue) step e =
          let is : settle_again s task task.failures ≡ step = cc in subst KeepsBy {x = settle_again s task task.failures} is (λ h. h)
      settled_keeps None step e =
          let made = from_map (settle_ending s job task) (attempt_ending s task) step e in
          subst KeepsBy {x = settle_ending s job task made.0} made.1 (ending_keeps made.0 (is_success made.0) (is_not_started made.0))

    settle_keeps : (step : DueStep) → settle_first s ≡ Some step → KeepsBy step
    settle_keeps step e =
        let found = from_then (settle s) (find (is_over s) s.tasks) step e in
        let job = from_then (λ (row : JobRow). settle_by found.0.wanted s row found.0) (job_of s found.0.job) step found.1 in
        settled_keeps job.0 found.0 (own_job s found.0.job job.0 job.2) found.0.wanted step job.1

    -- jobs

    release_keeps : (step : DueStep) → release_first s ≡ Some step → KeepsBy step
    release_keeps step e =
        let left = from_only_if (has_number_left s.next_run) (find_map (release_on s) s.preps) step e in
        let first = from_first (release_on s) s.preps step left.1 in
        let wanted =
        from_only_if (wants_release first.0)
        (option_and_then (λ node. option_and_then (release_for s first.0 node) (job_of s first.0.job)) (node_of s first.0.node))
        step first.1
        in
        let node = from_then (λ node. option_and_then (release_for s first.0 node) (job_of s first.0.job)) (node_of s first.0.node) step wanted.1 in
        let job = from_then (release_for s first.0 node.0) (job_of s first.0.job) step node.1 in
        let over = from_only_if (is_releasing s job.0) (option_map (release_made s first.0 node.0 job.0) job.0.release) step job.1 in
        let made = from_map (release_made s first.0 node.0 job.0) job.0.release step over.1 in
        subst KeepsBy {x = release_made s first.0 node.0 job.0 made.0} made.1 (λ h. h)

    module _ (keys : AreDistinct same_job s.jobs) where
      job_time_keeps : (step : DueStep) → time_out_job_first s ≡ Some step → KeepsBy step
      job_time_keeps step e =
          let made = from_map (job_timed_out s) (find (is_job_timed_out s) s.jobs) step e in
          let still = not_true (is_past made.0.state) (and_first _ _ (find_test (is_job_timed_out s) made.0 s.jobs made.2)) in
          subst KeepsBy {x = job_timed_out s made.0} made.1
          (moved id s made.0 (job_for Terminating wall_time_over made.0) (own_found s (is_job_timed_out s) made.0 keys made.2) refl
          (not_past_not_over made.0.state still))

      enable_keeps : (step : DueStep) → enable_first s ≡ Some step → KeepsBy step
      enable_keeps step e =
          let made = from_map (job_enabled s) (find is_to_enable s.jobs) step e in
          subst KeepsBy {x = job_enabled s made.0} made.1
          (moved id s made.0 (job_in JobActive made.0) (own_found s is_to_enable made.0 keys made.2) refl
          (enabling_not_over made.0.state (find_test is_to_enable made.0 s.jobs made.2)))

      terminate_keeps : (step : DueStep) → terminate_first s ≡ Some step → KeepsBy step
      terminate_keeps step e =
          let made = from_map (tasks_done s) (find (ends_with_tasks s) s.jobs) step e in
          let test : ends_with_tasks s made.0 ≡ true = find_test (ends_with_tasks s) made.0 s.jobs made.2 in
          subst KeepsBy {x = tasks_done s made.0} made.1
          (moved id s made.0 (job_for Terminating all_complete made.0) (own_found s (ends_with_tasks s) made.0 keys made.2) refl
          (active_not_over made.0.state
          (and_first (is_job_active made.0.state) made.0.on_all
          (and_first (is_job_active made.0.state && made.0.on_all) (has_all_completed s made.0.id) test))))

      disable_keeps : (step : DueStep) → disable_first s ≡ Some step → KeepsBy step
      disable_keeps step e =
          let made = from_map (job_disabled s) (find (is_to_disable s) s.jobs) step e in
          let test : is_to_disable s made.0 ≡ true = find_test (is_to_disable s) made.0 s.jobs made.2 in
          subst KeepsBy {x = job_disabled s made.0} made.1
          (moved id s made.0 (job_in Disabled made.0) (own_found s (is_to_disable s) made.0 keys made.2) refl
          (disabling_now_not_over made.0.state (and_first (is_disabling made.0.state) (not (has_placed_task s made.0.id)) test)))

      ended_keeps : (job : JobRow) → job_of s job.id ≡ Some job → (b : Bool) → KeepsBy (cond b (job_removed s job) (job_completed s job))
      ended_keeps job there true = job_dropped id s job.id
      ended_keeps job there false = job_put id s job (job_in JobCompleted job) there refl (λ h. refl)

      end_keeps : (step : DueStep) → end_first s ≡ Some step → KeepsBy step
      end_keeps step e =
          let made = from_map (job_ended s) (find (has_job_ended s) s.jobs) step e in
          subst KeepsBy {x = job_ended s made.0} made.1
          (ended_keeps made.0 (own_found s (has_job_ended s) made.0 keys made.2) (is_job_deleting made.0.state))

      job_keeps : (step : DueStep) → job_step s ≡ Some step → KeepsBy step
      job_keeps step e =
          first_gives KeepsBy
          (time_out_task_first s
          ∷ time_out_release_first s
          ∷ time_out_job_first s
          ∷ settle_first s
          ∷ enable_first s
          ∷ terminate_first s
          ∷ disable_first s
          ∷ release_first s
          ∷ end_first s
          ∷ []) (
            task_time_keeps,
            (
              release_time_keeps,
              (job_time_keeps, (settle_keeps, (enable_keeps, (terminate_keeps, (disable_keeps, (release_keeps, (end_keeps, tt))))))),
            ),
          )
          step e

    -- pools and nodes

    resized_keeps : (pool : PoolRow) (gone reached late : Bool)
        → KeepsBy (cond gone (pool_dropped s pool) (cond reached (pool_steady s pool) (cond late (pool_timed_out s pool) (pool_stopped s pool))))
    resized_keeps pool true reached late = λ h. h
    resized_keeps pool false true late = λ h. h
    resized_keeps pool false false true = λ h. h
    resized_keeps pool false false false = λ h. h

    resize_keeps : (step : DueStep) → end_resize s ≡ Some step → KeepsBy step
    resize_keeps step e =
        let made = from_map (resize_ended s) (find (ends_resize s) s.pools) step e in
        subst KeepsBy {x = resize_ended s made.0} made.1
        (resized_keeps made.0 (is_gone s made.0) (has_reached s made.0) (has_timed_out s made.0))

    scale_keeps : (step : DueStep) → scale_first s ≡ Some step → KeepsBy step
    scale_keeps step e =
        let pool = from_then (scale_pool s) (find (is_scaling s) s.pools) step e in
        let scale = from_map (pool_scaled s pool.0) (scale_of s pool.0.id) step pool.1 in
        subst KeepsBy {x = pool_scaled s pool.0 scale.0} scale.1 (λ h. h)

    remove_keeps : (step : DueStep) → remove_node s ≡ Some step → KeepsBy step
    remove_keeps step e =
        let pool = from_then (one_leaves s) (find (has_too_many s) s.pools) step e in
        let node = from_map (node_leaves s pool.0) (best (leaves_before s) (staying s pool.0.id)) step pool.1 in
        subst KeepsBy {x = node_leaves s pool.0 node.0} node.1
        (same_jobs id s (node_leaves s pool.0 node.0).state (left_jobs pool.0.option (is_node node.0.number) s))

    pool_keeps : (step : DueStep) → pool_step s ≡ Some step → KeepsBy step
    pool_keeps step e = first_gives KeepsBy (end_resize s ∷ scale_first s ∷ remove_node s ∷ []) (resize_keeps, (scale_keeps, (remove_keeps, tt))) step e

    drop_keeps : (step : DueStep) → drop_first s ≡ Some step → KeepsBy step
    drop_keeps step e =
        let made = from_map (node_dropped s) (find (is_empty_node s) s.nodes) step e in
        subst KeepsBy {x = node_dropped s made.0} made.1 (λ h. h)

    add_keeps : (seats : ℕ) (step : DueStep) → add_node seats s ≡ Some step → KeepsBy step
    add_keeps seats step e =
        let left = from_only_if (has_number_left s.next_run && has_number_left s.next_node) (option_and_then (add_on s) (free_seat seats s)) step e in
        let seat = from_then (add_on s) (free_seat seats s) step left.1 in
        let made = from_map (node_added s seat.0) (find (lacks_node s) s.pools) step seat.1 in
        let node = new_node s made.0 seat.0 in
        subst KeepsBy {x = node_added s seat.0 made.0} made.1
        (same_jobs id s (begin_start made.0.start node (add_node_row node s)) (begun_start made.0.start node (add_node_row node s)))

    node_keeps : (seats : ℕ) (step : DueStep) → node_step seats s ≡ Some step → KeepsBy step
    node_keeps seats step e = first_gives KeepsBy (drop_first s ∷ add_node seats s ∷ []) (drop_keeps, (add_keeps seats, tt)) step e

    -- placing

    place_keeps : (step : DueStep) → place_first s ≡ Some step → KeepsBy step
    place_keeps step e =
        let left = from_only_if (has_number_left s.next_run) (option_and_then (place_of_job s) (next_job s)) step e in
        let job = from_then (place_of_job s) (next_job s) step left.1 in
        let plain = from_only_if (places_tasks s job.0) (option_and_then (place_in s job.0) (pool_of s job.0.pool)) step job.1 in
        let pool = from_then (place_in s job.0) (pool_of s job.0.pool) step plain.1 in
        let kept = from_only_if (not pool.0.deleting) (find_map (place_task s job.0 pool.0) s.tasks) step pool.1 in
        let task = from_first (place_task s job.0 pool.0) s.tasks step kept.1 in
        let ready = from_only_if (is_placeable s job.0 task.0) (option_map (place s job.0 task.0) (choice s job.0 pool.0 task.0.slots)) step task.1 in
        let node = from_map (place s job.0 task.0) (choice s job.0 pool.0 task.0.slots) step ready.1 in
        subst KeepsBy {x = place s job.0 task.0 node.0} node.1
        (same_jobs id s (place s job.0 task.0 node.0).state (prepared_with job.0.prep job.0 node.0 (put_task (placed task.0) s)))

    over_by_due : (seats : ℕ) → AreDistinct same_job s.jobs → (step : DueStep) → due_step seats s ≡ Some step → KeepsBy step
    over_by_due seats keys step e =
        first_gives KeepsBy
        (sample_first s ∷ job_step s ∷ pool_step s ∷ node_step seats s ∷ place_first s ∷ [])
        (sample_keeps, (job_keeps keys, (pool_keeps, (node_keeps seats, (place_keeps, tt))))) step e

-- on sound tables
pub due_keeps_over : (id : List ℕ) (seats : ℕ) (s : State) (step : DueStep) → IsSound seats s → due_step seats s ≡ Some step → Keeps id s step.state
due_keeps_over id seats s step sound e = over_by_due id s seats sound.consistent.keys.jobs step e
