-- The changes by which nodes leave are read off the tables before the first of them, and lead to the tables in which the nodes leave, one
-- step after the other: start runs on nodes name no task, and unended preparation runs name none and are no start runs, so that no run is
-- changed by two of the steps.
use Rattle.std.proofs.Common.{◌≡◌, ℕ, Bool, true, false, not, ◌&&◌, ◌||◌, List, ◌++◌, Option, Some, None, cond, is_none, refl, sym, ◌∙◌, ap, subst}
use Rattle.std.proofs.Math.Path.{fun_ext}
use Rattle.std.proofs.lemmas.Simd.{map-map}
use Rattle.bt_base.specs.Ids.{same}
use Rattle.bt_rows.specs.Changes.{apply_changes}
use Rattle.bt_rows.specs.Keys.{same_node, same_node_equiv}
use Rattle.bt_rows.specs.declared.tables.Change.TheVariants.{PutNode, PutRun}
use Rattle.batch_model.specs.Leaving.{clear_for, clear_runs, has_run_where, is_on, is_start_run, leave, leaving_by, with_leaving}
use Rattle.batch_model.specs.Rows.{change_nodes, is_node}
use Rattle.batch_model.specs.Runs.{halted, halted_in, is_open_preparation, is_preparation, is_present, is_start, is_unended}
use Rattle.batch_model.specs.Sound.{RunsNameTheirs, fits_nodes, is_of_pool, names_no_task}
use Rattle.batch_model.specs.Stops.{halt_preparations, is_run_of_stopped, stop}
use Rattle.batch_model.specs.Variants.{State, NodeRow, Dealloc, ByRequeue, ByTerminate, TaskCompletion, RetainedData, TaskRow, Want, WantRequeue, WantTerminate, RunRow, RunKind, StartRun, PrepRun, TaskRun, CoordinationRun, ReleaseRun, RunState, Waiting, Queued, Taken, Ended, Withdrawn}
use Rattle.batch_model.specs.WellFormed.{KeysAreDistinct}
use Rattle.machine_plans.specs.Plans.{with_moment}
use Rattle.machine_plans.proofs.Moves.{keys_moved}
use Rattle.model_lists.proofs.ChangedRows.{any_change_same, changed}
use Rattle.model_lists.proofs.RowLists.{each_found, find_any, find_test}
use Rattle.model_lists.proofs.Tests.{and_first, and_second}
use Rattle.node_stops.specs.LeaveChanges.{clear_changes, clear_changes_for, halted_start, leave_changes, left_node, with_leaving_changes}
use Rattle.row_changes.specs.Puts.{puts_of}
use Rattle.row_changes.proofs.ListPuts.{apply_append, nodes_put}
use Rattle.row_changes.proofs.PutsInPlace.{put_is_change_where}
use Rattle.task_stops.specs.HaltChanges.{halt_changes}
use Rattle.task_stops.specs.StopChanges.{is_to_halt, stop_changes}
use Rattle.task_stops.proofs.HaltMade.{closed_after, halt_after, number_after, open_not_stopped}
use Rattle.task_stops.proofs.RunOfStopped.{none_without_task}
use Rattle.task_stops.proofs.StopMade.{runs_halted, stop_after}

-- a halted run is of the same task
halted_task : (state : RunState) (now : ℕ) (run : RunRow) → (halted_in state now run).task ≡ run.task
halted_task Waiting now run = refl
halted_task Queued now run = refl
halted_task Taken now run = refl
halted_task (Ended ending) now run = refl
halted_task Withdrawn now run = refl

-- and of the same attempt, on the same node
halted_place : (test : NodeRow → Bool) (s : State) (task : TaskRow) (state : RunState) (now : ℕ) (run : RunRow)
    → (is_on test s (halted_in state now run) && is_present task (halted_in state now run)) ≡ (is_on test s run && is_present task run)
halted_place test s task Waiting now run = refl
halted_place test s task Queued now run = refl
halted_place test s task Taken now run = refl
halted_place test s task (Ended ending) now run = refl
halted_place test s task Withdrawn now run = refl

-- a preparation run is no start run
not_start : (kind : RunKind) → is_preparation kind ≡ true → is_start kind ≡ false
not_start StartRun h = cc
not_start PrepRun h = refl
not_start TaskRun h = refl
not_start CoordinationRun h = refl
not_start ReleaseRun h = refl

off_second : (a b : Bool) → b ≡ false → (a && b) ≡ false
off_second true b h = h
off_second false b h = refl

-- a start run on a node that is there names no task
start_is_free : (test : NodeRow → Bool) (s : State) (run : RunRow) → fits_nodes s run ≡ true → is_start_run (is_on test s) run ≡ true → run.task ≡ None
start_is_free test s run fits h =
    let found = find_any (λ node. test node && is_node run.node node) s.nodes (and_first (is_on test s run) (is_start run.kind) h) in
    is_nothing run.task
    (names_none (is_node run.node found.0) (same found.0.pool run.pool) (is_start run.kind) (is_none run.job) (is_none run.task)
    (and_second (test found.0) (is_node run.node found.0) (find_test (λ node. test node && is_node run.node node) found.0 s.nodes found.1))
    (and_second (is_on test s run) (is_start run.kind) h)
    (each_found (is_of_pool run) (λ node. test node && is_node run.node node) found.0 s.nodes found.1 fits))
  where
    is_nothing : (o : Option (List ℕ)) → is_none o ≡ true → o ≡ None
    is_nothing None e = refl
    is_nothing (Some x) e = cc

    names_none : (on pool start none_job none_task : Bool) → on ≡ true → start ≡ true
        → (not on || (pool && not (start && not (none_job && none_task)))) ≡ true → none_task ≡ true
    names_none true true true true true h k m = refl
    names_none true true true true false h k m = cc
    names_none true true true false none_task h k m = cc
    names_none true true false none_job none_task h k m = cc
    names_none true false start none_job none_task h k m = cc
    names_none false pool start none_job none_task h k m = cc

module _ (option : Dealloc) (test : NodeRow → Bool) (s : State) (keys : KeysAreDistinct s) (naming : RunsNameTheirs s) where
  -- the run is on a node that leaves
  abbrev on : RunRow → Bool
  on = is_on test s

  -- the run once start runs are halted
  abbrev started : RunRow → RunRow
  started = changed (is_start_run on) (halted s.moment)

  -- the tables in which the nodes leave and their start runs are halted
  abbrev left : State
  left = with_leaving option test s

  nodes_left : apply_changes (puts_of PutNode (left_node option test) s.nodes) s ≡ change_nodes test (leaving_by option) s
  nodes_left =
      nodes_put (left_node option test) s.nodes s
      ∙ ap (λ nodes. record s { nodes = nodes })
      (put_is_change_where same_node same_node_equiv test (leaving_by option) (λ node other. refl) s.nodes keys.nodes)

  left_first : apply_changes (with_leaving_changes option test s.moment s) s ≡ left
  left_first =
      apply_append (puts_of PutNode (left_node option test) s.nodes) (puts_of PutRun (halted_start test s.moment s) s.runs) s
      ∙ ap (apply_changes (puts_of PutRun (halted_start test s.moment s) s.runs)) nodes_left
      ∙ runs_halted (is_start_run on) (change_nodes test (leaving_by option) s) keys.runs

  -- the tasks that run there

  -- they are the same after start runs are halted
  same_tasks : has_run_where on s ≡ has_run_where on left
  same_tasks =
      fun_ext (λ task.
      sym (any_change_same (is_start_run on) (halted s.moment) (λ run. on run && is_present task run)
      (λ run h. halted_place test s task run.state s.moment run) s.runs))

  -- a start run there is of none of them, halted or not

  start_not_stopped : (tasks : TaskRow → Bool) (run : RunRow) → run.task ≡ None → is_to_halt tasks s run ≡ false
  start_not_stopped tasks run h =
      off_second (is_unended run.state) (is_run_of_stopped tasks s run) (none_without_task tasks s run h)

  stop_kept : (tasks : TaskRow → Bool) (run : RunRow) → fits_nodes s run ≡ true → is_to_halt tasks s run ≡ true → started run ≡ run
  stop_kept tasks run fits h = either (is_start_run on run) refl
    where
      either : (b : Bool) → is_start_run on run ≡ b → cond b (halted s.moment run) run ≡ run
      either true i = let none : is_to_halt tasks s run ≡ false = start_not_stopped tasks run (start_is_free test s run fits i) in cc
      either false i = refl

  stop_alike : (tasks : TaskRow → Bool) (run : RunRow) → fits_nodes s run ≡ true → is_to_halt tasks s (started run) ≡ is_to_halt tasks s run
  stop_alike tasks run fits = either (is_start_run on run) refl
    where
      either : (b : Bool) → is_start_run on run ≡ b → is_to_halt tasks s (cond b (halted s.moment run) run) ≡ is_to_halt tasks s run
      either true i =
          let free = start_is_free test s run fits i in
          start_not_stopped tasks (halted s.moment run) (halted_task run.state s.moment run ∙ free)
          ∙ sym (start_not_stopped tasks run free)
      either false i = refl

  module _ (want : Want) where
    -- the tables in which the tasks are stopped
    abbrev stopped : State
    stopped = stop (has_run_where on left) want left

    stopped_next : apply_changes (stop_changes (has_run_where on s) want s.moment s) left ≡ stopped
    stopped_next =
        stop_after (has_run_where on s) want s (fits_nodes s) started (number_after (is_start_run on) s.moment)
        (stop_kept (has_run_where on s)) (stop_alike (has_run_where on s)) left naming.on_nodes keys.tasks keys.runs
        ∙ ap (λ tasks. stop tasks want left) same_tasks

    -- the preparations

    -- the run is of a task that is stopped
    abbrev of_stopped : RunRow → Bool
    of_stopped = is_run_of_stopped (has_run_where on left) left

    -- the run once start runs are halted and tasks are stopped
    abbrev later : RunRow → RunRow
    later run = changed of_stopped (halted s.moment) (started run)

    -- an unended preparation run is as it was
    as_it_was : (run : RunRow) → names_no_task run ≡ true → is_open_preparation run ≡ true → later run ≡ run
    as_it_was run h o =
        let other = off_second (on run) (is_start run.kind) (not_start run.kind (and_first (is_preparation run.kind) (is_unended run.state) o)) in
        ap (λ b. changed of_stopped (halted s.moment) (cond b (halted s.moment run) run)) other
        ∙ open_not_stopped (has_run_where on left) left s.moment run h o

    halted_last : apply_changes (halt_changes on s.moment s) stopped ≡ halt_preparations on stopped
    halted_last =
        subst (λ runs. apply_changes (halt_changes on s.moment s) (record stopped { runs = runs }) ≡ halt_preparations on (record stopped { runs = runs }))
        (sym (map-map (changed of_stopped (halted s.moment)) started s.runs))
        (halt_after on names_no_task later
        (λ run. number_after of_stopped s.moment (started run) ∙ number_after (is_start_run on) s.moment run)
        as_it_was (λ run o. closed_after of_stopped s.moment (started run) (closed_after (is_start_run on) s.moment run o))
        s stopped naming.of_jobs keys.runs keys.preps)

    cleared : apply_changes (clear_changes want on s.moment s) left ≡ clear_runs want on left
    cleared =
        apply_append (stop_changes (has_run_where on s) want s.moment s) (halt_changes on s.moment s) left
        ∙ ap (apply_changes (halt_changes on s.moment s)) stopped_next
        ∙ halted_last

  cleared_for : (by : Dealloc) → apply_changes (clear_changes_for by on s.moment s) left ≡ clear_for by on left
  cleared_for ByRequeue = cleared WantRequeue
  cleared_for ByTerminate = cleared WantTerminate
  cleared_for TaskCompletion = refl
  cleared_for RetainedData = refl

  -- the tables in which the nodes leave
  leave_made : apply_changes (leave_changes option test s.moment s) s ≡ leave option test s
  leave_made =
      apply_append (with_leaving_changes option test s.moment s) (clear_changes_for option on s.moment s) s
      ∙ ap (apply_changes (clear_changes_for option on s.moment s)) left_first
      ∙ cleared_for option

-- the changes do not depend on the moment of the tables
clear_at : (option : Dealloc) (test : RunRow → Bool) (now : ℕ) (s : State)
    → clear_changes_for option test now s ≡ clear_changes_for option test now (with_moment now s)
clear_at ByRequeue test now s = refl
clear_at ByTerminate test now s = refl
clear_at TaskCompletion test now s = refl
clear_at RetainedData test now s = refl

-- the tables in which the nodes leave at the moment
pub left_at : (option : Dealloc) (test : NodeRow → Bool) (now : ℕ) (s : State) → KeysAreDistinct s → RunsNameTheirs s
    → apply_changes (leave_changes option test now s) (with_moment now s) ≡ leave option test (with_moment now s)
left_at option test now s keys naming =
    ap (λ changes. apply_changes (with_leaving_changes option test now s ++ changes) (with_moment now s)) (clear_at option (is_on test s) now s)
    ∙ leave_made option test (with_moment now s) (keys_moved now s keys) (record { on_nodes = naming.on_nodes; of_jobs = naming.of_jobs })
