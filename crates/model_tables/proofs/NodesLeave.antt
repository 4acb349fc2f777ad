-- Tables stay sound when nodes leave their pool, by each option, and what runs on them is stopped as it says.
use Rattle.std.proofs.Common.{◌≡◌, ℕ, Bool, true, false, not, ◌&&◌, ◌||◌, nat_eq, List, Option, Some, None, is_none, refl, sym, ◌∙◌, subst}
use Rattle.std.specs.Cmp.{IsEquivalence, nat_eq_equiv}
use Rattle.bt_base.specs.Ids.{same}
use Rattle.bt_base.proofs.SameIds.{same_equiv}
use Rattle.batch_model.specs.Finding.{names}
use Rattle.batch_model.specs.Rows.{is_node, change_nodes}
use Rattle.batch_model.specs.Runs.{is_start, is_present, is_run_of_task, halted}
use Rattle.batch_model.specs.Leaving.{is_on, is_start_run, has_run_where, clear_runs, clear_for, leaving_by, with_leaving, leave}
use Rattle.batch_model.specs.Stops.{stop}
use Rattle.batch_model.specs.Sound.{IsSound, has_usable_start, is_of_pool, fits_nodes}
use Rattle.batch_model.specs.WellFormed.{has_few_tries}
use Rattle.batch_model.specs.Variants.{State, NodeRow, Leaving, Dealloc, ByRequeue, ByTerminate, TaskCompletion, RetainedData, TaskRow, Want, WantRequeue, WantTerminate, RunRow}
use Rattle.model_lists.proofs.Tests.{and_true, and_first, and_second}
use Rattle.model_lists.proofs.RowLists.{each_any, each_found, any_weaker, find_any, find_test}
use Rattle.model_lists.proofs.ChangedRows.{each_change_same, any_change_same, change_agree_where}
use Rattle.model_tables.proofs.NodeChanged.{consistent_node_changed, limited_node_changed}
use Rattle.model_tables.proofs.PrepsKept.{preps_with_nodes}
use Rattle.model_tables.proofs.RunsMove.{same_by_third}
use Rattle.model_tables.proofs.RunsHalted.{sound_runs_halted}
use Rattle.model_tables.proofs.TasksStopped.{sound_stopped}
use Rattle.model_tables.proofs.PrepsHalted.{sound_preps_halted}

-- the nodes leave

module _ (seats : ℕ) (option : Dealloc) (test : NodeRow → Bool) (s : State) where
  -- the tables in which the nodes leave
  abbrev after : State
  after = change_nodes test (leaving_by option) s

  -- a leaving node is not usable, so no start task need have ended there
  pub sound_nodes_leaving : IsSound seats s → IsSound seats (change_nodes test (leaving_by option) s)
  sound_nodes_leaving h = record {
    consistent = consistent_node_changed test (λ node. Leaving option) (λ node. node.tries) s seats h.consistent;
    limited = limited_node_changed test (λ node. Leaving option) (λ node. node.tries) s h.limited;
    unended = h.unended;
    starts = record {
      usable = each_change_same test (leaving_by option) (has_usable_start s) (λ node t k. refl) s.nodes h.starts.usable;
      tries = each_change_same test (leaving_by option) (has_few_tries s) (λ node t k. k) s.nodes h.starts.tries;
    };
    preparing =
        preps_with_nodes s after.nodes (λ run. true)
        (λ number k. any_change_same test (leaving_by option) (is_node number) (λ node t. refl) s.nodes ∙ k)
        (λ run a k. sym (any_change_same test (leaving_by option) (is_node run.node) (λ node t. refl) s.nodes) ∙ k)
        (each_any (λ run. true) (λ run. refl) s.runs) h.preparing;
    resting = h.resting;
  }

  -- a start run on a node that is there names no task
  start_is_free : (run : RunRow) → fits_nodes s run ≡ true → is_start_run (is_on test s) run ≡ true → is_none run.task ≡ true
  start_is_free run fits k =
      let found = find_any (λ node. test node && is_node run.node node) s.nodes (and_first (is_on test s run) (is_start run.kind) k) in
      names_none (is_node run.node found.0) (same found.0.pool run.pool) (is_start run.kind) (is_none run.job) (is_none run.task)
      (and_second (test found.0) (is_node run.node found.0) (find_test (λ node. test node && is_node run.node node) found.0 s.nodes found.1))
      (and_second (is_on test s run) (is_start run.kind) k)
      (each_found (is_of_pool run) (λ node. test node && is_node run.node node) found.0 s.nodes found.1 fits)
    where
      names_none : (on pool start none_job none_task : Bool) → on ≡ true → start ≡ true
          → (not on || (pool && not (start && not (none_job && none_task)))) ≡ true → none_task ≡ true
      names_none true true true true true h k m = refl
      names_none true true true true false h k m = cc
      names_none true true true false none_task h k m = cc
      names_none true true false none_job none_task h k m = cc
      names_none true false start none_job none_task h k m = cc
      names_none false pool start none_job none_task h k m = cc

  -- their start runs are halted
  pub sound_with_leaving : IsSound seats s → IsSound seats (with_leaving option test s)
  sound_with_leaving h =
      subst (λ (runs : List RunRow). IsSound seats (record after { runs = runs }))
      (sym (change_agree_where (fits_nodes s) (is_start_run (is_on test s)) is_free (halted s.moment)
      (λ run fits. also (is_start_run (is_on test s) run) (is_none run.task) (start_is_free run fits)) s.runs h.consistent.naming.on_nodes))
      (sound_runs_halted is_free after (λ run t. and_second (is_start_run (is_on test s) run) (is_none run.task) t) seats (sound_nodes_leaving h))
    where
      is_free : RunRow → Bool
      is_free run = is_start_run (is_on test s) run && is_none run.task

      also : (a b : Bool) → (a ≡ true → b ≡ true) → a ≡ (a && b)
      also true b give = sym (give refl)
      also false b give = refl

-- what runs there is stopped

-- what is like one of two that are like a third is like the other
like_other : {K : Type 0} {E : K → K → Bool} (e : IsEquivalence E) (third key one other : K) → E third one ≡ true → E third other ≡ true → E key one ≡ true
    → E key other ≡ true
like_other e third key one other h k m = e.congr key third other (same_by_third e key third one m h) ∙ k

-- what names one of two ids that something names names the other
names_other : (third name : Option (List ℕ)) (one other : List ℕ) → names third one ≡ true → names third other ≡ true → names name one ≡ true
    → names name other ≡ true
names_other None name one other h k m = cc
names_other (Some third) None one other h k m = cc
names_other (Some third) (Some name) one other h k m = like_other same_equiv third name one other h k m

-- the runs of the present attempts of two tasks are the same if they have one in common
present_alike : (one other : TaskRow) (common run : RunRow) → is_present one common ≡ true → is_present other common ≡ true → is_present one run ≡ true
    → is_present other run ≡ true
present_alike one other common run h k m =
    and_true
    (and_true
    (names_other common.job run.job one.job other.job (job_of one common h) (job_of other common k) (job_of one run m))
    (names_other common.task run.task one.id other.id (task_of one common h) (task_of other common k) (task_of one run m)))
    (like_other nat_eq_equiv common.attempt run.attempt one.attempt other.attempt (attempt_of one common h) (attempt_of other common k) (attempt_of one run m))
  where
    attempt_of : (task : TaskRow) (row : RunRow) → is_present task row ≡ true → nat_eq row.attempt task.attempt ≡ true
    attempt_of task row e = and_second (is_run_of_task task.job task.id row) (nat_eq row.attempt task.attempt) e

    job_of : (task : TaskRow) (row : RunRow) → is_present task row ≡ true → names row.job task.job ≡ true
    job_of task row e = and_first (names row.job task.job) (names row.task task.id) (and_first (is_run_of_task task.job task.id row) _ e)

    task_of : (task : TaskRow) (row : RunRow) → is_present task row ≡ true → names row.task task.id ≡ true
    task_of task row e = and_second (names row.job task.job) (names row.task task.id) (and_first (is_run_of_task task.job task.id row) _ e)

-- the placed tasks with a run that passes the test are stopped, and the preparation runs that pass it halted
pub sound_cleared : (seats : ℕ) (want : Want) (test : RunRow → Bool) (s : State) → IsSound seats s → IsSound seats (clear_runs want test s)
sound_cleared seats want test s h =
    sound_preps_halted seats test (stop (has_run_where test s) want s) (sound_stopped (has_run_where test s) want s together seats h)
  where
    together : (one other : TaskRow) (run : RunRow) → is_present one run ≡ true → is_present other run ≡ true → has_run_where test s one ≡ true
        → has_run_where test s other ≡ true
    together one other common h k m =
        any_weaker (λ run. test run && is_present one run) (λ run. test run && is_present other run)
        (λ run e. and_true (and_first (test run) (is_present one run) e)
        (present_alike one other common run h k (and_second (test run) (is_present one run) e)))
        s.runs m

-- as the option says
sound_cleared_for : (seats : ℕ) (option : Dealloc) (test : RunRow → Bool) (s : State) → IsSound seats s → IsSound seats (clear_for option test s)
sound_cleared_for seats ByRequeue test s h = sound_cleared seats WantRequeue test s h
sound_cleared_for seats ByTerminate test s h = sound_cleared seats WantTerminate test s h
sound_cleared_for seats TaskCompletion test s h = h
sound_cleared_for seats RetainedData test s h = h

-- nodes that pass a test leave by an option
pub sound_left : (seats : ℕ) (option : Dealloc) (test : NodeRow → Bool) (s : State) → IsSound seats s → IsSound seats (leave option test s)
sound_left seats option test s h =
    sound_cleared_for seats option (is_on test s) (with_leaving option test s) (sound_with_leaving seats option test s h)
